-- A run's signals are those that appear.
use Rattle.std.proofs.Common.{◌≡◌, ℕ, zero, suc, ◌<◌, ◌≤◌, Bool, true, false, cond, ◌||◌, List, sym, refl, ap, ◌∙◌, subst, inl, inr, arith}
use Rattle.std.proofs.lemmas.Bool.{cases_eq, or_left, or_right}
use Rattle.tables.specs.declared.line.Line.{Line}
use Rattle.graph.specs.Sets.{has, add}
use Rattle.tables.specs.Lines.{Lines, line}
use Rattle.graph.specs.Numbers.{eventuality}
use Rattle.graph.proofs.Ordered.{Under}
use Rattle.graph.specs.Unfolding.{Choice}
use Rattle.graph.specs.Pass.{sign, signals}
use Rattle.graph.proofs.Masks.{has_none, has_add_self, has_add_other}
use Rattle.graph.proofs.Laws.{same_set}
use Rattle.walk.specs.declared.found.Found.{Found}
use Rattle.walk.proofs.Runs.{pick, move, run}

pub mask_same : (a b : ℕ) → ((k : ℕ) → has a k ≡ has b k) → a ≡ b
mask_same a b h = same_set a b (λ k. (λ x. sym (h k) ∙ x, λ x. h k ∙ x))

-- a line's operands are below it, so that the bits from k up stay
pick_high : (l : Line) (b : Bool) (k e : ℕ) (f : Found) → Under l k → (j : ℕ) → k ≤ j → has (pick l b k e f).seen j ≡ has f.seen j
pick_high Line.True b k e f u j h = refl
pick_high Line.False b k e f u j h = refl
pick_high (Line.Literal s true) b k e f u j h = refl
pick_high (Line.Literal s false) b k e f u j h = refl
pick_high (Line.And x y) b k e f u j h =
    let p : x < k = u.0 in let q : y < k = u.1 in
    has_add_other (add f.seen x) y j (λ e. omega arith) ∙ has_add_other f.seen x j (λ e. omega arith)
pick_high (Line.Or x y) true k e f u j h = let p : x < k = u.0 in has_add_other f.seen x j (λ e. omega arith)
pick_high (Line.Or x y) false k e f u j h = let p : y < k = u.1 in has_add_other f.seen y j (λ e. omega arith)
pick_high (Line.Always x) b k e f u j h = has_add_other f.seen x j (λ e. omega arith)
pick_high (Line.Eventually x) true k e f u j h = has_add_other f.seen x j (λ e. omega arith)
pick_high (Line.Eventually x) false k e f u j h = refl
pick_high (Line.Next x) b k e f u j h = refl

cond_seen : (b : Bool) (f g : Found) (j : ℕ) → has g.seen j ≡ has f.seen j → has (cond b g f).seen j ≡ has f.seen j
cond_seen true f g j e = e
cond_seen false f g j e = refl

abbrev pub Earlier : Lines → ℕ → Type 0
Earlier t k = (j : ℕ) → j < k → Under (line t j) j

pub fewer : (t : Lines) (k : ℕ) → Earlier t (suc k) → Earlier t k
fewer t k h j l = h j (omega arith)

move_high : (t : Lines) (c : Choice) (k : ℕ) (f : Found) → Earlier t (suc k) → (j : ℕ) → k ≤ j → has (move t c k f).seen j ≡ has f.seen j
move_high t c k f u j l = cond_seen (has f.seen k) f (pick (line t k) (c k) k (eventuality t k) f) j (pick_high (line t k) (c k) k (eventuality t k) f (u k (omega arith)) j l)

run_high : (t : Lines) (c : Choice) (k : ℕ) (f : Found) → Earlier t k → (j : ℕ) → k ≤ j → has (run t c k f).seen j ≡ has f.seen j
unfolding run
run_high t c zero f u j l = refl
run_high t c (suc k) f u j l = run_high t c k (move t c k f) (fewer t k u) j (omega arith) ∙ move_high t c k f u j (omega arith)

-- line k is seen in the end iff it is seen when its turn comes
pub run_here : (t : Lines) (c : Choice) (k : ℕ) (f : Found) → Earlier t (suc k) → has (run t c k (move t c k f)).seen k ≡ has f.seen k
run_here t c k f u = run_high t c k (move t c k f) (fewer t k u) k (omega arith) ∙ move_high t c k f u k (omega arith)

-- the signals whose negation appears among the first k lines
abbrev pub unsign : Line → ℕ → ℕ
unsign Line.True m = m
unsign Line.False m = m
unsign (Line.Literal s true) m = m
unsign (Line.Literal s false) m = add m s
unsign (Line.And i j) m = m
unsign (Line.Or i j) m = m
unsign (Line.Always i) m = m
unsign (Line.Eventually i) m = m
unsign (Line.Next i) m = m

unfoldable pub denials : Lines → ℕ → ℕ → ℕ
denials t zero now = 0
denials t (suc k) now = cond (has now k) (unsign (line t k) (denials t k now)) (denials t k now)

-- what the seen lines below k add up to
gathers : (Line → ℕ → ℕ) → List Line → ℕ → ℕ → ℕ
gathers g t zero m = 0
gathers g t (suc k) m = cond (has m k) (g (line t k) (gathers g t k m)) (gathers g t k m)

or_none : (a : Bool) → a ≡ (a || false)
or_none true = refl
or_none false = refl

or_swap : (a s g : Bool) → ((a || s) || g) ≡ (a || (g || s))
or_swap true s g = refl
or_swap false true true = refl
or_swap false true false = refl
or_swap false false true = refl
or_swap false false false = refl

-- for a field of what is found, to which each seen line adds
module _
    (g : Line → ℕ → ℕ) (field : Found → ℕ)
    (adds : (l : Line) (b : Bool) (k e : ℕ) (f : Found) → field (pick l b k e f) ≡ g l (field f))
    (parts : (l : Line) (m a : ℕ) → has (g l m) a ≡ (has m a || has (g l 0) a))
  where
    gather_step : (t : Lines) (k a : ℕ) (f r : Found) (p : Found) (b : Bool) → has r.seen k ≡ b → field p ≡ g (line t k) (field f)
        → has (field r) a ≡ (has (field (cond b p f)) a || has (gathers g t k r.seen) a)
        → has (field r) a ≡ (has (field f) a || has (cond b (g (line t k) (gathers g t k r.seen)) (gathers g t k r.seen)) a)
    gather_step t k a f r p true h q e =
        e ∙ ap (λ (m : ℕ). has m a || has (gathers g t k r.seen) a) q
        ∙ ap (λ (v : Bool). v || has (gathers g t k r.seen) a) (parts (line t k) (field f) a)
        ∙ or_swap (has (field f) a) (has (g (line t k) 0) a) (has (gathers g t k r.seen) a)
        ∙ ap (λ (v : Bool). has (field f) a || v) (sym (parts (line t k) (gathers g t k r.seen) a))
    gather_step t k a f r p false h q e = e

    gathered : (t : Lines) (c : Choice) (k : ℕ) (f : Found) → Earlier t k → (a : ℕ)
        → has (field (run t c k f)) a ≡ (has (field f) a || has (gathers g t k (run t c k f).seen) a)
    unfolding run gathers
    gathered t c zero f u a = or_none (has (field f) a) ∙ ap (λ (v : Bool). has (field f) a || v) (sym (has_none a))
    gathered t c (suc k) f u a =
        let r = run t c k (move t c k f) in
        let h = run_here t c k f u in
        let p = pick (line t k) (c k) k (eventuality t k) f in
        gather_step t k a f r p (has f.seen k) h (adds (line t k) (c k) k (eventuality t k) f) (gathered t c k (move t c k f) (fewer t k u) a)
        ∙ ap (λ (v : Bool). has (field f) a || has (cond v (g (line t k) (gathers g t k r.seen)) (gathers g t k r.seen)) a) (sym h)

    grows : (t : Lines) (c : Choice) (k : ℕ) (f : Found) → Earlier t k → (a : ℕ) → has (field f) a ≡ true → has (field (run t c k f)) a ≡ true
    grows t c k f u a h = gathered t c k f u a ∙ or_left (has (field f) a) _ h

plus : (m s a : ℕ) → has (add m s) a ≡ (has m a || has (add 0 s) a)
plus m s a =
    elim (cases_eq a s) [
      | inl e ↦ subst (λ (x : ℕ). has (add m x) a ≡ (has m a || has (add 0 x) a)) e (has_add_self m a ∙ sym (or_right (has m a) (has (add 0 a) a) (has_add_self 0 a)))
      | inr h ↦ has_add_other m s a h ∙ or_none (has m a) ∙ ap (λ (v : Bool). has m a || v) (sym (has_add_other 0 s a h ∙ has_none a))
    ]

same : (m a : ℕ) → has m a ≡ (has m a || has 0 a)
same m a = or_none (has m a) ∙ ap (λ (v : Bool). has m a || v) (sym (has_none a))

sign_parts : (l : Line) (m a : ℕ) → has (sign l m) a ≡ (has m a || has (sign l 0) a)
sign_parts Line.True m a = same m a
sign_parts Line.False m a = same m a
sign_parts (Line.Literal s true) m a = plus m s a
sign_parts (Line.Literal s false) m a = same m a
sign_parts (Line.And i j) m a = same m a
sign_parts (Line.Or i j) m a = same m a
sign_parts (Line.Always i) m a = same m a
sign_parts (Line.Eventually i) m a = same m a
sign_parts (Line.Next i) m a = same m a

unsign_parts : (l : Line) (m a : ℕ) → has (unsign l m) a ≡ (has m a || has (unsign l 0) a)
unsign_parts Line.True m a = same m a
unsign_parts Line.False m a = same m a
unsign_parts (Line.Literal s true) m a = same m a
unsign_parts (Line.Literal s false) m a = plus m s a
unsign_parts (Line.And i j) m a = same m a
unsign_parts (Line.Or i j) m a = same m a
unsign_parts (Line.Always i) m a = same m a
unsign_parts (Line.Eventually i) m a = same m a
unsign_parts (Line.Next i) m a = same m a

on_adds : (l : Line) (b : Bool) (k e : ℕ) (f : Found) → (pick l b k e f).on ≡ sign l f.on
on_adds Line.True b k e f = refl
on_adds Line.False b k e f = refl
on_adds (Line.Literal s true) b k e f = refl
on_adds (Line.Literal s false) b k e f = refl
on_adds (Line.And i j) b k e f = refl
on_adds (Line.Or i j) b k e f = refl
on_adds (Line.Always i) b k e f = refl
on_adds (Line.Eventually i) true k e f = refl
on_adds (Line.Eventually i) false k e f = refl
on_adds (Line.Next i) b k e f = refl

off_adds : (l : Line) (b : Bool) (k e : ℕ) (f : Found) → (pick l b k e f).off ≡ unsign l f.off
off_adds Line.True b k e f = refl
off_adds Line.False b k e f = refl
off_adds (Line.Literal s true) b k e f = refl
off_adds (Line.Literal s false) b k e f = refl
off_adds (Line.And i j) b k e f = refl
off_adds (Line.Or i j) b k e f = refl
off_adds (Line.Always i) b k e f = refl
off_adds (Line.Eventually i) true k e f = refl
off_adds (Line.Eventually i) false k e f = refl
off_adds (Line.Next i) b k e f = refl

pub on_grows : (t : Lines) (c : Choice) (k : ℕ) (f : Found) → Earlier t k → (a : ℕ) → has f.on a ≡ true → has (run t c k f).on a ≡ true
on_grows = grows sign (λ f. f.on) on_adds sign_parts

pub off_grows : (t : Lines) (c : Choice) (k : ℕ) (f : Found) → Earlier t k → (a : ℕ) → has f.off a ≡ true → has (run t c k f).off a ≡ true
off_grows = grows unsign (λ f. f.off) off_adds unsign_parts

signals_gather : (t : Lines) (k m : ℕ) → gathers sign t k m ≡ signals t k m
unfolding gathers signals
signals_gather t zero m = refl
signals_gather t (suc k) m = ap (λ (x : ℕ). cond (has m k) (sign (line t k) x) x) (signals_gather t k m)

-- the run's signals are the position's
pub on_is : (t : Lines) (c : Choice) (k : ℕ) (f : Found) → Earlier t k → f.on ≡ 0 → (run t c k f).on ≡ signals t k (run t c k f).seen
on_is t c k f u z =
    mask_same _ _ (λ a.
    gathered sign (λ f. f.on) on_adds sign_parts t c k f u a
    ∙ ap (λ (v : Bool). v || has (gathers sign t k (run t c k f).seen) a) (ap (λ (m : ℕ). has m a) z ∙ has_none a)
    ∙ ap (λ (m : ℕ). has m a) (signals_gather t k (run t c k f).seen))

denials_gather : (t : Lines) (k m : ℕ) → gathers unsign t k m ≡ denials t k m
unfolding gathers denials
denials_gather t zero m = refl
denials_gather t (suc k) m = ap (λ (x : ℕ). cond (has m k) (unsign (line t k) x) x) (denials_gather t k m)

pub off_is : (t : Lines) (c : Choice) (k : ℕ) (f : Found) → Earlier t k → f.off ≡ 0 → (run t c k f).off ≡ denials t k (run t c k f).seen
off_is t c k f u z =
    mask_same _ _ (λ a.
    gathered unsign (λ f. f.off) off_adds unsign_parts t c k f u a
    ∙ ap (λ (v : Bool). v || has (gathers unsign t k (run t c k f).seen) a) (ap (λ (m : ℕ). has m a) z ∙ has_none a)
    ∙ ap (λ (m : ℕ). has m a) (denials_gather t k (run t c k f).seen))
