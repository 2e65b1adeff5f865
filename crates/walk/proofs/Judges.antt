-- A run's signals are the position's, and it lives exactly if the choice is a branch.
use Rattle.std.proofs.Common.{◌≡◌, ℕ, zero, suc, ◌<◌, Bool, true, false, cond, not, ◌&&◌, ◌||◌, length, sym, refl, ap, ◌∙◌, subst, inl, inr, arith}
use Rattle.std.proofs.lemmas.Bool.{cases_Bool, cases_eq, both_ways, and_parts, and_from}
use Rattle.tables.specs.declared.line.Line.{Line}
use Rattle.graph.specs.declared.node.Node.{Node}
use Rattle.graph.specs.Sets.{has}
use Rattle.tables.specs.Lines.{Lines, line}
use Rattle.graph.specs.Numbers.{eventuality}
use Rattle.graph.proofs.Ordered.{Ordered}
use Rattle.graph.specs.Unfolding.{Choice}
use Rattle.graph.specs.Pass.{Unfolded, opened, unfolded, signals, sane, position, branch, successor, unfold_below, put}
use Rattle.graph.proofs.Masks.{has_none, has_add_self, has_add_from, every_at, every_from}
use Rattle.walk.specs.declared.found.Found.{Found}
use Rattle.walk.specs.Walk.{walk, walked, start, finish, follower, history_of}
use Rattle.graph.specs.Unfolding.{Asks, Successor}
use Rattle.graph.proofs.Laws.{branch_is, position_asks, successor_is}
use Rattle.walk.specs.Exact.{BranchOf, Exact}
use Rattle.walk.proofs.Denials.{denials_asks}
use Rattle.walk.proofs.Gather.{Earlier, fewer, run_here, on_grows, off_grows, on_is, off_is, denials}
use Rattle.walk.proofs.Ins.{in_map, in_map_from}
use Rattle.walk.proofs.Runs.{pick, lives, move, run, alive, come, came, plain, run_unfolds, not_true, not_false}

-- no signal is both needed and denied
abbrev Apart : Found → Type 0
Apart f = (a : ℕ) → has f.on a ≡ true → has f.off a ≡ true → ⊥

pick_apart : (l : Line) (b : Bool) (k e : ℕ) (f : Found) → lives l f ≡ true → Apart f → Apart (pick l b k e f)
pick_apart Line.True b k e f h p = p
pick_apart Line.False b k e f h p = p
pick_apart (Line.Literal s true) b k e f h p = λ a x y.
    elim (has_add_from f.on s a x) [
      | inl q ↦ both_ways (has f.off s) (not_true (has f.off s) h) (subst (λ (z : ℕ). has f.off z ≡ true) q y)
      | inr q ↦ p a q y
    ]
pick_apart (Line.Literal s false) b k e f h p = λ a x y.
    elim (has_add_from f.off s a y) [
      | inl q ↦ both_ways (has f.on s) (not_true (has f.on s) h) (subst (λ (z : ℕ). has f.on z ≡ true) q x)
      | inr q ↦ p a x q
    ]
pick_apart (Line.And i j) b k e f h p = p
pick_apart (Line.Or i j) b k e f h p = p
pick_apart (Line.Always i) b k e f h p = p
pick_apart (Line.Eventually i) true k e f h p = p
pick_apart (Line.Eventually i) false k e f h p = p
pick_apart (Line.Next i) b k e f h p = p

move_apart : (b : Bool) (l : Line) (f p : Found) (x : Bool) → (cond b (lives l f) true && x) ≡ true → Apart f → (lives l f ≡ true → Apart p) → Apart (cond b p f)
move_apart true l f p x h a q = q (and_parts (lives l f) x h).0
move_apart false l f p x h a q = a

alive_apart : (t : Lines) (c : Choice) (k : ℕ) (f : Found) → alive t c k f ≡ true → Apart f → Apart (run t c k f)
unfolding run alive
alive_apart t c zero f h p = p
alive_apart t c (suc k) f h p =
    alive_apart t c k (move t c k f) (and_parts (cond (has f.seen k) (lives (line t k) f) true) (alive t c k (move t c k f)) h).1
    (move_apart (has f.seen k) (line t k) f (pick (line t k) (c k) k (eventuality t k) f) _ h p (λ q. pick_apart (line t k) (c k) k (eventuality t k) f q p))

-- a line that lived is sane in the end
live_sane : (l : Line) (b : Bool) (k e : ℕ) (f g : Found) → lives l f ≡ true → ((a : ℕ) → has (pick l b k e f).off a ≡ true → has g.off a ≡ true) → Apart g → sane l g.on ≡ true
live_sane Line.True b k e f g h m p = refl
live_sane Line.False b k e f g h m p = h
live_sane (Line.Literal s true) b k e f g h m p = refl
live_sane (Line.Literal s false) b k e f g h m p =
    elim (cases_Bool (has g.on s)) [
      | inl q ↦ absurd (p s q (m s (has_add_self f.off s)))
      | inr q ↦ not_false (has g.on s) q
    ]
live_sane (Line.And i j) b k e f g h m p = refl
live_sane (Line.Or i j) b k e f g h m p = refl
live_sane (Line.Always i) b k e f g h m p = refl
live_sane (Line.Eventually i) b k e f g h m p = refl
live_sane (Line.Next i) b k e f g h m p = refl

abbrev Sane : Lines → ℕ → Found → Type 0
Sane t k g = (j : ℕ) → j < k → has g.seen j ≡ true → sane (line t j) g.on ≡ true

hit_lives : (b : Bool) (l : Line) (f : Found) (x : Bool) → b ≡ true → (cond b (lives l f) true && x) ≡ true → lives l f ≡ true
hit_lives true l f x e h = (and_parts (lives l f) x h).0
hit_lives false l f x e h = absurd (both_ways false refl e)

hit_moves : (b : Bool) (f p : Found) → b ≡ true → cond b p f ≡ p
hit_moves true f p e = refl
hit_moves false f p e = absurd (both_ways false refl e)

pub alive_sane : (t : Lines) (c : Choice) (k : ℕ) (f : Found) → Earlier t k → alive t c k f ≡ true → Apart f → Sane t k (run t c k f)
unfolding run alive
alive_sane t c zero f u h p j l s = absurd (omega arith)
alive_sane t c (suc k) f u h p j l s =
    let m = move t c k f in
    let q = pick (line t k) (c k) k (eventuality t k) f in
    let r = run t c k m in
    let v : alive t c k m ≡ true = (and_parts (cond (has f.seen k) (lives (line t k) f) true) (alive t c k m) h).1 in
    let a : Apart m = move_apart (has f.seen k) (line t k) f q _ h p (λ z. pick_apart (line t k) (c k) k (eventuality t k) f z p) in
    elim (cases_eq j k) [
      | inl e ↦
          let here : has f.seen k ≡ true = sym (run_here t c k f u) ∙ subst (λ (x : ℕ). has r.seen x ≡ true) e s in
          let w : sane (line t k) r.on ≡ true =
          live_sane (line t k) (c k) k (eventuality t k) f r (hit_lives (has f.seen k) (line t k) f (alive t c k m) here h)
          (λ x y. off_grows t c k m (fewer t k u) x (subst (λ (z : Found). has z.off x ≡ true) (sym (hit_moves (has f.seen k) f q here)) y))
          (alive_apart t c k m v a) in
          subst (λ (x : ℕ). sane (line t x) r.on ≡ true) (sym e) w
      | inr ne ↦ alive_sane t c k m (fewer t k u) v a j (omega arith) s
    ]

-- and back
sane_live : (l : Line) (b : Bool) (k e : ℕ) (f g : Found) → sane l g.on ≡ true → ((a : ℕ) → has (pick l b k e f).on a ≡ true → has g.on a ≡ true)
    → ((a : ℕ) → has f.off a ≡ true → has g.on a ≡ false) → lives l f ≡ true
sane_live Line.True b k e f g s m d = refl
sane_live Line.False b k e f g s m d = s
sane_live (Line.Literal x true) b k e f g s m d =
    elim (cases_Bool (has f.off x)) [
      | inl q ↦ absurd (both_ways (has g.on x) (d x q) (m x (has_add_self f.on x)))
      | inr q ↦ not_false (has f.off x) q
    ]
sane_live (Line.Literal x false) b k e f g s m d =
    elim (cases_Bool (has f.on x)) [
      | inl q ↦ absurd (both_ways (has g.on x) (not_true (has g.on x) s) (m x q))
      | inr q ↦ not_false (has f.on x) q
    ]
sane_live (Line.And i j) b k e f g s m d = refl
sane_live (Line.Or i j) b k e f g s m d = refl
sane_live (Line.Always i) b k e f g s m d = refl
sane_live (Line.Eventually i) b k e f g s m d = refl
sane_live (Line.Next i) b k e f g s m d = refl

abbrev Denied : Found → Found → Type 0
Denied f g = (a : ℕ) → has f.off a ≡ true → has g.on a ≡ false

sane_denied : (l : Line) (b : Bool) (k e : ℕ) (f g : Found) → sane l g.on ≡ true → Denied f g → Denied (pick l b k e f) g
sane_denied Line.True b k e f g s d = d
sane_denied Line.False b k e f g s d = d
sane_denied (Line.Literal x true) b k e f g s d = d
sane_denied (Line.Literal x false) b k e f g s d = λ a h.
    elim (has_add_from f.off x a h) [
      | inl q ↦ subst (λ (z : ℕ). has g.on z ≡ false) (sym q) (not_true (has g.on x) s)
      | inr q ↦ d a q
    ]
sane_denied (Line.And i j) b k e f g s d = d
sane_denied (Line.Or i j) b k e f g s d = d
sane_denied (Line.Always i) b k e f g s d = d
sane_denied (Line.Eventually i) true k e f g s d = d
sane_denied (Line.Eventually i) false k e f g s d = d
sane_denied (Line.Next i) b k e f g s d = d

turn_denied : (b : Bool) (f p g : Found) → Denied f g → (b ≡ true → Denied p g) → Denied (cond b p f) g
turn_denied true f p g d h = h refl
turn_denied false f p g d h = d

turn_lives : (b : Bool) (l : Line) (f : Found) → (b ≡ true → lives l f ≡ true) → cond b (lives l f) true ≡ true
turn_lives true l f h = h refl
turn_lives false l f h = refl

pub sane_alive : (t : Lines) (c : Choice) (k : ℕ) (f : Found) → Earlier t k → Sane t k (run t c k f) → Denied f (run t c k f) → alive t c k f ≡ true
unfolding run alive
sane_alive t c zero f u s d = refl
sane_alive t c (suc k) f u s d =
    let m = move t c k f in
    let q = pick (line t k) (c k) k (eventuality t k) f in
    let r = run t c k m in
    let here : has f.seen k ≡ true → sane (line t k) r.on ≡ true = λ h. s k (omega arith) (run_here t c k f u ∙ h) in
    and_from (cond (has f.seen k) (lives (line t k) f) true) (alive t c k m)
    (turn_lives (has f.seen k) (line t k) f (λ h. sane_live (line t k) (c k) k (eventuality t k) f r (here h)
    (λ x y. on_grows t c k m (fewer t k u) x (subst (λ (z : Found). has z.on x ≡ true) (sym (hit_moves (has f.seen k) f q h)) y)) d))
    (sane_alive t c k m (fewer t k u) (λ j l. s j (omega arith)) (turn_denied (has f.seen k) f q r d (λ h. sane_denied (line t k) (c k) k (eventuality t k) f r (here h) d)))

-- from the node
module _ (t : Lines) (o : Ordered t) (n : Node) (c : Choice) where
  done : Found
  done = run t c (length t) (start t n)

  opened_plain : plain (start t n) ≡ opened t n
  unfolding opened
  opened_plain = refl

  done_unfolded : plain done ≡ unfolded t n c
  unfolding done unfolded
  done_unfolded = run_unfolds t c (length t) (start t n) ∙ ap (unfold_below t c (length t)) opened_plain

  done_seen : done.seen ≡ (unfolded t n c).now
  done_seen = ap (λ (u : Unfolded). u.now) done_unfolded

  done_on : done.on ≡ position t n c
  unfolding done position
  done_on = on_is t c (length t) (start t n) o.earlier refl ∙ ap (signals t (length t)) done_seen

  done_off : done.off ≡ denials t (length t) (unfolded t n c).now
  unfolding done
  done_off = off_is t c (length t) (start t n) o.earlier refl ∙ ap (denials t (length t)) done_seen

  done_next : follower t n done ≡ successor t n c
  unfolding successor history_of
  done_next = ap (λ (u : Unfolded). record { label = put t u.next; marks = u.later; history = history_of t n u.later }) done_unfolded

  none_apart : Apart (start t n)
  none_apart a h = absurd (both_ways (has 0 a) (has_none a) h)

  none_denied : Denied (start t n) done
  none_denied a h = absurd (both_ways (has 0 a) (has_none a) h)

  test : ℕ → Bool
  test k = not (has (unfolded t n c).now k) || sane (line t k) (position t n c)

  not_seen : (b s : Bool) → b ≡ true → (not b || s) ≡ true → s ≡ true
  not_seen true s e h = h
  not_seen false s e h = absurd (both_ways false refl e)

  seen_or : (b s : Bool) → (b ≡ true → s ≡ true) → (not b || s) ≡ true
  seen_or true s h = h refl
  seen_or false s h = refl

  pub branch_alive : branch t n c ≡ true → alive t c (length t) (start t n) ≡ true
  unfolding branch done
  branch_alive h =
      sane_alive t c (length t) (start t n) o.earlier
      (λ j l s.
      ap (sane (line t j)) done_on
      ∙ not_seen (has (unfolded t n c).now j) (sane (line t j) (position t n c)) (ap (λ (m : ℕ). has m j) (sym done_seen) ∙ s)
      (every_at (length t) (λ k. not (has (unfolded t n c).now k) || sane (line t k) (position t n c)) h j l))
      none_denied

  pub alive_branch : alive t c (length t) (start t n) ≡ true → branch t n c ≡ true
  unfolding branch done
  alive_branch h =
      every_from (length t) (λ k. not (has (unfolded t n c).now k) || sane (line t k) (position t n c))
      (λ j l. seen_or (has (unfolded t n c).now j) (sane (line t j) (position t n c)) (λ s.
      ap (sane (line t j)) (sym done_on)
      ∙ alive_sane t c (length t) (start t n) o.earlier h none_apart j l (ap (λ (m : ℕ). has m j) done_seen ∙ s)))

  of_done : alive t c (length t) (start t n) ≡ true → BranchOf t n c (finish t n done)
  of_done h =
      record {
        lawful = (branch_is t o n c).0 (alive_branch h);
        on = subst (Asks t n c true) (sym done_on) (position_asks t o n c);
        off = subst (Asks t n c false) (sym done_off) (denials_asks t o n c);
        leads = subst (Successor t n c) (sym done_next) (successor_is t o n c);
      }

-- the walk has the branches
pub walked_exact : (t : Lines) → Ordered t → (n : Node) → Exact t n (walked t n)
unfolding walked done
walked_exact t o n =
    record {
      every = λ c h.
          let a = branch_alive t o n c ((branch_is t o n c).1 h) in (
            finish t n (done t o n c),
            in_map (finish t n) (done t o n c) (walk t (length t) (start t n)) (come t c (length t) (start t n) a),
            of_done t o n c a,
          );
      only = λ b h.
          let r = in_map_from (finish t n) b (walk t (length t) (start t n)) h in
          let k = came t (length t) (start t n) r.0 r.1 in
          let e : finish t n (done t o n k.by) ≡ b = ap (finish t n) (sym k.is) ∙ sym r.2 in
          (k.by, subst (BranchOf t n k.by) e (of_done t o n k.by k.lived));
    }
