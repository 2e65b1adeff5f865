-- The loops of `put`, `history` and `open`, turn by turn.
use Rattle.std.proofs.Common.{◌≡◌, ℕ, zero, suc, ◌+◌, ◌-◌, ◌*◌, ◌^◌, ◌<◌, Bool, true, false, cond, not, ◌&&◌, ◌||◌, length, sym, refl, ap, ◌∙◌, inl, inr, add-one, pow-suc, arith}
use lib.Bits.{bit_or}
use Rattle.std.specs.Int.Bits.{or_shifted_r}
use Rattle.tables.specs.declared.line.Line.{Line}
use Rattle.graph.specs.Sets.{has, add, set_of}
use Rattle.tables.specs.Lines.{Lines, line, is_eventuality}
use Rattle.graph.specs.Pass.{spread, spread_below, put}
use Rattle.graph.specs.Unfolding.{stays}
use Rattle.graph.proofs.Masks.{set_of_has, set_of_from, set_of_lt, set_of_same, set_of_none, has_none}
use Rattle.std.proofs.lemmas.Bool.{cases_Bool, cases_lt, both_ways, and_from}
use Rattle.graph.specs.declared.node.Node.{Node}
use Rattle.graph.specs.Numbers.{eventuality}
use Rattle.graph.specs.Pass.{everything, is_omega}
use Rattle.walk.specs.Walk.{is_marked, history_of}
use Rattle.walk.proofs.Gather.{mask_same}
use Rattle.walk.specs.Fits.{is_and, stays_at, and_at}

spread_suc : (t : Lines) (k m : ℕ) → spread_below t (suc k) m ≡ spread_below t k (cond (has m k) (spread (line t k) m) m)
unfolding spread_below
spread_suc t k m = refl

at_suc : (t : Lines) (k m : ℕ) → 0 < k → spread_below t k m ≡ spread_below t (k - 1) (cond (has m (k - 1)) (spread (line t (k - 1)) m) m)
at_suc t k m l = let e : k ≡ suc (k - 1) = omega arith in ap (λ (x : ℕ). spread_below t x m) e ∙ spread_suc t (k - 1) m

pub spread_hit : (t : Lines) (k m : ℕ) → 0 < k → has m (k - 1) ≡ true → spread_below t (k - 1) (spread (line t (k - 1)) m) ≡ spread_below t k m
spread_hit t k m l h = sym (at_suc t k m l ∙ ap (λ (b : Bool). spread_below t (k - 1) (cond b (spread (line t (k - 1)) m) m)) h)

pub spread_miss : (t : Lines) (k m : ℕ) → 0 < k → has m (k - 1) ≡ false → spread_below t (k - 1) m ≡ spread_below t k m
spread_miss t k m l h = sym (at_suc t k m l ∙ ap (λ (b : Bool). spread_below t (k - 1) (cond b (spread (line t (k - 1)) m) m)) h)

pub spread_none : (t : Lines) (m : ℕ) → spread_below t 0 m ≡ m
unfolding spread_below
spread_none t m = refl

set_suc : (k : ℕ) (f : ℕ → Bool) → set_of (suc k) f ≡ cond (f k) (add (set_of k f) k) (set_of k f)
unfolding set_of
set_suc k f = refl

pub set_more : (k : ℕ) (f : ℕ → Bool) → cond (f k) (add (set_of k f) k) (set_of k f) ≡ set_of (k + 1) f
set_more k f = sym (ap (λ (x : ℕ). set_of x f) (add-one k) ∙ set_suc k f)

pub set_none : (f : ℕ → Bool) → set_of 0 f ≡ 0
unfolding set_of
set_none f = refl

-- one turn of a loop that collects the numbers that pass
pub set_turn : (f : ℕ → Bool) (k a r : ℕ) (b : Bool) → a ≡ set_of k f → b ≡ f k → r ≡ cond b (add a k) a → r ≡ set_of (k + 1) f
set_turn f k a r b ea eb er =
    er ∙ ap (λ (v : Bool). cond v (add a k) a) eb ∙ ap (λ (x : ℕ). cond (f k) (add x k) x) ea ∙ set_more k f

and_all : (a : Bool) → (a && true) ≡ a
and_all true = refl
and_all false = refl

and_none : (a : Bool) → (a && false) ≡ false
and_none true = refl
and_none false = refl

-- without marks no line is marked
pub unmarked : (t : Lines) (n : ℕ) → set_of n (is_marked t 0) ≡ 0
unmarked t n =
    set_of_same n (is_marked t 0) (λ k. false) (λ k l.
    ap (λ (b : Bool). is_eventuality (line t k) && b) (has_none (eventuality t k)) ∙ and_none (is_eventuality (line t k)))
    ∙ set_of_none n

out : (n : ℕ) (f : ℕ → Bool) (k : ℕ) → (k < n → ⊥) → has (set_of n f) k ≡ false
out n f k h = elim (cases_Bool (has (set_of n f) k)) [ inl e ↦ absurd (h (set_of_from n f k e).0) | inr e ↦ e ]

-- what a set has in common with those that pass a test
filtered : (n s x : ℕ) (f : ℕ → Bool) → ((k : ℕ) → has x k ≡ (has s k && has (set_of n f) k)) → x ≡ set_of n (λ k. has s k && f k)
filtered n s x f h =
    mask_same _ _ (λ k.
    h k ∙ elim (cases_lt k n) [
      | inl l ↦ ap (λ (v : Bool). has s k && v) (set_of_has n f k l) ∙ sym (set_of_has n (λ j. has s j && f j) k l)
      | inr l ↦
          ap (λ (v : Bool). has s k && v) (out n f k (λ h. omega arith)) ∙ and_none (has s k)
          ∙ sym (out n (λ j. has s j && f j) k (λ h. omega arith))
    ])

filled : (n : ℕ) → set_of n (λ k. true) + 1 ≡ 2 ^ n
unfolding set_of add
filled zero = refl
filled (suc n) =
    let f : ℕ → Bool = λ k. true in
    let one : 2 ^ n ≡ 1 * 2 ^ n = omega arith in
    let more : bit_or (set_of n f) (2 ^ n) ≡ 1 * 2 ^ n + set_of n f = ap (bit_or (set_of n f)) one ∙ or_shifted_r 1 n (set_of n f) (set_of_lt n f) in
    omega (arith, more, filled n, pow-suc 2 n)

-- the numbers below n, as a mask
pub full : (n : ℕ) → 2 ^ n - 1 ≡ set_of n (λ k. true)
full n = omega (arith, filled n)

-- what a set has below n, and those below n that pass a test
pub joined : (n s p c m x : ℕ) (f : ℕ → Bool) → p ≡ set_of n (λ k. true) → m ≡ set_of n f
    → ((k : ℕ) → has c k ≡ (has s k && has p k)) → ((k : ℕ) → has x k ≡ (has c k || has m k)) → x ≡ set_of n (λ k. has s k || f k)
joined n s p c m x f ep em hc hx =
    let g : ℕ → Bool = λ k. has s k || f k in
    mask_same _ _ (λ k.
    let h : has x k ≡ ((has s k && has (set_of n (λ k. true)) k) || has (set_of n f) k) =
    hx k ∙ ap (λ (b : Bool). b || has m k) (hc k ∙ ap (λ (y : ℕ). has s k && has y k) ep) ∙ ap (λ (y : ℕ). (has s k && has (set_of n (λ k. true)) k) || has y k) em in
    h ∙ elim (cases_lt k n) [
      | inl l ↦
          ap (λ (b : Bool). (has s k && b) || has (set_of n f) k) (set_of_has n (λ k. true) k l)
          ∙ ap (λ (b : Bool). b || has (set_of n f) k) (and_all (has s k)) ∙ ap (λ (b : Bool). has s k || b) (set_of_has n f k l) ∙ sym (set_of_has n g k l)
      | inr l ↦
          ap (λ (b : Bool). (has s k && b) || has (set_of n f) k) (out n (λ k. true) k (λ h. omega arith))
          ∙ ap (λ (b : Bool). b || has (set_of n f) k) (and_none (has s k)) ∙ out n f k (λ h. omega arith) ∙ sym (out n g k (λ h. omega arith))
    ])

pub put_full : (t : Lines) (m n s x : ℕ) → length t ≡ n → s ≡ set_of n (stays_at t) → ((k : ℕ) → has x k ≡ (has (spread_below t n m) k && has s k)) → x ≡ put t m
unfolding put
put_full t m n s x e h b =
    filtered n (spread_below t n m) x (stays_at t) (λ k. b k ∙ ap (λ (y : ℕ). has (spread_below t n m) k && has y k) h)
    ∙ ap (λ (y : ℕ). set_of y (λ k. has (spread_below t y m) k && stays (line t k))) (sym e)

-- where no conjunction is put nothing is split
whole_line : (l : Line) (m : ℕ) → is_and l ≡ false → spread l m ≡ m
whole_line Line.True m h = refl
whole_line Line.False m h = refl
whole_line (Line.Literal s b) m h = refl
whole_line (Line.And i j) m h = absurd (both_ways true h refl)
whole_line (Line.Or i j) m h = refl
whole_line (Line.Always i) m h = refl
whole_line (Line.Eventually i) m h = refl
whole_line (Line.Next i) m h = refl

keep : (b : Bool) (x m : ℕ) → (b ≡ true → x ≡ m) → cond b x m ≡ m
keep true x m h = h refl
keep false x m h = refl

spread_stays : (t : Lines) (m k : ℕ) → ((j : ℕ) → j < k → has m j ≡ true → is_and (line t j) ≡ false) → spread_below t k m ≡ m
unfolding spread_below
spread_stays t m zero h = refl
spread_stays t m (suc k) h =
    ap (spread_below t k) (keep (has m k) (spread (line t k) m) m (λ e. whole_line (line t k) m (h k (omega arith) e)))
    ∙ spread_stays t m k (λ j l. h j (omega arith))

pub put_plain : (t : Lines) (m n s a x z : ℕ) → length t ≡ n → s ≡ set_of n (stays_at t) → a ≡ set_of n (and_at t)
    → ((k : ℕ) → has z k ≡ (has m k && has a k)) → z ≡ 0 → ((k : ℕ) → has x k ≡ (has m k && has s k)) → x ≡ put t m
put_plain t m n s a x z e hs ha hz empty hx =
    let same : spread_below t n m ≡ m = spread_stays t m n (λ j l h.
    elim (cases_Bool (is_and (line t j))) [
      | inl q ↦
          let there : has a j ≡ true = ap (λ (y : ℕ). has y j) ha ∙ set_of_has n (and_at t) j l ∙ q in
          absurd (both_ways (has 0 j) (has_none j) (sym (ap (λ (y : ℕ). has y j) empty) ∙ hz j ∙ and_from (has m j) (has a j) h there))
      | inr q ↦ q
    ]) in
    put_full t m n s x e hs (λ k. hx k ∙ ap (λ (y : ℕ). has y k && has s k) (sym same))

-- V without what is put off and was not had before
kept_bits : (v l h w : Bool) → (v && not (l && not (h && not w))) ≡ (v && (not l || (h && not w)))
kept_bits true true true true = refl
kept_bits true true true false = refl
kept_bits true true false true = refl
kept_bits true true false false = refl
kept_bits true false h w = refl
kept_bits false l h w = refl

old_bits : (w : Bool) (h k : ℕ) → has (cond w 0 h) k ≡ (has h k && not w)
old_bits true h k = has_none k ∙ sym (and_none (has h k))
old_bits false h k = sym (and_all (has h k))

pub history_is : (t : Lines) (n : Node) (all later old gone r : ℕ) → all ≡ everything t → old ≡ cond (is_omega t n) 0 n.history
    → ((k : ℕ) → has gone k ≡ (has later k && not (has old k))) → ((k : ℕ) → has r k ≡ (has all k && not (has gone k))) → r ≡ history_of t n later
unfolding everything history_of
history_is t n all later old gone r ea eo eg er =
    let V : ℕ = eventuality t (length t) in
    let f : ℕ → Bool = λ e. not (has later e) || (has n.history e && not (is_omega t n)) in
    mask_same r (set_of V f) (λ k.
    let g : has gone k ≡ (has later k && not (has n.history k && not (is_omega t n))) =
    eg k ∙ ap (λ (b : Bool). has later k && not b) (ap (λ (x : ℕ). has x k) eo ∙ old_bits (is_omega t n) n.history k) in
    let h : has r k ≡ (has (set_of V (λ e. true)) k && f k) =
    er k ∙ ap (λ (b : Bool). has all k && not b) g ∙ kept_bits (has all k) (has later k) (has n.history k) (is_omega t n)
    ∙ ap (λ (x : ℕ). has x k && f k) ea in
    h ∙ elim (cases_lt k V) [
      | inl l ↦ ap (λ (b : Bool). b && f k) (set_of_has V (λ e. true) k l) ∙ sym (set_of_has V f k l)
      | inr l ↦ ap (λ (b : Bool). b && f k) (out V (λ e. true) k (λ h. omega arith)) ∙ sym (out V f k (λ h. omega arith))
    ])
