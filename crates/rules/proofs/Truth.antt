-- Truth on a run is decided: past the lead-in it comes again after each turn of the cycle.
use Rattle.std.proofs.Common.{◌≡◌, ℕ, zero, suc, ◌+◌, ◌-◌, ◌%◌, ◌<◌, ◌≤◌, true, ltb, ◌⊎◌, length, get_or, sym, refl, ap, ◌∙◌, subst, inl, inr, add-zero, arith}
use mathlib.Core.Bool.{Bool-discrete}
use native.Mathlib.Nat.{add-mod_right}
use Rattle.std.proofs.lemmas.Bool.{cases_lt, cond-false, le-ltb}
use Rattle.rules.specs.declared.syntax.Atom.TheVariants.{True, False, Signal}
use Rattle.rules.specs.declared.syntax.Unary.TheVariants.{Not, Always, Eventually, Next}
use Rattle.rules.specs.declared.syntax.Binary.TheVariants.{And, Or, Implies, Equivalent}
use Rattle.rules.specs.Formula.{Formula, atom, unary, binary}
use Rattle.rules.specs.Runs.{on, Holds, Run, at, Decided}

-- truth depends only on what is to come
pub Alike : (ℕ → ℕ) → ℕ → (ℕ → ℕ) → ℕ → Type 0
Alike v i w j = (d : ℕ) → v (i + d) ≡ w (j + d)

alike_sym : (v : ℕ → ℕ) (i : ℕ) (w : ℕ → ℕ) (j : ℕ) → Alike v i w j → Alike w j v i
unfolding Alike
alike_sym v i w j h d = sym (h d)

-- d times later
alike_later : (v : ℕ → ℕ) (i : ℕ) (w : ℕ → ℕ) (j : ℕ) (d a b : ℕ) → a ≡ i + d → b ≡ j + d → Alike v i w j → Alike v a w b
unfolding Alike
alike_later v i w j d a b p q h e =
    let x : a + e ≡ i + (d + e) = omega arith in
    let y : b + e ≡ j + (d + e) = omega arith in
    ap v x ∙ h (d + e) ∙ sym (ap w y)

alike_here : (v : ℕ → ℕ) (i : ℕ) (w : ℕ → ℕ) (j : ℕ) → Alike v i w j → v i ≡ w j
unfolding Alike
alike_here v i w j h = sym (ap v (add-zero i)) ∙ h 0 ∙ ap w (add-zero j)

pub suffix : (f : Formula) (v : ℕ → ℕ) (i : ℕ) (w : ℕ → ℕ) (j : ℕ) → Alike v i w j → Holds f v i → Holds f w j
suffix (atom True) v i w j s h = tt
suffix (atom False) v i w j s h = h
suffix (atom (Signal k)) v i w j s h = sym (ap (λ (x : ℕ). on x k) (alike_here v i w j s)) ∙ h
suffix (unary Not f) v i w j s h = λ x. h (suffix f w j v i (alike_sym v i w j s) x)
suffix (unary Always f) v i w j s h =
    λ k l. suffix f v (i + (k - j)) w k (alike_later v i w j (k - j) (i + (k - j)) k refl (omega arith) s) (h (i + (k - j)) (omega arith))
suffix (unary Eventually f) v i w j s h =
    let k : ℕ = h.0 in
    let l : i ≤ k = h.1 in
    (j + (k - i), omega arith, suffix f v k w (j + (k - i)) (alike_later v i w j (k - i) k (j + (k - i)) (omega arith) refl s) h.2)
suffix (unary Next f) v i w j s h = suffix f v (suc i) w (suc j) (alike_later v i w j 1 (suc i) (suc j) (omega arith) (omega arith) s) h
suffix (binary And f g) v i w j s h = (suffix f v i w j s h.0, suffix g v i w j s h.1)
suffix (binary Or f g) v i w j s (inl h) = inl (suffix f v i w j s h)
suffix (binary Or f g) v i w j s (inr h) = inr (suffix g v i w j s h)
suffix (binary Implies f g) v i w j s h = λ x. suffix g v i w j s (h (suffix f w j v i (alike_sym v i w j s) x))
suffix (binary Equivalent f g) v i w j s h = (
  λ x. suffix g v i w j s (h.0 (suffix f w j v i (alike_sym v i w j s) x)),
  λ x. suffix f v i w j s (h.1 (suffix g w j v i (alike_sym v i w j s) x)),
)

dec_not : {A : Type 0} → Dec A → Dec (A → ⊥)
dec_not (yes x) = no (λ h. h x)
dec_not (no h) = yes h

dec_and : {A B : Type 0} → Dec A → Dec B → Dec (A × B)
dec_and (yes x) (yes y) = yes (x, y)
dec_and (yes x) (no h) = no (λ z. h z.1)
dec_and (no h) d = no (λ z. h z.0)

dec_or : {A B : Type 0} → Dec A → Dec B → Dec (A ⊎ B)
dec_or (yes x) d = yes (inl x)
dec_or (no h) (yes y) = yes (inr y)
dec_or (no h) (no k) = no (λ z. elim z [ inl x ↦ h x | inr y ↦ k y ])

dec_imp : {A B : Type 0} → Dec A → Dec B → Dec (A → B)
dec_imp (no h) d = yes (λ x. absurd (h x))
dec_imp (yes x) (yes y) = yes (λ z. y)
dec_imp (yes x) (no h) = no (λ z. h (z x))

-- a search among finitely many times
unfoldable pub find : (P : ℕ → Type 0) → ((i : ℕ) → Dec (P i)) → (i n : ℕ)
    → ((j : ℕ) × (i ≤ j) × P j) ⊎ ((j : ℕ) → i ≤ j → j < i + n → P j → ⊥)
find P dec i zero = inr (λ j a b p. omega arith)
find P dec i (suc n) =
    elim (find P dec i n) [
      | inl h ↦ inl h
      | inr h ↦ elim (dec (i + n)) [
        | yes p ↦ inl (i + n, omega arith, p)
        | no q ↦ inr (λ j a b p. elim (cases_lt j (i + n)) [ inl l ↦ h j a l p | inr l ↦ q (subst P (omega arith) p) ])
      ]
    ]

module _ (w : ℕ → ℕ) (a p : ℕ) (pos : 0 < p) (again : (i : ℕ) → a ≤ i → w (i + p) ≡ w i) where
  turn : (i : ℕ) → a ≤ i → Alike w (i + p) w i
  unfolding Alike
  turn i h d = ap w (omega arith) ∙ again (i + d) (omega arith)

  -- a time from i on on one with the same truths before max i a + p
  back : (P : ℕ → Type 0) → ((j : ℕ) → a ≤ j → P (j + p) → P j) → (i n : ℕ)
      → ((j : ℕ) → i ≤ j → j < i + (a + p) → P j → ⊥) → (j : ℕ) → j < n → i ≤ j → P j → ⊥
  back P down i zero none j l h x = omega arith
  back P down i (suc n) none j l h x =
      elim (cases_lt j (i + (a + p))) [
        | inl s ↦ none j h s x
        | inr s ↦ back P down i n none (j - p) (omega arith) (omega arith) (down (j - p) (omega arith) (subst P (omega arith) x))
      ]

  pub decided : (f : Formula) (i : ℕ) → Dec (Holds f w i)
  decided (atom True) i = yes tt
  decided (atom False) i = no (λ x. x)
  decided (atom (Signal k)) i = Bool-discrete (on (w i) k) true
  decided (unary Not f) i = dec_not (decided f i)
  decided (unary Always f) i =
      elim (find (λ j. Holds f w j → ⊥) (λ j. dec_not (decided f j)) i (a + p)) [
        | inl h ↦ no (λ x. h.2 (x h.0 h.1))
        | inr h ↦ yes (λ j l. elim (decided f j) [
          | yes x ↦ x
          | no q ↦ absurd (back (λ k. Holds f w k → ⊥) (λ k m q x. q (suffix f w k w (k + p) (alike_sym w (k + p) w k (turn k m)) x)) i (suc j) h j (omega arith) l q)
        ])
      ]
  decided (unary Eventually f) i =
      elim (find (λ j. Holds f w j) (decided f) i (a + p)) [
        | inl h ↦ yes h
        | inr h ↦ no (λ x. back (λ j. Holds f w j) (λ j l. suffix f w (j + p) w j (turn j l)) i (suc x.0) h x.0 (omega arith) x.1 x.2)
      ]
  decided (unary Next f) i = decided f (suc i)
  decided (binary And f g) i = dec_and (decided f i) (decided g i)
  decided (binary Or f g) i = dec_or (decided f i) (decided g i)
  decided (binary Implies f g) i = dec_imp (decided f i) (decided g i)
  decided (binary Equivalent f g) i = dec_and (dec_imp (decided f i) (decided g i)) (dec_imp (decided g i) (decided f i))

at_late : (r : Run) (i : ℕ) → length r.lead ≤ i → at r i ≡ get_or r.cycle ((i - length r.lead) % length r.cycle) 0
unfolding at
at_late r i h = cond-false (ltb i (length r.lead)) (get_or r.lead i 0) (get_or r.cycle ((i - length r.lead) % length r.cycle) 0) (le-ltb i (length r.lead) h)

pub at_again : (r : Run) (i : ℕ) → length r.lead ≤ i → at r (i + length r.cycle) ≡ at r i
at_again r i h =
    let a : ℕ = length r.lead in
    let p : ℕ = length r.cycle in
    let e : i + p - a ≡ (i - a) + p = omega arith in
    at_late r (i + p) (omega arith) ∙ ap (λ (x : ℕ). get_or r.cycle (x % p) 0) e
    ∙ ap (λ (x : ℕ). get_or r.cycle x 0) (add-mod_right (i - a) p) ∙ sym (at_late r i h)

pub run_dec : (f : Formula) (r : Run) (i : ℕ) → Dec (Holds f (at r) i)
run_dec f r i = decided (at r) (length r.lead) (length r.cycle) r.lasts (at_again r) f i

pub run_decided : Decided
run_decided f r i = elim (run_dec f r i) [ yes h ↦ inl h | no h ↦ inr h ]

-- one turn of the cycle later the same is true
pub a_turn : (r : Run) (f : Formula) (i : ℕ) → length r.lead ≤ i → Holds f (at r) (i + length r.cycle) → Holds f (at r) i
a_turn r f i h = suffix f (at r) (i + length r.cycle) (at r) i (turn (at r) (length r.lead) (length r.cycle) r.lasts (at_again r) i h)

pub turn_back : (r : Run) (f : Formula) (i : ℕ) → length r.lead ≤ i → Holds f (at r) i → Holds f (at r) (i + length r.cycle)
turn_back r f i h =
    suffix f (at r) i (at r) (i + length r.cycle)
    (alike_sym (at r) (i + length r.cycle) (at r) i (turn (at r) (length r.lead) (length r.cycle) r.lasts (at_again r) i h))
