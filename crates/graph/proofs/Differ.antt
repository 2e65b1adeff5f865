-- More of the program's operations on masks.
use Rattle.std.proofs.Common.{◌≡◌, ℕ, ◌/◌, ◌%◌, ◌^◌, ◌<◌, ◌≤◌, Bool, true, false, not, ◌&&◌, ◌||◌, eqb, ltb, ◌⊎◌, Decides, sym, refl, ap, ◌∙◌, subst, ap₂, inl, inr, arith}
use native.Mathlib.Nat.{div-eq_of_lt}
use lib.Bits.{bit_and, bit_xor}
use Rattle.std.proofs.lemmas.Nat.{xor_shr, xor_mod, pow_below}
use Rattle.std.proofs.lemmas.Bool.{cases_eq, and_parts, eqb-true, eq-eqb, le-ltb}
use Rattle.rules.specs.Runs.{on}
use Rattle.graph.specs.Sets.{has}
use Rattle.graph.proofs.Words.{has_and}
use Rattle.graph.proofs.Laws.{same_set}

digit : (a : ℕ) → (a % 2 ≡ 0) ⊎ (a % 2 ≡ 1)
digit a = elim (cases_eq (a % 2) 0) [ inl e ↦ inl e | inr h ↦ inr (omega arith) ]

abbrev apart : Bool → Bool → Bool
apart x y = (x && not y) || (y && not x)

xor_digit : (a b : ℕ) → (a ≡ 0) ⊎ (a ≡ 1) → (b ≡ 0) ⊎ (b ≡ 1) → eqb (bit_xor a b) 1 ≡ apart (eqb a 1) (eqb b 1)
xor_digit a b (inl p) (inl q) = ap₂ (λ (x y : ℕ). eqb (bit_xor x y) 1) p q ∙ sym (ap₂ (λ (x y : ℕ). apart (eqb x 1) (eqb y 1)) p q)
xor_digit a b (inl p) (inr q) = ap₂ (λ (x y : ℕ). eqb (bit_xor x y) 1) p q ∙ sym (ap₂ (λ (x y : ℕ). apart (eqb x 1) (eqb y 1)) p q)
xor_digit a b (inr p) (inl q) = ap₂ (λ (x y : ℕ). eqb (bit_xor x y) 1) p q ∙ sym (ap₂ (λ (x y : ℕ). apart (eqb x 1) (eqb y 1)) p q)
xor_digit a b (inr p) (inr q) = ap₂ (λ (x y : ℕ). eqb (bit_xor x y) 1) p q ∙ sym (ap₂ (λ (x y : ℕ). apart (eqb x 1) (eqb y 1)) p q)

has_xor : (a b k : ℕ) → has (bit_xor a b) k ≡ apart (has a k) (has b k)
unfolding on
has_xor a b k =
    ap (λ (x : ℕ). eqb (x % 2) 1) (xor_shr a b k) ∙ ap (λ (x : ℕ). eqb x 1) (xor_mod (a / 2 ^ k) (b / 2 ^ k) 1)
    ∙ xor_digit (a / 2 ^ k % 2) (b / 2 ^ k % 2) (digit (a / 2 ^ k)) (digit (b / 2 ^ k))

less : (x y : Bool) → apart x (x && y) ≡ (x && not y)
less true true = refl
less true false = refl
less false true = refl
less false false = refl

-- `a ^ (a & b)`
pub has_less : (a b k : ℕ) → has (bit_xor a (bit_and a b)) k ≡ (has a k && not (has b k))
has_less a b k = has_xor a (bit_and a b) k ∙ ap (apart (has a k)) (has_and a b k) ∙ less (has a k) (has b k)

-- a set of numbers below w has none from w on
pub has_beyond : (m w k : ℕ) → m < 2 ^ w → w ≤ k → has m k ≡ false
unfolding on
has_beyond m w k h l =
    let s : m < 2 ^ k = elim (cases_eq w k) [ inl e ↦ subst (λ (x : ℕ). m < 2 ^ x) e h | inr d ↦ omega (arith, pow_below w k (omega arith)) ] in
    ap (λ (x : ℕ). eqb (x % 2) 1) (div-eq_of_lt s)

-- what `k < w && ..` answers from w on
pub has_outside : (m w k : ℕ) → m < 2 ^ w → w ≤ k → ltb k w ≡ has m k
has_outside m w k h l = le-ltb k w l ∙ sym (has_beyond m w k h l)

both_true : (x y : Bool) → (x ≡ true → y ≡ true) → (x && y) ≡ x
both_true true y h = h refl
both_true false y h = refl

-- `a & b == a`
abbrev Inside : ℕ → ℕ → Type 0
Inside a b = (k : ℕ) → has a k ≡ true → has b k ≡ true

pub subset_decided : (a b : ℕ) → Decides (eqb (bit_and a b) a) (Inside a b)
subset_decided a b = (
  λ e k h. (and_parts (has a k) (has b k) (sym (has_and a b k) ∙ ap (λ (x : ℕ). has x k) (eqb-true (bit_and a b) a e) ∙ h)).1,
  λ h. eq-eqb (bit_and a b) a (same_set (bit_and a b) a (λ k.
      let d : has (bit_and a b) k ≡ has a k = has_and a b k ∙ both_true (has a k) (has b k) (h k) in
      (λ x. sym d ∙ x, λ x. d ∙ x))),
)

-- `a == b`
pub equal_decided : (a b : ℕ) → Decides (eqb a b) ((k : ℕ) → has a k ≡ has b k)
equal_decided a b =
    (λ e k. ap (λ (x : ℕ). has x k) (eqb-true a b e), λ h. eq-eqb a b (same_set a b (λ k. (λ x. sym (h k) ∙ x, λ x. h k ∙ x))))
