-- The program's operations on masks, and what they do to the sets.
use Rattle.std.proofs.Common.{◌≡◌, ℕ, zero, suc, ◌/◌, ◌%◌, ◌^◌, ◌<◌, ◌&&◌, ◌||◌, eqb, ◌⊎◌, sym, ap, ◌∙◌, ap₂, inl, inr, pow-suc, arith}
use lib.Bits.{bit_and, bit_or}
use Rattle.std.proofs.lemmas.Nat.{or_shr, or_mod, and_shr, and_mod, and_mask, shr-shr}
use Rattle.std.proofs.lemmas.Bool.{both_ways}
use Rattle.rules.specs.Runs.{on}
use Rattle.graph.specs.Sets.{has, set_of}
use Rattle.graph.proofs.Masks.{set_of_has, set_of_lt}

digit : (a : ℕ) → (a % 2 ≡ 0) ⊎ (a % 2 ≡ 1)
digit a = elim (Rattle.std.proofs.lemmas.Bool.cases_eq (a % 2) 0) [ inl e ↦ inl e | inr h ↦ inr (omega arith) ]

or_digit : (a b : ℕ) → (a ≡ 0) ⊎ (a ≡ 1) → (b ≡ 0) ⊎ (b ≡ 1) → eqb (bit_or a b) 1 ≡ (eqb a 1 || eqb b 1)
or_digit a b (inl p) (inl q) = ap₂ (λ (x y : ℕ). eqb (bit_or x y) 1) p q ∙ sym (ap₂ (λ (x y : ℕ). eqb x 1 || eqb y 1) p q)
or_digit a b (inl p) (inr q) = ap₂ (λ (x y : ℕ). eqb (bit_or x y) 1) p q ∙ sym (ap₂ (λ (x y : ℕ). eqb x 1 || eqb y 1) p q)
or_digit a b (inr p) (inl q) = ap₂ (λ (x y : ℕ). eqb (bit_or x y) 1) p q ∙ sym (ap₂ (λ (x y : ℕ). eqb x 1 || eqb y 1) p q)
or_digit a b (inr p) (inr q) = ap₂ (λ (x y : ℕ). eqb (bit_or x y) 1) p q ∙ sym (ap₂ (λ (x y : ℕ). eqb x 1 || eqb y 1) p q)

and_digit : (a b : ℕ) → (a ≡ 0) ⊎ (a ≡ 1) → (b ≡ 0) ⊎ (b ≡ 1) → eqb (bit_and a b) 1 ≡ (eqb a 1 && eqb b 1)
and_digit a b (inl p) (inl q) = ap₂ (λ (x y : ℕ). eqb (bit_and x y) 1) p q ∙ sym (ap₂ (λ (x y : ℕ). eqb x 1 && eqb y 1) p q)
and_digit a b (inl p) (inr q) = ap₂ (λ (x y : ℕ). eqb (bit_and x y) 1) p q ∙ sym (ap₂ (λ (x y : ℕ). eqb x 1 && eqb y 1) p q)
and_digit a b (inr p) (inl q) = ap₂ (λ (x y : ℕ). eqb (bit_and x y) 1) p q ∙ sym (ap₂ (λ (x y : ℕ). eqb x 1 && eqb y 1) p q)
and_digit a b (inr p) (inr q) = ap₂ (λ (x y : ℕ). eqb (bit_and x y) 1) p q ∙ sym (ap₂ (λ (x y : ℕ). eqb x 1 && eqb y 1) p q)

pub has_or : (a b k : ℕ) → has (bit_or a b) k ≡ (has a k || has b k)
unfolding on
has_or a b k =
    ap (λ (x : ℕ). eqb (x % 2) 1) (or_shr a b k) ∙ ap (λ (x : ℕ). eqb x 1) (or_mod (a / 2 ^ k) (b / 2 ^ k) 1)
    ∙ or_digit (a / 2 ^ k % 2) (b / 2 ^ k % 2) (digit (a / 2 ^ k)) (digit (b / 2 ^ k))

pub has_and : (a b k : ℕ) → has (bit_and a b) k ≡ (has a k && has b k)
unfolding on
has_and a b k =
    ap (λ (x : ℕ). eqb (x % 2) 1) (and_shr a b k) ∙ ap (λ (x : ℕ). eqb x 1) (and_mod (a / 2 ^ k) (b / 2 ^ k) 1)
    ∙ and_digit (a / 2 ^ k % 2) (b / 2 ^ k % 2) (digit (a / 2 ^ k)) (digit (b / 2 ^ k))

-- `(m >> k) & 1 == 1`
pub has_shift : (m k : ℕ) → eqb (bit_and (m / 2 ^ k) 1) 1 ≡ has m k
unfolding on
has_shift m k = ap (λ (x : ℕ). eqb x 1) (and_mask (m / 2 ^ k) 1)

half_has : (m k : ℕ) → has (m / 2) k ≡ has m (suc k)
unfolding on
half_has m k = ap (λ (x : ℕ). eqb (x % 2) 1) (shr-shr m 1 k ∙ ap (λ (x : ℕ). m / 2 ^ x) (omega arith))

low_digit : (m : ℕ) → has m 0 ≡ eqb (m % 2) 1
unfolding on
low_digit m = let e : m / 1 ≡ m = omega arith in ap (λ (x : ℕ). eqb (x % 2) 1) e

low_same : (a b : ℕ) → has a 0 ≡ has b 0 → a % 2 ≡ b % 2
low_same a b h =
    let e : eqb (a % 2) 1 ≡ eqb (b % 2) 1 = sym (low_digit a) ∙ h ∙ low_digit b in
    elim (digit a) [
      | inl p ↦ elim (digit b) [
        | inl q ↦ p ∙ sym q
        | inr q ↦ absurd (both_ways (eqb (a % 2) 1) (ap (λ (x : ℕ). eqb x 1) p) (e ∙ ap (λ (x : ℕ). eqb x 1) q))
      ]
      | inr p ↦ elim (digit b) [
        | inl q ↦ absurd (both_ways (eqb (b % 2) 1) (ap (λ (x : ℕ). eqb x 1) q) (sym e ∙ ap (λ (x : ℕ). eqb x 1) p))
        | inr q ↦ p ∙ sym q
      ]
    ]

-- masks with the same bits are equal
pub mask_ext : (n a b : ℕ) → a < 2 ^ n → b < 2 ^ n → ((k : ℕ) → k < n → has a k ≡ has b k) → a ≡ b
mask_ext zero a b p q h = omega arith
mask_ext (suc n) a b p q h =
    let e : a / 2 ≡ b / 2 = mask_ext n (a / 2) (b / 2) (omega (arith, pow-suc 2 n)) (omega (arith, pow-suc 2 n))
    (λ k l. half_has a k ∙ h (suc k) (omega arith) ∙ sym (half_has b k)) in
    omega (arith, e, low_same a b (h 0 (omega arith)))

-- a mask is the set of its bits
pub set_of_of : (n m : ℕ) → m < 2 ^ n → set_of n (has m) ≡ m
set_of_of n m h = mask_ext n (set_of n (has m)) m (set_of_lt n (has m)) h (λ k l. set_of_has n (has m) k l)
