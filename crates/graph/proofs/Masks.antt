-- The laws of sets as masks.
use Rattle.std.proofs.Common.{◌≡◌, ℕ, zero, suc, ◌+◌, ◌-◌, ◌/◌, ◌%◌, ◌^◌, ◌<◌, Bool, true, false, cond, eqb, ◌⊎◌, sym, refl, ap, ◌∙◌, subst, inl, inr, pow-suc, arith}
use native.Mathlib.Nat.{mul-mod_left, zero-div, div-eq_of_lt}
use lib.Bits.{bit_or}
use Rattle.std.proofs.lemmas.Nat.{or_shr, or_mod, pow-add, shl-shr, pow_below, or_lt}
use Rattle.std.proofs.lemmas.Bool.{cases_eq, cases_order, eq-eqb, both_ways, cases_Bool, and_parts, and_from, and_cases}
use Rattle.rules.specs.Runs.{on}
use Rattle.graph.specs.Sets.{has, add, set_of, every}

bit : ℕ → ℕ → ℕ
bit m j = m / 2 ^ j % 2

or_bit : (a b j : ℕ) → bit (bit_or a b) j ≡ bit_or (bit a j) (bit b j)
unfolding bit
or_bit a b j = ap (λ (x : ℕ). x % 2) (or_shr a b j) ∙ or_mod (a / 2 ^ j) (b / 2 ^ j) 1

two : (a j : ℕ) → (bit a j ≡ 0) ⊎ (bit a j ≡ 1)
unfolding bit
two a j = elim (cases_eq (a / 2 ^ j % 2) 0) [ inl e ↦ inl e | inr h ↦ inr (omega arith) ]

pow_high : (j d : ℕ) → bit (2 ^ (suc d + j)) j ≡ 0
unfolding bit
pow_high j d =
    ap (λ (x : ℕ). x / 2 ^ j % 2) (pow-add 2 (suc d) j) ∙ ap (λ (x : ℕ). x % 2) (shl-shr (2 ^ suc d) j)
    ∙ ap (λ (x : ℕ). x % 2) (pow-suc 2 d) ∙ mul-mod_left (2 ^ d) 2

pow_same : (j : ℕ) → bit (2 ^ j) j ≡ 1
unfolding bit
pow_same j = ap (λ (x : ℕ). x / 2 ^ j % 2) (sym (omega (arith, pow-suc 2 0))) ∙ ap (λ (x : ℕ). x % 2) (shl-shr 1 j)

pow_other : (k j : ℕ) → (j ≡ k → ⊥) → bit (2 ^ k) j ≡ 0
unfolding bit
pow_other k j h =
    elim (cases_order k j) [
      | inl e ↦ absurd (h (sym e))
      | inr (inl l) ↦ ap (λ (x : ℕ). x % 2) (div-eq_of_lt (pow_below k j l))
      | inr (inr l) ↦
          let e : k ≡ suc (k - suc j) + j = omega arith in
          ap (λ (x : ℕ). bit (2 ^ x) j) e ∙ pow_high j (k - suc j)
    ]

pub has_none : (k : ℕ) → has 0 k ≡ false
unfolding on
has_none k = ap (λ (x : ℕ). eqb (x % 2) 1) (zero-div (2 ^ k))

or_one : (x : ℕ) → (x ≡ 0) ⊎ (x ≡ 1) → bit_or x 1 ≡ 1
or_one x (inl e) = ap (λ (y : ℕ). bit_or y 1) e
or_one x (inr e) = ap (λ (y : ℕ). bit_or y 1) e

or_none : (x : ℕ) → (x ≡ 0) ⊎ (x ≡ 1) → bit_or x 0 ≡ x
or_none x (inl e) = ap (λ (y : ℕ). bit_or y 0) e ∙ sym e
or_none x (inr e) = ap (λ (y : ℕ). bit_or y 0) e ∙ sym e

add_bit_self : (m k : ℕ) → bit (bit_or m (2 ^ k)) k ≡ 1
add_bit_self m k = or_bit m (2 ^ k) k ∙ ap (λ (x : ℕ). bit_or (bit m k) x) (pow_same k) ∙ or_one (bit m k) (two m k)

add_bit_other : (m k j : ℕ) → (j ≡ k → ⊥) → bit (bit_or m (2 ^ k)) j ≡ bit m j
add_bit_other m k j h = or_bit m (2 ^ k) j ∙ ap (λ (x : ℕ). bit_or (bit m j) x) (pow_other k j h) ∙ or_none (bit m j) (two m j)

pub has_add_self : (m k : ℕ) → has (add m k) k ≡ true
unfolding on add bit
has_add_self m k = eq-eqb (bit (bit_or m (2 ^ k)) k) 1 (add_bit_self m k)

pub has_add_other : (m k j : ℕ) → (j ≡ k → ⊥) → has (add m k) j ≡ has m j
unfolding on add bit
has_add_other m k j h = ap (λ (x : ℕ). eqb x 1) (add_bit_other m k j h)

pub has_add_keep : (m k j : ℕ) → has m j ≡ true → has (add m k) j ≡ true
has_add_keep m k j h =
    elim (cases_eq j k) [
      | inl e ↦ ap (λ (x : ℕ). has (add m k) x) e ∙ has_add_self m k
      | inr n ↦ has_add_other m k j n ∙ h
    ]

pub has_add_from : (m k j : ℕ) → has (add m k) j ≡ true → (j ≡ k) ⊎ (has m j ≡ true)
has_add_from m k j h = elim (cases_eq j k) [ inl e ↦ inl e | inr n ↦ inr (sym (has_add_other m k j n) ∙ h) ]

-- the same with the set's members in a predicate
pub all_add : (P : ℕ → Type 0) (m k : ℕ) → P k → ((j : ℕ) → has m j ≡ true → P j) → (j : ℕ) → has (add m k) j ≡ true → P j
all_add P m k p h j e = elim (has_add_from m k j e) [ inl q ↦ subst P (sym q) p | inr q ↦ h j q ]

step_from : (n : ℕ) (f : ℕ → Bool) (k m : ℕ) (b : Bool) → f n ≡ b → (has m k ≡ true → (k < n) × (f k ≡ true))
    → has (cond b (add m n) m) k ≡ true → (k < suc n) × (f k ≡ true)
step_from n f k m true e ih h = elim (has_add_from m n k h) [ inl q ↦ (omega arith, ap f q ∙ e) | inr q ↦ (omega (arith, (ih q).0), (ih q).1) ]
step_from n f k m false e ih h = (omega (arith, (ih h).0), (ih h).1)

pub set_of_from : (n : ℕ) (f : ℕ → Bool) (k : ℕ) → has (set_of n f) k ≡ true → (k < n) × (f k ≡ true)
unfolding set_of
set_of_from zero f k h = absurd (both_ways (has 0 k) (has_none k) h)
set_of_from (suc n) f k h = step_from n f k (set_of n f) (f n) refl (set_of_from n f k) h

step_in : (n : ℕ) (f : ℕ → Bool) (k m : ℕ) (b : Bool) → f n ≡ b → (k < n → has m k ≡ true) → k < suc n → f k ≡ true
    → has (cond b (add m n) m) k ≡ true
step_in n f k m true e ih l t =
    elim (cases_eq k n) [
      | inl q ↦ ap (λ (x : ℕ). has (add m n) x) q ∙ has_add_self m n
      | inr q ↦ has_add_keep m n k (ih (omega arith))
    ]
step_in n f k m false e ih l t = elim (cases_eq k n) [ inl q ↦ absurd (both_ways (f n) e (sym (ap f q) ∙ t)) | inr q ↦ ih (omega arith) ]

pub set_of_in : (n : ℕ) (f : ℕ → Bool) (k : ℕ) → k < n → f k ≡ true → has (set_of n f) k ≡ true
unfolding set_of
set_of_in zero f k l e = absurd (omega arith)
set_of_in (suc n) f k l e = step_in n f k (set_of n f) (f n) refl (λ h. set_of_in n f k h e) l e

-- the set depends on the test below n only
pub set_of_same : (n : ℕ) (f g : ℕ → Bool) → ((k : ℕ) → k < n → f k ≡ g k) → set_of n f ≡ set_of n g
unfolding set_of
set_of_same zero f g h = refl
set_of_same (suc n) f g h =
    let e = set_of_same n f g (λ k l. h k (omega arith)) in
    let d = h n (omega arith) in cc

pub set_of_none : (n : ℕ) → set_of n (λ k. false) ≡ 0
unfolding set_of
set_of_none zero = refl
set_of_none (suc n) = set_of_none n

pub every_at : (n : ℕ) (f : ℕ → Bool) → every n f ≡ true → (k : ℕ) → k < n → f k ≡ true
unfolding every
every_at zero f h k l = absurd (omega arith)
every_at (suc n) f h k l =
    elim (cases_eq k n) [
      | inl q ↦ ap f q ∙ (and_parts (f n) (every n f) h).0
      | inr q ↦ every_at n f (and_parts (f n) (every n f) h).1 k (omega arith)
    ]

pub every_from : (n : ℕ) (f : ℕ → Bool) → ((k : ℕ) → k < n → f k ≡ true) → every n f ≡ true
unfolding every
every_from zero f h = refl
every_from (suc n) f h = and_from (f n) (every n f) (h n (omega arith)) (every_from n f (λ k l. h k (omega arith)))

-- a test that fails somewhere
pub every_fails : (n : ℕ) (f : ℕ → Bool) → every n f ≡ false → (k : ℕ) × (k < n) × (f k ≡ false)
unfolding every
every_fails zero f h = absurd (both_ways true h refl)
every_fails (suc n) f h =
    elim (and_cases (f n) (every n f) h) [
      | inl e ↦ (n, omega arith, e)
      | inr e ↦ let r = every_fails n f e in let l : r.0 < n = r.1 in (r.0, omega arith, r.2)
    ]

cond_below : (b : Bool) (x y z : ℕ) → x < z → y < z → cond b x y < z
cond_below true x y z p q = p
cond_below false x y z p q = q

pub set_of_lt : (n : ℕ) (f : ℕ → Bool) → set_of n f < 2 ^ n
unfolding set_of add
set_of_lt zero f = omega arith
set_of_lt (suc n) f =
    let small : set_of n f < 2 ^ suc n = omega (arith, set_of_lt n f, pow_below n (suc n) (omega arith)) in
    cond_below (f n) (bit_or (set_of n f) (2 ^ n)) (set_of n f) (2 ^ suc n) (or_lt (suc n) (set_of n f) (2 ^ n) small (pow_below n (suc n) (omega arith))) small

pub set_of_has : (n : ℕ) (f : ℕ → Bool) (k : ℕ) → k < n → has (set_of n f) k ≡ f k
set_of_has n f k l =
    elim (cases_Bool (f k)) [
      | inl e ↦ set_of_in n f k l e ∙ sym e
      | inr e ↦ elim (cases_Bool (has (set_of n f) k)) [
        | inl h ↦ absurd (both_ways (f k) e (set_of_from n f k h).1)
        | inr h ↦ h ∙ sym e
      ]
    ]
