-- How many numbers below n pass a test; and sets that grow until they stop.
use Rattle.std.proofs.Common.{◌≡◌, ℕ, zero, suc, ◌+◌, ◌<◌, ◌≤◌, Bool, true, false, not, ◌||◌, ◌⊎◌, sym, refl, ap, ◌∙◌, inl, inr, arith}
use Rattle.std.proofs.lemmas.Bool.{cases_Bool, cases_eq, both_ways, or_cases, not-true, not-false, or_parts}
use Rattle.graph.specs.Sets.{every}
use Rattle.graph.proofs.Masks.{every_at, every_fails}

one : Bool → ℕ
one true = 1
one false = 0

pub count : ℕ → (ℕ → Bool) → ℕ
count zero f = 0
count (suc n) f = one (f n) + count n f

one_le : (b d : Bool) → (b ≡ true → d ≡ true) → one b ≤ one d
unfolding one
one_le true true h = omega arith
one_le true false h = absurd (both_ways false refl (h refl))
one_le false d h = omega arith

one_most : (b : Bool) → one b ≤ 1
unfolding one
one_most true = omega arith
one_most false = omega arith

one_lt : (b d : Bool) → b ≡ false → d ≡ true → one b < one d
unfolding one
one_lt true d e h = absurd (both_ways true e refl)
one_lt false true e h = omega arith
one_lt false false e h = absurd (both_ways false refl h)

pub count_le : (n : ℕ) (f g : ℕ → Bool) → ((k : ℕ) → k < n → f k ≡ true → g k ≡ true) → count n f ≤ count n g
unfolding count
count_le zero f g h = omega arith
count_le (suc n) f g h = omega (arith, one_le (f n) (g n) (h n (omega arith)), count_le n f g (λ k l. h k (omega arith)))

pub count_most : (n : ℕ) (f : ℕ → Bool) → count n f ≤ n
unfolding count
count_most zero f = omega arith
count_most (suc n) f = omega (arith, one_most (f n), count_most n f)

pub count_lt : (n : ℕ) (f g : ℕ → Bool) → ((k : ℕ) → k < n → f k ≡ true → g k ≡ true) → (k : ℕ) → k < n → f k ≡ false → g k ≡ true → count n f < count n g
unfolding count
count_lt zero f g h k l p q = absurd (omega arith)
count_lt (suc n) f g h k l p q =
    elim (cases_eq k n) [
      | inl e ↦
          omega (arith, one_lt (f n) (g n) (sym (ap f e) ∙ p) (sym (ap g e) ∙ q), count_le n f g (λ k l. h k (omega arith)))
      | inr e ↦ omega (arith, one_le (f n) (g n) (h n (omega arith)), count_lt n f g (λ k l. h k (omega arith)) k (omega arith) p q)
    ]

-- sets S 0, S 1 … below n, each holding the one before: two neighbours are the same, and soon if the first has a member
pub record Stops (n : ℕ) (S : ℕ → ℕ → Bool) : Type 0 where
  pub at : ℕ
  pub still : (k : ℕ) → k < n → S (suc at) k ≡ true → S at k ≡ true
  pub soon : 0 < count n (S 0) → at < n

pub stops : (n : ℕ) (S : ℕ → ℕ → Bool) → ((i k : ℕ) → k < n → S i k ≡ true → S (suc i) k ≡ true) → Stops n S
stops n S up = elim (go (suc n)) [ inl x ↦ x | inr x ↦ absurd (omega (arith, x.0, count_most n (S (suc n)))) ]
  where
    test : ℕ → ℕ → Bool
    test i k = not (S (suc i) k) || S i k

    go : (i : ℕ) → Stops n S ⊎ ((i ≤ count n (S i)) × (0 < count n (S 0) → i < count n (S i)))
    go zero = inr (omega arith, λ h. h)
    go (suc i) =
        elim (go i) [
          | inl x ↦ inl x
          | inr x ↦ elim (cases_Bool (every n (test i))) [
            | inl e ↦ inl (record {
              at = i;
              still = λ k l h. elim (or_cases (not (S (suc i) k)) (S i k) (every_at n (test i) e k l)) [
                | inl q ↦ absurd (both_ways (S (suc i) k) (not-true (S (suc i) k) q) h)
                | inr q ↦ q
              ];
              soon = λ h. omega (arith, x.1 h, count_most n (S i));
            })
            | inr e ↦
                let y = every_fails n (test i) e in
                let z = or_parts (not (S (suc i) y.0)) (S i y.0) y.2 in
                let m = count_lt n (S i) (S (suc i)) (up i) y.0 y.1 z.1 (not-false (S (suc i) y.0) z.0) in
                inr (omega (arith, x.0, m), λ h. omega (arith, x.1 h, m))
          ]
        ]

-- a member makes the count positive
pub count_some : (n : ℕ) (f : ℕ → Bool) (k : ℕ) → k < n → f k ≡ true → 0 < count n f
count_some n f k l e = omega (arith, count_lt n (λ k. false) f (λ k l h. absurd (both_ways false refl h)) k l refl e)
