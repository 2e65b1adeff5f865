-- Numbering keys of any kind: equal keys share a number, and new keys are counted on.
use Rattle.std.specs.Prelude.{◌≡◌, ℕ, ◌<◌, ◌≤◌, Bool, true, false, ◌⊎◌, List, length, Some, None, Option, slice_index_or, slice_set}

-- none of the first n keys equals x; `E k x t` says that `k == x` answers t
abbrev pub Missing : {K : Type 0} → (K → K → Bool → Type 0) → List K → K → ℕ → Type 0
Missing {K} E xs x n = (k : ℕ) (d : K) → k < n → E (slice_index_or xs k d) x false

-- the first key that equals x has the number i
pub record First {K : Type 0} (E : K → K → Bool → Type 0) (xs : List K) (x : K) (i : ℕ) : Type 0 where
  pub within : i < length xs
  pub equal : (d : K) → E (slice_index_or xs i d) x true
  pub before : Missing E xs x i

-- x is sought
abbrev pub Sought : {K : Type 0} → (K → K → Bool → Type 0) → List K → K → Option ℕ → Type 0
Sought E xs x (Some i) = First E xs x i
Sought E xs x None = Missing E xs x (length xs)

-- x is entered, where the first n keys have numbers: it gets its equal's, or the next one, or there is no room for it
abbrev pub Numbered : {K : Type 0} → (K → K → Bool → Type 0) → List K → ℕ → K → Option ℕ → List K → Type 0
Numbered E xs n x (Some i) ys =
    (First E xs x i × (i < n) × (ys ≡ xs))
    ⊎ (Missing E xs x n × (i ≡ n) × (n < length xs) × (ys ≡ slice_set xs n x))
Numbered E xs n x None ys = Missing E xs x (length xs) × (length xs ≤ n) × (ys ≡ xs)
