-- A finite set of numbers as a mask: bit k stands for the number k.
use Rattle.std.specs.Prelude.{ℕ, zero, suc, ◌^◌, Bool, true, cond, not, ◌&&◌, bit_or}
use Rattle.rules.specs.Runs.{on}

-- k is in the set
abbrev pub has : ℕ → ℕ → Bool
has m k = on m k

-- the set with k
unfoldable pub add : ℕ → ℕ → ℕ
add m k = bit_or m (2 ^ k)

-- the numbers below n that pass a test
unfoldable pub set_of : ℕ → (ℕ → Bool) → ℕ
set_of zero f = 0
set_of (suc n) f = cond (f n) (add (set_of n f) n) (set_of n f)

-- every number below n passes
unfoldable pub every : ℕ → (ℕ → Bool) → Bool
every zero f = true
every (suc n) f = f n && every n f

-- some number below n passes
unfoldable pub any : ℕ → (ℕ → Bool) → Bool
any n f = not (every n (λ k. not (f k)))
