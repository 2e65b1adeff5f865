-- Truth on a run, computed: for each line of a table a bit for each position of the lead-in and the cycle.
use Rattle.std.specs.Prelude.{ℕ, suc, ◌+◌, ◌-◌, min, Bool, true, false, cond, not, ◌&&◌, ◌||◌, [], length, nat_lt, slice_index}
use Rattle.graph.specs.Sets.{has, set_of, every}
use Rattle.rules.specs.Runs.{Run, at}
use Rattle.tables.specs.declared.line.Line.{Line}
use Rattle.tables.specs.Lines.{Lines, values}

-- how many positions are listed
abbrev pub span : Run → ℕ
span r = length r.lead + length r.cycle

-- the place after i: past the last comes the first of the cycle
unfoldable pub after : Run → ℕ → ℕ
after r i = cond (nat_lt (suc i) (span r)) (suc i) (length r.lead)

-- every place that is i or comes after it, again and again
unfoldable pub on_every : Run → ℕ → (ℕ → Bool) → Bool
on_every r i f = every (span r) (λ j. nat_lt j (min i (length r.lead)) || f j)

unfoldable pub row_of : Run → Line → (ℕ → ℕ) → ℕ
row_of r Line.True f = set_of (span r) (λ i. true)
row_of r Line.False f = 0
row_of r (Line.Literal s true) f = set_of (span r) (λ i. has (at r i) s)
row_of r (Line.Literal s false) f = set_of (span r) (λ i. not (has (at r i) s))
row_of r (Line.And x y) f = set_of (span r) (λ i. has (f x) i && has (f y) i)
row_of r (Line.Or x y) f = set_of (span r) (λ i. has (f x) i || has (f y) i)
row_of r (Line.Always x) f = set_of (span r) (λ i. on_every r i (has (f x)))
row_of r (Line.Eventually x) f = set_of (span r) (λ i. not (on_every r i (λ j. not (has (f x) j))))
row_of r (Line.Next x) f = set_of (span r) (λ i. has (f x) (after r i))

-- the places where line k is true
unfoldable pub row : Run → Lines → ℕ → ℕ
row r t k = slice_index (values 0 (row_of r) t []) k

-- the last line is true at the first place
unfoldable pub meets : Run → Lines → Bool
meets r t = has (row r t (length t - 1)) 0
