-- How the rows are filled: a pass for each line, over the positions from the last to the first.
use Rattle.std.specs.Prelude.{◌≡◌, ℕ, ◌+◌, ◌<◌, Bool, true, false, cond, not, ◌&&◌, ◌||◌, ◌↔◌, List, length, Decides, slice_index}
use Rattle.rules.specs.Runs.{Holds, Run, at}
use Rattle.tables.specs.declared.line.Line.{Line}
use Rattle.tables.specs.Lines.{Lines, formula}
use Rattle.graph.specs.Sets.{has, add}
use Rattle.truth.specs.Rows.{run_of}

-- of the lines below k the row has just those that are true at time i, and it has no other line
abbrev pub Judged : Lines → Run → (k i row : ℕ) → Type 0
Judged t r k i row = (x : ℕ) → (has row x ≡ true) ↔ ((x < k) × Holds (formula t x) (at r) i)

-- the same of the rows of all positions
abbrev pub AllJudged : Lines → (lead cycle : List ℕ) → ℕ → List ℕ → Type 0
AllJudged t lead cycle k rows =
    (lasts : 0 < length cycle) (i : ℕ) → i < length lead + length cycle → Judged t (run_of lead cycle lasts) k i (slice_index rows i)

-- p is the position at time i
abbrev pub PositionAt : (lead cycle : List ℕ) → ℕ → ℕ → Type 0
PositionAt lead cycle i p = (lasts : 0 < length cycle) → p ≡ at (run_of lead cycle lasts) i

-- is line k true, by the earlier lines of its row, by the row after and by the position?
abbrev pub told : Line → (k row after position : ℕ) → Bool
told Line.True k row after position = true
told Line.False k row after position = false
told (Line.Literal s true) k row after position = has position s
told (Line.Literal s false) k row after position = not (has position s)
told (Line.And x y) k row after position = has row x && has row y
told (Line.Or x y) k row after position = has row x || has row y
told (Line.Always x) k row after position = has row x && has after k
told (Line.Eventually x) k row after position = has row x || has after k
told (Line.Next x) k row after position = has after x

-- is a line of □ or ◇ true at the cycle's first position, by the cycle's rows? Only these lines are told by their own truth
-- in the row after, so of the others nothing is asked: false
abbrev pub Begins : Line → List ℕ → Bool → Type 0
Begins Line.True rows b = b ≡ false
Begins Line.False rows b = b ≡ false
Begins (Line.Literal s v) rows b = b ≡ false
Begins (Line.And x y) rows b = b ≡ false
Begins (Line.Or x y) rows b = b ≡ false
Begins (Line.Always x) rows b = Decides b ((j : ℕ) → j < length rows → has (slice_index rows j) x ≡ true)
Begins (Line.Eventually x) rows b = Decides b ((j : ℕ) × (j < length rows) × (has (slice_index rows j) x ≡ true))
Begins (Line.Next x) rows b = b ≡ false

-- the row, with line k where it is true
abbrev pub marked : (row k : ℕ) → Bool → ℕ
marked row k b = cond b (add row k) row
