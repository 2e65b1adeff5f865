-- What an outline keeps of a table's lines.
use Rattle.std.specs.Prelude.{◌≡◌, ℕ, ◌<◌, Bool, true, false, ◌&&◌, length, nat_lt, slice_index_or}
use Rattle.tables.specs.declared.line.Line.{Line}
use Rattle.tables.specs.Lines.{Lines, line, under, is_eventuality}
use Rattle.graph.specs.Unfolding.{stays}

-- a literal's signal has a number below 16
abbrev pub narrow : Line → Bool
narrow Line.True = true
narrow Line.False = true
narrow (Line.Literal s b) = nat_lt s 16
narrow (Line.And i j) = true
narrow (Line.Or i j) = true
narrow (Line.Always i) = true
narrow (Line.Eventually i) = true
narrow (Line.Next i) = true

-- all signals of the lines have numbers below 16
abbrev pub Narrow : Lines → Type 0
Narrow t = (k : ℕ) → k < length t → narrow (line t k) ≡ true

-- the first n lines have their operands below them, and such signals
abbrev pub Fit : Lines → ℕ → Type 0
Fit ls n = (k : ℕ) → k < n → (under k (slice_index_or ls k Line.True) && narrow (slice_index_or ls k Line.True)) ≡ true

abbrev pub is_and : Line → Bool
is_and Line.True = false
is_and Line.False = false
is_and (Line.Literal s b) = false
is_and (Line.And i j) = true
is_and (Line.Or i j) = false
is_and (Line.Always i) = false
is_and (Line.Eventually i) = false
is_and (Line.Next i) = false

abbrev pub event_at : Lines → ℕ → Bool
event_at t k = is_eventuality (line t k)

abbrev pub stays_at : Lines → ℕ → Bool
stays_at t k = stays (line t k)

abbrev pub and_at : Lines → ℕ → Bool
and_at t k = is_and (line t k)
