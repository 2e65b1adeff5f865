-- The truth table of a run: a row for each position of the lead-in and the cycle, and in it the lines that are true there.
use Rattle.std.specs.Prelude.{◌≡◌, ℕ, ◌+◌, ◌<◌, ◌≤◌, Bool, true, false, ◌↔◌, List, length, drop, slice_index}
use Rattle.rules.specs.Runs.{Holds, Run, at}
use Rattle.tables.specs.Lines.{Lines, formula}
use Rattle.graph.specs.Sets.{has}
use Rattle.graph.specs.Truths.{span}

-- the run of a lead-in and a cycle
abbrev pub run_of : (lead cycle : List ℕ) → 0 < length cycle → Run
run_of lead cycle lasts = record { lead = lead; cycle = cycle; lasts = lasts }

-- the row has just the lines that are true at time i
abbrev pub Row : Lines → Run → ℕ → ℕ → Type 0
Row t r i row = (k : ℕ) → (has row k ≡ true) ↔ ((k < length t) × Holds (formula t k) (at r) i)

-- the rows hold a run's truth table, and those past its positions are as they were
pub record TruthTable (t : Lines) (r : Run) (old rows : List ℕ) : Type 0 where
  pub each : (i : ℕ) → i < span r → Row t r i (slice_index rows i)
  pub rest : drop (span r) rows ≡ drop (span r) old
  pub long : length rows ≡ length old

-- whether there was a run, and room for its truth table, and what the rows are then
abbrev pub Filled : Lines → (lead cycle old : List ℕ) → Bool → List ℕ → Type 0
Filled t lead cycle old true rows =
    (lasts : 0 < length cycle) × (length lead + length cycle ≤ length old) × TruthTable t (run_of lead cycle lasts) old rows
Filled t lead cycle old false rows = (0 < length cycle → length old < length lead + length cycle) × (rows ≡ old)
