-- The stack of a walk has room for all choice lines.
use Rattle.std.specs.Prelude.{ℕ, ◌+◌, ◌<◌, ◌≤◌, List, slice_index_or}
use Rattle.tables.specs.Lines.{Lines}
use Rattle.graph.specs.Numbers.{choice_of}
use Rattle.walk.specs.declared.found.Pass.{Pass}
use Rattle.walk.specs.Walk.{pass0}

-- the i-th pass has left fewer choice lines than the stack has places above it
abbrev pub Room : Lines → ℕ → List Pass → ℕ → Type 0
Room t n ps d = (i : ℕ) → i < d → ((slice_index_or ps i pass0).line ≤ n) × (i + choice_of t (slice_index_or ps i pass0).line ≤ 16)
