-- The maps of records: bit 0 for a lead-in, bit 1 for a cycle, bit 2 for a graph.
use Rattle.std.specs.Prelude.{◌≡◌, ℕ, Ok, Err, Result, ◌≢◌}
use Rattle.rules.specs.declared.refusal.Refusal.{Refusal}
use Rattle.rules.specs.declared.refusal.Refusal.TheVariants.{Record}
use Rattle.records.specs.declared.kind.Kind.{Kind}
use Rattle.records.specs.declared.kind.Kind.TheVariants.{Cycle, LeadAndCycle, Graph}

abbrev pub kind_map : Kind → ℕ
kind_map Cycle = 2
kind_map LeadAndCycle = 3
kind_map Graph = 4

-- the kind that has this map, or none has it
abbrev pub IsKindOf : ℕ → Result Kind Refusal → Type 0
IsKindOf m (Ok kind) = m ≡ kind_map kind
IsKindOf m (Err e) = (e ≡ Record) × (m ≢ 2) × (m ≢ 3) × (m ≢ 4)
