-- The lines of an outline.
use Rattle.std.specs.Prelude.{◌≡◌, take, Some, None, Option}
use Rattle.tables.specs.Lines.{Lines}
use Rattle.walk.specs.declared.outline.Outline.{Outline}
use Rattle.walk.specs.Fits.{Narrow}

abbrev pub outlined : Outline → Lines
outlined o = take o.len o.lines

-- a table is outlined just where its signals have numbers below 16
abbrev pub OutlineOf : Lines → Option Outline → Type 0
OutlineOf t (Some o) = (outlined o ≡ t) × Narrow t
OutlineOf t None = Narrow t → ⊥
