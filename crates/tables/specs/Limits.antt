-- The limits on a rule: 60 lines and 8 choice lines for each of its two normal forms.
use Rattle.std.specs.Prelude.{◌≡◌, ◌<◌, true, false, ◌⊎◌, length}
use Rattle.rules.specs.declared.refusal.Refusal.{Refusal}
use Rattle.rules.specs.declared.refusal.Refusal.TheVariants.{Lines, Choices}
use Rattle.rules.specs.Formula.{Formula}
use Rattle.tables.specs.Normal.{nnf}
use Rattle.tables.specs.Lines.{Lines as Table, is_dual_choice, total, choices}
use Rattle.tables.specs.Numbering.{tabled}

-- the tables of a formula's normal form, and of that of its negation
abbrev pub kept : Formula → Table
kept f = tabled (nnf true f)

abbrev pub broken : Formula → Table
broken f = tabled (nnf false f)

-- over 60 lines in either form
abbrev pub Long : Formula → Type 0
Long f = (60 < length (kept f)) ⊎ (60 < length (broken f))

-- over 8 choice lines in either form
abbrev pub Choosy : Formula → Type 0
Choosy f = (8 < choices (kept f)) ⊎ (8 < choices (broken f))

-- the same, told by the lines of one form: over 8 lines of ∨ and ◇, or of ∧ and □
abbrev pub Chooses : Table → Type 0
Chooses t = (8 < choices t) ⊎ (8 < total is_dual_choice t)

-- within both limits
pub record Within (f : Formula) : Type 0 where
  pub short : Long f → ⊥
  pub few : Choosy f → ⊥

-- why a rule is refused that is one formula: both forms are tried for lines before either is for choices
abbrev pub Exceeds : Formula → Refusal → Type 0
Exceeds f e = (Long f × (e ≡ Lines)) ⊎ ((Long f → ⊥) × Choosy f × (e ≡ Choices))
