-- The numbers of a table's eventualities and choice lines, each from the lowest.
use Rattle.std.specs.Prelude.{ℕ}
use Rattle.tables.specs.Lines.{Lines, number, is_eventuality, is_choice}

-- the number of line k among the eventualities, where it is one
abbrev pub eventuality : Lines → ℕ → ℕ
eventuality = number is_eventuality

-- the number of line k among the choice lines, where it is one
abbrev pub choice_of : Lines → ℕ → ℕ
choice_of = number is_choice
