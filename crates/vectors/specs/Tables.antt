-- How rows write the lines of a table.
use Rattle.std.specs.Prelude.{ℕ, List, ◌++◌, true, false, codes, decimal}
use Rattle.tables.specs.declared.line.Line.{Line}
use Rattle.tables.specs.declared.line.Line.TheVariants.{True, False, Literal, And, Or, Always, Eventually, Next}

-- two numbers with a comma between
abbrev pub two : ℕ → ℕ → List ℕ
two left right = decimal left ++ codes "," ++ decimal right

-- a line as it is written
abbrev pub line_field : Line → List ℕ
line_field True = codes "T"
line_field False = codes "F"
line_field (Literal signal true) = codes "+" ++ decimal signal
line_field (Literal signal false) = codes "-" ++ decimal signal
line_field (And left right) = codes "&" ++ two left right
line_field (Or left right) = codes "|" ++ two left right
line_field (Always inner) = codes "A" ++ decimal inner
line_field (Eventually inner) = codes "E" ++ decimal inner
line_field (Next inner) = codes "N" ++ decimal inner
