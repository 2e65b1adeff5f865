use Rattle.std.proofs.Common.{◌≡◌, take}
use Rattle.tables.specs.Tables.{drafted}
use Rattle.tables.proofs.table.Table.from_lines.Given as goal

abbrev pub invariant-loop-line : goal.invariant-loop-line
invariant-loop-line l = drafted l.draft ≡ take l.line-index l.lines
