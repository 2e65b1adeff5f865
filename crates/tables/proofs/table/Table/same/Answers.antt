use Rattle.tables.specs.Tables.{lines_of}
use Rattle.tables.proofs.Lawful.{matches_lines}
use Rattle.tables.proofs.table.Table.same.Goals as goal

pub returns : goal.returns
returns c = matches_lines (lines_of c.args.self.now) (lines_of c.args.other.now) c.eq.result c.eq.ensures
