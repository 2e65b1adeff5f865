use Rattle.tables.proofs.Stated.{rows_hold}
use Rattle.tables.proofs.laws.rows_stand.Goals as goal

pub returns : goal.returns
returns c = rows_hold
