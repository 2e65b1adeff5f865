use Rattle.graph.proofs.Examples.{rows}
use Rattle.graph.proofs.theorems.rows_stand.Goals as goal

pub returns : goal.returns
returns c = rows
