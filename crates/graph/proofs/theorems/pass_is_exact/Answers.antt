use Rattle.graph.proofs.Proved.{pass_stands}
use Rattle.graph.proofs.theorems.pass_is_exact.Goals as goal

pub returns : goal.returns
returns c = pass_stands
