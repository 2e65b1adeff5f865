use Rattle.graph.proofs.Proved.{moves_stand}
use Rattle.graph.proofs.theorems.moves_are_exact.Goals as goal

pub returns : goal.returns
returns c = moves_stand
