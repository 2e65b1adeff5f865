use Rattle.graph.proofs.Proved.{ranks_stand}
use Rattle.graph.proofs.theorems.ranks_refute.Goals as goal

pub returns : goal.returns
returns c = ranks_stand
