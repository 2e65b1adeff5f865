use Rattle.graph.proofs.Proved.{either_stands}
use Rattle.graph.proofs.theorems.loops_or_ranks.Goals as goal

pub returns : goal.returns
returns c = either_stands
