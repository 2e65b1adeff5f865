use Rattle.graph.proofs.Proved.{short_stands}
use Rattle.graph.proofs.theorems.loop_is_short.Goals as goal

pub returns : goal.returns
returns c = short_stands
