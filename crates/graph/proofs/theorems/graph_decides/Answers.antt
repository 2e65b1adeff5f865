use Rattle.graph.proofs.Proved.{graph_stands}
use Rattle.graph.proofs.theorems.graph_decides.Goals as goal

pub returns : goal.returns
returns c = graph_stands
