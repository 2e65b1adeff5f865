use Rattle.graph.proofs.Proved.{count_stands}
use Rattle.graph.proofs.theorems.count_stands.Goals as goal

pub returns : goal.returns
returns c = count_stands
