use Rattle.graph.proofs.Proved.{loop_stands}
use Rattle.graph.proofs.theorems.loop_runs.Goals as goal

pub returns : goal.returns
returns c = loop_stands
