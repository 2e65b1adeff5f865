use Rattle.graph.proofs.Proved.{accepted_stands}
use Rattle.graph.proofs.theorems.accepted_is_exact.Goals as goal

pub returns : goal.returns
returns c = accepted_stands
