use Rattle.graph.proofs.Proved.{truths_stand}
use Rattle.graph.proofs.theorems.truths_are_exact.Goals as goal

pub returns : goal.returns
returns c = truths_stand
