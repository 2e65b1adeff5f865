use Rattle.graph.proofs.Proved.{question_stands}
use Rattle.graph.proofs.theorems.question_decides.Goals as goal

pub returns : goal.returns
returns c = question_stands
