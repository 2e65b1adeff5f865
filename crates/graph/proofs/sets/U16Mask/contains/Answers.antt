use Rattle.std.proofs.Common.{rules}
use Rattle.graph.proofs.Words.{has_shift}
use Rattle.graph.proofs.Differ.{has_outside}
use Rattle.graph.proofs.sets.U16Mask.contains.Goals as goal

pub returns-then-k-lt16 : goal.returns-then-k-lt16
returns-then-k-lt16 c = has_shift c.args.self c.args.k

pub returns-else-k-lt16 : goal.returns-else-k-lt16
returns-else-k-lt16 c = has_outside c.args.self 16 c.args.k (search rules) c.if-k-lt16.false
