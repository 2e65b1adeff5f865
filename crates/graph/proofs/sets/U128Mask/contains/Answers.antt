use Rattle.std.proofs.Common.{rules}
use Rattle.graph.proofs.Words.{has_shift}
use Rattle.graph.proofs.Differ.{has_outside}
use Rattle.graph.proofs.sets.U128Mask.contains.Goals as goal

pub returns-then-k-lt128 : goal.returns-then-k-lt128
returns-then-k-lt128 c = has_shift c.args.self c.args.k

pub returns-else-k-lt128 : goal.returns-else-k-lt128
returns-else-k-lt128 c = has_outside c.args.self 128 c.args.k (search rules) c.if-k-lt128.false
