use Rattle.std.proofs.Common.{ap, ◌∙◌}
use Rattle.std.specs.Int.Bits.{bit_and}
use Rattle.std.proofs.lemmas.Nat.{and_mask}
use Rattle.records.specs.Claims.{low}
use Rattle.records.proofs.label.low.Goals as goal

pub returns : goal.returns
unfolding low
returns c = ap (bit_and c.args.label) c.from.ensures ∙ and_mask c.args.label 64
