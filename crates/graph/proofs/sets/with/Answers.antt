use Rattle.std.proofs.Common.{ap, ◌∙◌}
use lib.Bits.{bit_or}
use Rattle.graph.proofs.sets.with.Goals as goal

pub returns-then-k-WIDTH-clause-within : goal.returns-then-k-WIDTH-clause-within
unfolding Rattle.graph.specs.Sets.add
returns-then-k-WIDTH-clause-within g c h =
    g.met.M.Mask.or_law _ _ _ c.bitor.ensures ∙ ap (bit_or (g.M.Mask.number c.args.set)) (c.only.ensures h)
