use Rattle.std.proofs.Common.{ℕ, ap, ◌∙◌}
use Rattle.graph.specs.Sets.{has}
use Rattle.graph.proofs.Words.{has_and}
use Rattle.graph.proofs.sets.common.Goals as goal

pub returns : goal.returns
returns g c k = ap (λ (x : ℕ). has x k) (g.met.M.Mask.and_law _ _ _ c.bitand.ensures) ∙ has_and _ _ k
