use Rattle.std.proofs.Common.{ℕ, ap, ◌∙◌}
use Rattle.graph.specs.Sets.{has}
use Rattle.graph.proofs.Words.{has_or}
use Rattle.graph.proofs.sets.union.Goals as goal

pub returns : goal.returns
returns g c k = ap (λ (x : ℕ). has x k) (g.met.M.Mask.or_law _ _ _ c.bitor.ensures) ∙ has_or _ _ k
