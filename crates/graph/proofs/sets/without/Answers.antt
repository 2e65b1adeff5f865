use Rattle.std.proofs.Common.{ℕ, ap, ◌∙◌}
use lib.Bits.{bit_xor}
use Rattle.graph.specs.Sets.{has}
use Rattle.graph.proofs.Differ.{has_less}
use Rattle.graph.proofs.sets.without.Goals as goal

pub returns : goal.returns
returns g c k =
    let m = g.met.M.Mask in
    let n = g.M.Mask.number in
    ap (λ (x : ℕ). has x k) (m.xor_law _ _ _ c.bitxor.ensures ∙ ap (bit_xor (n c.args.a)) (m.and_law _ _ _ c.bitand.ensures)) ∙ has_less _ _ k
