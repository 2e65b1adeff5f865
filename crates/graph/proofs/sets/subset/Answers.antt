use Rattle.std.proofs.Common.{◌≡◌, ℕ, eqb, ap}
use lib.Bits.{bit_and}
use Rattle.graph.proofs.Differ.{subset_decided}
use Rattle.graph.proofs.sets.subset.Goals as goal

pub returns : goal.returns
returns g c =
    let m = g.met.M.Mask in
    let a = g.M.Mask.number c.args.a in
    let b = g.M.Mask.number c.args.b in
    let same = m.eq_law c.bitand.result c.args.a in
    let both = ap (λ (x : ℕ). eqb x a) (m.and_law _ _ _ c.bitand.ensures) in
    let e : c.eq.result ≡ eqb (bit_and a b) a = cc (c.eq.ensures, same, both) in
    rw e (subset_decided a b)
