use Rattle.std.proofs.Common.{◌≡◌, eqb}
use Rattle.graph.proofs.Differ.{equal_decided}
use Rattle.graph.proofs.sets.equal.Goals as goal

pub returns : goal.returns
returns g c =
    let a = g.M.Mask.number c.args.a in
    let b = g.M.Mask.number c.args.b in
    let law = g.met.M.Mask.eq_law c.args.a c.args.b in
    let e : c.eq.result ≡ eqb a b = cc (c.eq.ensures, law) in
    rw e (equal_decided a b)
