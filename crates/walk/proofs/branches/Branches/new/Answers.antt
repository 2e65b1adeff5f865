use Rattle.std.proofs.Common.{◌≡◌, ℕ, List, map, sym, ap, ◌∙◌, subst, ap₂}
use Rattle.walk.specs.declared.found.Branch.{Branch}
use Rattle.walk.specs.declared.found.Found.{Found}
use Rattle.walk.specs.Exact.{Exact}
use Rattle.walk.specs.Outlines.{outlined}
use Rattle.walk.specs.Walk.{walk, walked, finish, start}
use Rattle.walk.proofs.Judges.{walked_exact}
use Rattle.walk.proofs.Ready.{outline_ordered}
use Rattle.walk.proofs.Walks.{rest_one}
use Rattle.walk.proofs.branches.Branches.new.Goals as goal

pub returns : goal.returns
unfolding walked
returns c =
    let o = c.args.outline.now in
    let t = outlined o in
    let n = c.args.node in
    let d = c.default.result in
    let z = c.default.ensures in
    let f : ◌≡◌ {A = Found} (record { seen = c.open.result; next = d.next; later = d.later; on = d.on; off = d.off }) (start t n) = cc (c.open.ensures, z.1.0, z.1.1.0, z.1.1.1.0, z.1.1.1.1) in
    let e : ◌≡◌ {A = List Branch} _ (walked t n) =
    ap (map (finish t n)) (rest_one t _ _ _ c.new.ensures c.push.ensures.items ∙ ap₂ (λ (k : ℕ) (x : Found). walk t k x) (sym o.whole) f) in
    record { list = e; exact = subst (Exact t n) (sym e) (walked_exact t (outline_ordered o) n) }
