use Rattle.std.proofs.Common.{◌≡◌, [], ◌∷◌, map, length, sym, ap, ◌∙◌, ap₂, arith, rules}
use Rattle.graph.specs.declared.node.Node.{Node}
use Rattle.walk.specs.declared.outline.Outline.{Outline}
use Rattle.walk.specs.declared.found.Branch.{Branch}
use Rattle.walk.specs.declared.found.Pass.{Pass}
use Rattle.arrayvec.specs.ArrayVec.{ArrayVec}
use Rattle.walk.specs.Outlines.{outlined}
use Rattle.walk.specs.Walk.{rest, finish}
use Rattle.walk.specs.Remain.{ends, remaining}
use Rattle.walk.proofs.Walks.{rest_none, rest_push, load_push}
use Rattle.walk.proofs.branches.Branches.next_branch.Goals as goal

pub returns-in-Some-descend : goal.returns-in-Some-descend
returns-in-Some-descend c =
    let s = c.loop-pass.self in
    let i = c.loop-pass.invariant in
    let a = c.in-Some-descend.ensures in
    let e : ends c.args.self.now ≡ c.in-Some-descend.found ∷ ends c.descend.new.self =
    sym i.2 ∙ rest_push _ s.stack.items c.in-Some.pass c.in-Some.ensures.items (outlined s.outline.now) ∙ sym a.list in
    ap₂ (λ (x : Outline) (n : Node). map (finish (outlined x) n) (ends c.args.self.now)) (sym (a.outline ∙ i.0)) (sym (a.node ∙ i.1))
    ∙ ap (map (finish (outlined c.descend.new.self.outline.now) c.descend.new.self.node)) e
    ∙ ap (λ (b : Branch). b ∷ remaining c.descend.new.self) (sym c.finish.ensures)

pub loop-pass-smaller : goal.loop-pass-smaller
loop-pass-smaller c =
    omega (arith, load_push _ c.loop-pass.self.stack.items c.in-Some.pass c.in-Some.ensures.items, c.in_default-descend.ensures.work)

pub loop-pass-preserved : goal.loop-pass-preserved
loop-pass-preserved c =
    let s = c.loop-pass.self in
    let i = c.loop-pass.invariant in
    let a = c.in_default-descend.ensures in
    (a.outline ∙ i.0, a.node ∙ i.1, a.list ∙ sym (rest_push _ s.stack.items c.in-Some.pass c.in-Some.ensures.items (outlined s.outline.now)) ∙ i.2)

pub returns : goal.returns
returns c =
    let s = c.loop-pass.self in
    let t = outlined s.outline.now in
    let z : length s.stack.items ≡ 0 = search rules in
    let n : ends s ≡ [] = ap (rest t s.stack.items) z ∙ rest_none t s.stack.items in
    let m : rest t c.pop.new.self.items (length c.pop.new.self.items) ≡ [] =
    ap (λ (v : ArrayVec Pass). rest t v.items (length v.items)) c.in_default.ensures.empty ∙ n in (
      ap (map (finish (outlined c.args.self.now.outline.now) c.args.self.now.node)) (sym c.loop-pass.invariant.2 ∙ n),
      ap (map (finish t s.node)) m,
    )
