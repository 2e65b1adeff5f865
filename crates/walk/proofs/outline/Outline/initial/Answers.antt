use Rattle.std.proofs.Common.{◌≡◌, ℕ, ◌-◌, ◌<◌, sym, ap, ◌∙◌, subst, arith}
use Rattle.graph.specs.declared.node.Node.{Node}
use Rattle.graph.specs.Sets.{add}
use Rattle.graph.specs.Pass.{initial, put}
use Rattle.graph.specs.Unfolding.{Initial}
use Rattle.graph.proofs.Laws.{initial_is}
use Rattle.walk.specs.Outlines.{outlined}
use Rattle.walk.proofs.Ready.{outline_ordered}
use Rattle.walk.proofs.outline.Outline.initial.Goals as goal

pub returns : goal.returns
unfolding initial
returns c =
    let s = c.args.self.now in
    let t = outlined s in
    let small : s.len - 1 < 128 = omega arith in
    let e : ◌≡◌ {A = Node} _ (initial t) =
    ap (λ (x : ℕ). record { label = x; marks = 0; history = 0 })
    (c.put-label.ensures ∙ ap (put t) (c.with.ensures.within small ∙ ap (λ (n : ℕ). add 0 (n - 1)) (sym s.whole))) in
    record { is = e; means = subst (Initial t) (sym e) (initial_is t (outline_ordered s)) }
