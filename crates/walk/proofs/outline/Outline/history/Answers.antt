use Rattle.std.proofs.Common.{◌≡◌, Bool, cond, ap, ◌∙◌}
use Rattle.graph.specs.Pass.{is_omega}
use Rattle.walk.specs.Outlines.{outlined}
use Rattle.walk.proofs.Puts.{history_is}
use Rattle.walk.proofs.outline.Outline.history.Goals as goal
use Rattle.walk.proofs.outline.Outline.history.Goals.{then-is_omega, else-is_omega}

pub returns : goal.returns
returns c =
    let s = c.args.self.now in
    let n = c.args.node in
    let old : c.if-is_omega.old ≡ cond (is_omega (outlined s) n) 0 n.history =
    elim c.if-is_omega.branch [
      | then-is_omega w ↦ w.old-is ∙ ap (λ (b : Bool). cond b 0 n.history) w.if-is_omega.ensures.is
      | else-is_omega w ↦ w.old-is ∙ ap (λ (b : Bool). cond b 0 n.history) w.if-is_omega.ensures.is
    ] in
    history_is (outlined s) n s.all c.args.later c.if-is_omega.old c.without.result c.without-2.result
    s.every old c.without.ensures c.without-2.ensures
