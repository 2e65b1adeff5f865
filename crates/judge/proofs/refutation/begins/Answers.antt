use Rattle.std.proofs.Common.{◌≡◌, Decides, sym, subst, rules}
use Rattle.graph.specs.Unfolding.{Initial}
use Rattle.graph.proofs.Laws.{one_initial}
use Rattle.walk.specs.Outlines.{outlined}
use Rattle.judge.specs.Refutations.{listed}
use Rattle.judge.proofs.refutation.begins.Goals as goal

pub returns-in-len1-up : goal.returns-in-len1-up
returns-in-len1-up c =
    let t = outlined c.args.outline.now in
    let same : Decides c.eq.result ((listed c.args.nodes.now 0).node ≡ c.initial.result) = search rules in
    (λ h. (search rules, subst (Initial t) (sym (same.0 h)) c.initial.ensures.means), λ b. same.1 (one_initial t _ _ b.1 c.initial.ensures.means))
