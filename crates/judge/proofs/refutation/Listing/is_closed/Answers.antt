use Rattle.std.proofs.Common.{subst}
use Rattle.walk.specs.Exact.{Exact}
use Rattle.walk.specs.Outlines.{outlined}
use Rattle.walk.specs.Remain.{remaining}
use Rattle.walk.proofs.Ready.{outline_ordered}
use Rattle.judge.proofs.Closing.{left_more, left_none, left_fails}
use Rattle.judge.proofs.refutation.Listing.is_closed.Goals as goal

pub loop-branch-preserved : goal.loop-branch-preserved
loop-branch-preserved c =
    left_more _ _ _ _ (remaining c.loop-branch.branch-iterator) _ c.in-Some.branch c.in-Some.ensures.steps (c.falls.ensures.yes c.if-not-falls.false) c.loop-branch.invariant

pub returns-clause-yes : goal.returns-clause-yes
returns-clause-yes c = λ _.
    let t = outlined c.args.outline.now in
    let exact = subst (Exact t c.args.from.node) c.new-branch-items.ensures.list c.new-branch-items.ensures.exact in
    left_none _ _ _ _ t (outline_ordered c.args.outline.now) c.is_omega-strict.ensures.means exact _ c.in-None.ensures.steps.0 c.loop-branch.invariant

pub returns-then-not-falls-clause-no : goal.returns-then-not-falls-clause-no
returns-then-not-falls-clause-no c = λ _ once.
    let t = outlined c.args.outline.now in
    let exact = subst (Exact t c.args.from.node) c.new-branch-items.ensures.list c.new-branch-items.ensures.exact in
    left_fails _ _ _ _ t (outline_ordered c.args.outline.now) c.is_omega-strict.ensures.means exact (remaining c.loop-branch.branch-iterator) _ c.in-Some.branch
    c.in-Some.ensures.steps c.loop-branch.invariant (c.falls.ensures.no c.if-not-falls.true once)
