use Rattle.walk.specs.Outlines.{outlined}
use Rattle.walk.specs.Remain.{remaining}
use Rattle.walk.specs.Walk.{walked}
use Rattle.judge.proofs.Closing.{Left}
use Rattle.judge.proofs.refutation.Listing.is_closed.Given as goal

abbrev pub invariant-loop-branch : goal.invariant-loop-branch
invariant-loop-branch l = Left l.self.nodes.now l.from l.strict (walked (outlined l.outline) l.from.node) (remaining l.branch-iterator)
