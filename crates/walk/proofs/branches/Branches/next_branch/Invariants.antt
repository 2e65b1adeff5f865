use Rattle.std.proofs.Common.{◌≡◌}
use Rattle.walk.specs.Remain.{ends, work}
use Rattle.walk.proofs.branches.Branches.next_branch.Given as goal

abbrev pub invariant-loop-pass : goal.invariant-loop-pass
invariant-loop-pass l =
    (l.self.outline.now ≡ l.initial.self.outline.now)
    × (l.self.node ≡ l.initial.self.node)
    × (ends l.self ≡ ends l.initial.self)

abbrev pub decreases-loop-pass : goal.decreases-loop-pass
decreases-loop-pass l = work l.self
