use Rattle.std.proofs.Common.{◌≡◌, ◌≤◌}
use Rattle.graph.specs.Pass.{spread_below}
use Rattle.walk.specs.Outlines.{outlined}
use Rattle.walk.proofs.outline.Outline.spread_all.Given as goal

abbrev pub invariant-loop-k : goal.invariant-loop-k
invariant-loop-k l = (l.k ≤ l.self.len) × (spread_below (outlined l.self) l.k l.all ≡ spread_below (outlined l.self) l.self.len l.lines)

abbrev pub decreases-loop-k : goal.decreases-loop-k
decreases-loop-k l = l.k
