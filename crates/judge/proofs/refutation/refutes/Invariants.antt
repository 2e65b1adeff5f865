use Rattle.std.proofs.Common.{ℕ, ◌<◌}
use Rattle.walk.specs.Outlines.{outlined}
use Rattle.judge.specs.Refutations.{listed, Closed, New}
use Rattle.judge.proofs.refutation.refutes.Given as goal

abbrev pub invariant-loop-number : goal.invariant-loop-number
invariant-loop-number l = (a : ℕ) → a < l.number → New l.nodes a × Closed (outlined l.outline) l.nodes (listed l.nodes a)
