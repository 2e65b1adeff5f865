use Rattle.std.proofs.Common.{◌≡◌, ℕ, ◌<◌, Bool}
use Rattle.graph.specs.Sets.{set_of}
use Rattle.walk.proofs.fit.set_of.Given as goal

abbrev pub invariant-loop-k : goal.invariant-loop-k
invariant-loop-k g l =
    (f : ℕ → Bool) → ((k : ℕ) (b : Bool) → k < l.fn.count → goal.F-post g l.test k b → b ≡ f k) → g.M.Mask.number l.set ≡ set_of l.k f
