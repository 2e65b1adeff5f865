use Rattle.std.proofs.Common.{◌↔◌, IsTrue, ℕ, ◌<◌, get_or}
use Rattle.hexadecimal.specs.Hex.{IsSmall}
use Rattle.hexadecimal.proofs.are_small.Given as goal

-- so far all are small, if the mark says so
abbrev pub invariant-loop-digit : goal.invariant-loop-digit
invariant-loop-digit l = IsTrue l.small ↔ ((k : ℕ) → k < l.digit-index → IsSmall (get_or l.digits k 0))
