use Rattle.std.proofs.Common.{false, refl, arith, below_more}
use Rattle.std.proofs.lemmas.Bool.{both_ways}
use Rattle.judge.proofs.Listing.{once_new, ranked_once, ranks_closed}
use Rattle.judge.proofs.refutation.refutes.Goals as goal
use Rattle.judge.proofs.refutation.refutes.Goals.{then-not-is_new-via-then-not-is_new, then-not-is_new-via-else-not-is_new+then-not-is_closed}

pub returns-then-not-is_new : goal.returns-then-not-is_new
returns-then-not-is_new c = (
  λ e. absurd (both_ways false refl e),
  λ r. absurd (elim c.then-not-is_new.branch [
    | then-not-is_new-via-then-not-is_new w ↦ both_ways c.is_new.result w.if-not-is_new.true (c.is_new.ensures.1 (once_new _ r.1 c.loop-number.number c.loop-number-test.true))
    | then-not-is_new-via-else-not-is_new+then-not-is_closed w ↦ w.is_closed.ensures.no w.if-not-is_closed.true r.1 (ranks_closed _ _ r.0 c.loop-number.number c.loop-number-test.true)
  ]),
)

pub loop-number-preserved : goal.loop-number-preserved
loop-number-preserved c = below_more _ _ c.loop-number.invariant (c.is_new.ensures.0 c.if-not-is_new.false, c.is_closed.ensures.yes c.if-not-is_closed.false)

pub returns : goal.returns
returns c = (λ _. ranked_once _ _ (c.begins.ensures.0 c.if-not-begins.false) (λ a h. c.loop-number.invariant a (omega arith)), λ _. refl)
