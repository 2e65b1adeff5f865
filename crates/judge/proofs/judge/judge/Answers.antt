use Rattle.std.proofs.Common.{ℕ, List, Ok, subst}
use Rattle.records.specs.declared.limits.Limits.{Limits}
use Rattle.records.specs.Claims.{Claim, claim_of, Lays}
use Rattle.walk.specs.Outlines.{outlined}
use Rattle.walk.proofs.Ready.{outline_ordered}
use Rattle.judge.specs.Judging.{limits_of}
use Rattle.judge.proofs.Verdicts.{proves}
use Rattle.judge.proofs.judge.judge.Goals as goal

pub returns-then-is_right-clause-proves : goal.returns-then-is_right-clause-proves
returns-then-is_right-clause-proves c =
    let t = outlined c.args.outline.now in
    let s : ℕ = c.args.signals in
    let bytes : List ℕ = c.args.bytes.now in
    let claim : Claim = claim_of c.in_ok-claim.claim in
    let x : Lays (limits_of t s) claim bytes = subst (λ (l : Limits). Lays l claim bytes) c.limits_of.ensures c.in_ok-claim.ensures.answer in
    proves t s bytes (outline_ordered c.args.outline.now) (Ok c.into.result) (claim, x, c.is_right.ensures.0 c.if-is_right.true, c.into.ensures)
