use Rattle.std.proofs.Common.{Decides, sym, subst}
use Rattle.records.specs.declared.claim.Claim as coded
use Rattle.records.specs.Claims.{claim_of}
use Rattle.walk.specs.Outlines.{outlined}
use Rattle.judge.specs.Judging.{Right}
use Rattle.judge.proofs.judge.is_right.Goals as goal

pub returns-in-Run : goal.returns-in-Run
returns-in-Run c =
    subst (λ (z : coded.Claim). Decides c.keeps.result (Right (outlined c.args.outline.now) (claim_of z))) (sym c.in-Run.is) c.keeps.ensures
