use Rattle.records.proofs.Whole.{read_as}
use Rattle.records.proofs.claim.Claim.read.Goals as goal

pub returns : goal.returns
returns c = let h = read_as c.args.limits c.args.bytes.now c.fill.result c.fill.ensures in rw c.ok_or.ensures.value (record { answer = h.0; alone = h.1 })
