use Rattle.std.proofs.Common.{◌∙◌, arith, rules}
use Rattle.records.specs.Claims.{claim_of, laid}
use Rattle.records.proofs.Claiming.{put_front}
use Rattle.records.proofs.claim.Claim.write.Goals as goal

pub returns : goal.returns
returns c = (
  c.if-buffer-lt-RECORD_ROOM.false,
  c.is_countable.ensures.0 c.if-not-is_countable.false,
  omega (arith, c.put.ensures.at),
  search rules ∙ put_front c.args.buffer.now (laid (claim_of c.args.self)),
)
