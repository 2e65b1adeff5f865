use Rattle.std.proofs.Common.{sym, ◌∙◌, rules}
use Rattle.records.specs.Longs.{big_is}
use Rattle.records.specs.Puts.{wrote_same}
use Rattle.records.proofs.coded.U64Coded.write.Goals as goal

pub returns : goal.returns
returns c = wrote_same _ _ _ _ (c.to_be_bytes.ensures ∙ sym (big_is 8 c.args.self (search rules))) c.bytes.ensures
