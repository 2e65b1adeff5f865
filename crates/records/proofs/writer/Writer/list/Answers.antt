use Rattle.std.proofs.Common.{length, arith}
use Rattle.records.specs.Puts.{wrote_more, length_big}
use Rattle.records.proofs.writer.Writer.list.Goals as goal

pub each-requires : goal.each-requires
each-requires g c = omega (arith, c.requires.room, length_big 2 (length c.args.items.now), c.write.ensures.at, c.write.ensures.room)

pub returns : goal.returns
returns g c = wrote_more _ _ _ _ _ (omega (arith, c.requires.room, length_big 2 (length c.args.items.now))) c.write.ensures c.each.ensures
