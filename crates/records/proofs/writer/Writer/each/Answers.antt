use Rattle.records.specs.Claims.{each}
use Rattle.records.specs.Puts.{wrote_none, wrote_more, wrote_same}
use Rattle.records.proofs.Listing.{each_more, room_front, room_item}
use Rattle.records.proofs.writer.Writer.each.Goals as goal

pub loop-item-init : goal.loop-item-init
unfolding each
loop-item-init g c = wrote_none _

pub write-requires : goal.write-requires
write-requires g c =
    room_item g.T.Coded.written g.T.Coded.most g.met.T.Coded.short c.args.self.now c.loop-item.self c.args.items.now c.loop-item.item-index
    c.loop-item-test.true c.requires c.loop-item.invariant

pub loop-item-preserved : goal.loop-item-preserved
loop-item-preserved g c =
    let room =
    room_front g.T.Coded.written g.T.Coded.most g.met.T.Coded.short c.args.self.now c.args.items.now c.loop-item.item-index
    c.loop-item-test.true c.requires in
    wrote_same _ _ _ _ (each_more g.T.Coded.written c.args.items.now c.loop-item.item-index _ c.loop-item-test.true c.item-item.is)
    (wrote_more _ _ _ _ _ room c.loop-item.invariant c.write.ensures)
