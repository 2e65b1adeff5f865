use Rattle.std.proofs.Common.{◌≤◌, length, arith}
use Rattle.records.proofs.Claiming.{laid_run, length_opening}
use Rattle.records.specs.Puts.{wrote_more, wrote_same}
use Rattle.records.proofs.writer.Writer.run.Goals as goal

pub list-requires-clause-room : goal.list-requires-clause-room
list-requires-clause-room c =
    let l : length c.args.lead.now ≤ 1023 = c.requires.counts.0 in
    let m : length c.args.cycle.now ≤ 1024 = c.requires.counts.2 in
    omega (arith, c.requires.room, length_opening c.args.lead.now, c.opening.ensures.at, c.opening.ensures.room)

pub returns : goal.returns
returns c =
    let l : length c.args.lead.now ≤ 1023 = c.requires.counts.0 in
    wrote_same _ _ _ _ (laid_run c.args.lead.now c.args.cycle.now)
    (wrote_more _ _ _ _ _ (omega (arith, c.requires.room, length_opening c.args.lead.now)) c.opening.ensures c.list.ensures)
