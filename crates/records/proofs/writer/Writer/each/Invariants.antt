use Rattle.std.proofs.Common.{take}
use Rattle.records.specs.Appending.{Wrote}
use Rattle.records.specs.Claims.{each}
use Rattle.records.proofs.writer.Writer.each.Given as goal

abbrev pub invariant-loop-item : goal.invariant-loop-item
invariant-loop-item g l = Wrote l.initial.self l.self (each g.T.Coded.written (take l.item-index l.items))
