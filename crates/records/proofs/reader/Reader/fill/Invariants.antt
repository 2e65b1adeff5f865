use Rattle.records.proofs.Filling.{Filled}
use Rattle.records.proofs.reader.Reader.fill.Given as goal

abbrev pub invariant-loop-slot : goal.invariant-loop-slot
invariant-loop-slot g l = Filled (g.T.Item.parsed_within l.limits) l.slot-index l.table l.initial.self.rest.now l.self.rest.now
