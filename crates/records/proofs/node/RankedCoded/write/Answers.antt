use Rattle.std.proofs.Common.{arith, rules}
use Rattle.records.specs.Longs.{length_field}
use Rattle.records.specs.NodeBytes.{node_wrote}
use Rattle.records.proofs.node.RankedCoded.write.Goals as goal

pub field-requires-2 : goal.field-requires-2
field-requires-2 c = omega (arith, c.requires, length_field 8 c.low-low.result)

pub field-requires-3 : goal.field-requires-3
field-requires-3 c = omega (arith, c.requires, length_field 8 c.low-low.result, length_field 8 c.high-high.result)

pub field-requires-4 : goal.field-requires-4
field-requires-4 c = omega (arith, c.requires, length_field 8 c.low-low.result, length_field 8 c.high-high.result, length_field 2 c.args.self.node.marks)

pub field-requires-5 : goal.field-requires-5
field-requires-5 c =
    omega (arith, c.requires, length_field 8 c.low-low.result, length_field 8 c.high-high.result, length_field 2 c.args.self.node.marks, length_field 2 c.args.self.node.history)

pub returns : goal.returns
returns c =
    node_wrote c.args.self _ _ _ _ _ _ _ _ _ _ _ _ _ c.requires
    c.byte.ensures c.field.ensures c.field-2.ensures c.field-3.ensures c.field-4.ensures c.field-5.ensures
    (search rules) (search rules) (search rules) (search rules) (search rules) (search rules)
