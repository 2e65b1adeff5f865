use Rattle.std.proofs.Common.{◌≡◌, ℕ, length, ap, ◌∙◌, arith}
use Rattle.records.specs.Parsing.{many}
use Rattle.records.proofs.Filling.{filled_more, filled_lost, filled_all}
use Rattle.records.proofs.reader.Reader.fill.Goals as goal

pub loop-slot-preserved : goal.loop-slot-preserved
loop-slot-preserved g c =
    filled_more (g.T.Item.parsed_within c.args.limits) c.loop-slot.table c.loop-slot.slot-index _ _ _ _ (omega arith) c.loop-slot.invariant c.in_ok-slot.ensures

pub returns-in_err-slot : goal.returns-in_err-slot
returns-in_err-slot g c =
    let same : length c.args.table.now ≡ length c.loop-slot.table = omega arith in
    rw c.from_residual.ensures
    (ap (λ (n : ℕ). many n (g.T.Item.parsed_within c.args.limits) c.args.self.now.rest.now) same
    ∙ filled_lost (g.T.Item.parsed_within c.args.limits) c.loop-slot.table c.loop-slot.slot-index _ _ (omega arith) c.loop-slot.invariant c.in_err-slot.ensures)

pub returns : goal.returns
returns g c =
    let same : length c.args.table.now ≡ length c.loop-slot.table = omega arith in
    ap (λ (n : ℕ). many n (g.T.Item.parsed_within c.args.limits) c.args.self.now.rest.now) same
    ∙ filled_all (g.T.Item.parsed_within c.args.limits) c.loop-slot.table c.loop-slot.slot-index _ _ (omega arith) c.loop-slot.invariant
