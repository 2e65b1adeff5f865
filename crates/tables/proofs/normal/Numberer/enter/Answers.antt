use Rattle.std.proofs.Common.{◌∙◌}
use Rattle.tables.specs.Parts.{formulas}
use Rattle.tables.specs.Tables.{drafted}
use Rattle.tables.proofs.Laid.{signed_under, remembers_entered}
use Rattle.tables.proofs.normal.Numberer.enter.Goals as goal

pub enter-requires : goal.enter-requires
enter-requires c = rw c.signed.ensures (signed_under c.args.self.now.draft.len c.args.sign c.args.line ∙ c.requires)

pub invariant_of-self-clause-remembered : goal.invariant_of-self-clause-remembered
invariant_of-self-clause-remembered c =
    let s = c.args.self.now in
    remembers_entered (formulas s.entries.now) s.memo c.signed.result (drafted s.draft) (drafted c.enter.new.self) c.enter.result c.enter.ensures.goes c.enter.ensures.full s.remembered
