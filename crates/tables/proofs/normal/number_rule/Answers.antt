use Rattle.tables.specs.Parts.{formulas}
use Rattle.tables.specs.Tables.{drafted}
use Rattle.tables.proofs.Limited.{shows_told, knows_nothing}
use Rattle.tables.proofs.normal.number_rule.Goals as goal

pub invariant_of-numberer-clause-told : goal.invariant_of-numberer-clause-told
invariant_of-numberer-clause-told c = shows_told c.args.rule.now c.entries-entries.result.now c.entries-entries.ensures

pub invariant_of-numberer-clause-remembered : goal.invariant_of-numberer-clause-remembered
invariant_of-numberer-clause-remembered c = knows_nothing (formulas c.entries-entries.result.now) c.new.result (drafted c.args.draft) c.new.ensures
