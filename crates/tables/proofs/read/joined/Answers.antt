use Rattle.std.proofs.Common.{◌≡◌, true, false, length, ap, ◌∙◌, subst, arith}
use Rattle.rules.specs.Rules.{formula_of}
use Rattle.tables.specs.declared.line.Line.{Line}
use Rattle.tables.specs.Lines.{Lines, choices}
use Rattle.tables.specs.Normal.{nnf}
use Rattle.tables.specs.Numbering.{enter, place, tabled}
use Rattle.tables.specs.Questions.{both, form_of}
use Rattle.tables.specs.Tables.{drafted, Goes, Leads}
use Rattle.tables.proofs.Made.{length_drafted, draft_tidy}
use Rattle.tables.proofs.Limited.{leads_tabled, leads_some}
use Rattle.tables.proofs.Asking.{alone_short, both_few, second_fits, tabled_some, both_under, both_fit, both_tabled}
use Rattle.tables.proofs.read.joined.Goals as goal

pub unwrap-left-requires : goal.unwrap-left-requires
unwrap-left-requires c =
    let X = nnf true (formula_of c.args.x.now.rule) in
    leads_some _ _ c.number_rule.ensures (omega (arith, ap (λ (t : Lines). length (place X t).table) c.new.ensures, alone_short c.args.x.now true))

pub unwrap-right-requires : goal.unwrap-right-requires
unwrap-right-requires c =
    let X = nnf true (formula_of c.args.x.now.rule) in
    let d = c.unwrap-left.result in
    leads_some _ _ c.number_rule-2.ensures (second_fits c.args.x.now c.args.y.now (drafted d.0) (draft_tidy d.0) (leads_tabled X c.new.result c.number_rule.result d c.new.ensures c.number_rule.ensures c.unwrap-left.ensures))

pub enter-requires : goal.enter-requires
enter-requires c =
    let left = subst (Leads (place (nnf true (formula_of c.args.x.now.rule)) (drafted c.new.result))) c.unwrap-left.ensures c.number_rule.ensures in
    let right = subst (Leads (place (nnf false (formula_of c.args.y.now.rule)) (drafted c.unwrap-left.result.0))) c.unwrap-right.ensures c.number_rule-2.ensures in
    both_under c.args.x.now c.args.y.now c.new.result c.unwrap-left.result.0 c.unwrap-right.result.0 c.unwrap-left.result.1 c.unwrap-right.result.1 c.new.ensures left right

pub unwrap-requires : goal.unwrap-requires
unwrap-requires c =
    let left = subst (Leads (place (nnf true (formula_of c.args.x.now.rule)) (drafted c.new.result))) c.unwrap-left.ensures c.number_rule.ensures in
    let right = subst (Leads (place (nnf false (formula_of c.args.y.now.rule)) (drafted c.unwrap-left.result.0))) c.unwrap-right.ensures c.number_rule-2.ensures in
    both_fit c.args.x.now c.args.y.now c.new.result c.unwrap-left.result.0 c.unwrap-right.result.0 c.unwrap-left.result.1 c.unwrap-right.result.1 c.new.ensures left right
    c.enter.new.self c.enter.result c.enter.ensures.goes

-- the lines are those of the table that is asked for
lines_asked : (c : goal.After-unwrap) → drafted c.enter.new.self ≡ tabled (form_of (both (formula_of c.args.x.now.rule) (formula_of c.args.y.now.rule)))
lines_asked c =
    let left = subst (Leads (place (nnf true (formula_of c.args.x.now.rule)) (drafted c.new.result))) c.unwrap-left.ensures c.number_rule.ensures in
    let right = subst (Leads (place (nnf false (formula_of c.args.y.now.rule)) (drafted c.unwrap-left.result.0))) c.unwrap-right.ensures c.number_rule-2.ensures in
    both_tabled c.args.x.now c.args.y.now c.new.result c.unwrap-left.result.0 c.unwrap-right.result.0 c.unwrap-left.result.1 c.unwrap-right.result.1 c.new.ensures left right
    c.enter.new.self c.unwrap.result
    (subst (Goes (enter (Line.And c.unwrap-left.result.1 c.unwrap-right.result.1) (drafted c.unwrap-right.result.0)) (drafted c.enter.new.self)) c.unwrap.ensures c.enter.ensures.goes)

pub table-requires-clause-some : goal.table-requires-clause-some
table-requires-clause-some c = omega (arith, length_drafted c.enter.new.self, ap length (lines_asked c), tabled_some (form_of (both (formula_of c.args.x.now.rule) (formula_of c.args.y.now.rule))))

pub table-requires-clause-few : goal.table-requires-clause-few
table-requires-clause-few c = omega (arith, ap choices (lines_asked c), both_few c.args.x.now c.args.y.now)

pub returns : goal.returns
returns c = c.table.ensures ∙ lines_asked c.before
