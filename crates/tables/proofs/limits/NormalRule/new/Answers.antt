use Rattle.std.proofs.Common.{◌≤◌, true, length, sym, refl, ap, subst, inl, inr, arith}
use Rattle.std.proofs.lemmas.Bool.{both_ways, cases_lt}
use Rattle.rules.specs.Rules.{formula_of}
use Rattle.tables.specs.Lines.{choices}
use Rattle.tables.specs.Normal.{nnf}
use Rattle.tables.specs.Limits.{kept, broken, Choosy, Chooses}
use Rattle.tables.proofs.Limited.{not_long, choosy_from, choosy_to, leads_tabled}
use Rattle.tables.proofs.limits.NormalRule.new.Goals as goal

pub returns-then-is_choosy : goal.returns-then-is_choosy
returns-then-is_choosy c =
    let f = formula_of c.args.rule in
    let e = leads_tabled (nnf true f) c.new.result c.number_rule.result (c.in_ok-draft.draft, c.in_ok-draft.field-0-1) c.new.ensures c.number_rule.ensures c.in_ok-draft.ensures.ok_part in
    let short : length (kept f) ≤ 60 = omega (arith, c.if-lines-gt-RULE_LINES.false, ap length c.lines.ensures, ap length e) in
    inr (not_long f short, choosy_from f (subst Chooses e (c.is_choosy.ensures.0 c.if-is_choosy.true)), refl)

-- the rule is within the limits
pub returns : goal.returns
returns c =
    let f = formula_of c.args.rule in
    let e = leads_tabled (nnf true f) c.new.result c.number_rule.result (c.in_ok-draft.draft, c.in_ok-draft.field-0-1) c.new.ensures c.number_rule.ensures c.in_ok-draft.ensures.ok_part in
    let short : length (kept f) ≤ 60 = omega (arith, c.if-lines-gt-RULE_LINES.false, ap length c.lines.ensures, ap length e) in
    (refl, record { short = not_long f short; few = λ h. both_ways _ c.if-is_choosy.false (c.is_choosy.ensures.1 (subst Chooses (sym e) (choosy_to f h))) })

pub invariant_of-result : goal.invariant_of-result
invariant_of-result c =
    let f = formula_of c.args.rule in
    let e = leads_tabled (nnf true f) c.new.result c.number_rule.result (c.in_ok-draft.draft, c.in_ok-draft.field-0-1) c.new.ensures c.number_rule.ensures c.in_ok-draft.ensures.ok_part in
    let no_choosy : Choosy f → ⊥ = λ h. both_ways _ c.if-is_choosy.false (c.is_choosy.ensures.1 (subst Chooses (sym e) (choosy_to f h))) in
    let few : choices (kept f) ≤ 8 = elim (cases_lt 8 (choices (kept f))) [ inl h ↦ absurd (no_choosy (inl h)) | inr h ↦ h ] in
    let dually : choices (broken f) ≤ 8 = elim (cases_lt 8 (choices (broken f))) [ inl h ↦ absurd (no_choosy (inr h)) | inr h ↦ h ] in
    record { short = omega (arith, c.if-lines-gt-RULE_LINES.false, ap length c.lines.ensures, ap length e); few = few; dually = dually }
