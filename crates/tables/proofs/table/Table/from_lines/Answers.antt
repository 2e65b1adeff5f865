use Rattle.std.proofs.Common.{◌≡◌, ℕ, ◌≤◌, [], ◌∷◌, ◌++◌, length, sym, refl, ap, ◌∙◌, subst, rules, arith}
use Rattle.std.proofs.lemmas.Bool.{both_ways}
use Rattle.std.proofs.lemmas.List.{take_all, take_more}
use Rattle.std.proofs.lemmas.Grind.{common_steps}
use Rattle.tables.specs.declared.line.Line.{Line}
use Rattle.tables.specs.Lines.{Lines, line, choices, Lawful}
use Rattle.tables.specs.Tables.{lines_of, drafted, Next}
use Rattle.tables.proofs.Made.{length_drafted, lawful_next}
use Rattle.tables.proofs.table.Table.from_lines.Goals as goal
use Rattle.tables.proofs.table.Table.from_lines.Goals.{then-is_empty-via-then-is_empty, then-is_empty-via-else-is_empty+then-not-has_few_choices}

pub returns-in_err-push : goal.returns-in_err-push
returns-in_err-push c =
    let ls = c.args.lines.now in
    let k : ℕ = c.loop-line.line-index in
    rw c.from_residual.ensures
    (λ o. both_ways _ refl (c.in_err-push.ensures.next.1 (subst (λ (t : Lines). Next t (line ls k)) (sym c.loop-line.invariant) (lawful_next ls o k c.loop-line-test.true))))

pub loop-line-preserved : goal.loop-line-preserved
loop-line-preserved c =
    let ls = c.args.lines.now in
    let k : ℕ = c.loop-line.line-index in
    c.in_ok-push.ensures.added ∙ ap (λ (t : Lines). t ++ (line ls k ∷ [])) c.loop-line.invariant ∙ sym (take_more ls k Line.True c.loop-line-test.true)

pub returns-then-is_empty : goal.returns-then-is_empty
returns-then-is_empty c =
    let ls = c.args.lines.now in
    let whole : drafted c.loop-line.draft ≡ ls = c.loop-line.invariant ∙ take_all c.loop-line.line-index ls c.loop-line-test.false in
    λ o. elim c.then-is_empty.branch [
      | then-is_empty-via-then-is_empty w ↦ let some = o.some in absurd (grind (arith, common_steps))
      | then-is_empty-via-else-is_empty+then-not-has_few_choices w ↦
          let few : choices (drafted c.loop-line.draft) ≤ 16 = omega (arith, o.few, ap choices whole) in
          let yes = w.has_few_choices.ensures.1 few in
          absurd (search rules)
    ]

pub table-requires-clause-some : goal.table-requires-clause-some
table-requires-clause-some c =
    let ls = c.args.lines.now in
    let whole : drafted c.loop-line.draft ≡ ls = c.loop-line.invariant ∙ take_all c.loop-line.line-index ls c.loop-line-test.false in
    let long = length_drafted c.loop-line.draft in
    let same = ap length whole in
    grind (arith, common_steps)

pub returns : goal.returns
returns c =
    let ls = c.args.lines.now in
    let whole : lines_of c.table.result ≡ ls = c.table.ensures ∙ c.loop-line.invariant ∙ take_all c.loop-line.line-index ls c.loop-line-test.false in
    let lawful : Lawful (lines_of c.table.result) = search rules in
    (subst Lawful whole lawful, whole)
