use Rattle.std.proofs.Common.{ℕ, [], Ok, Option, sym, ap, ◌∙◌, subst}
use Rattle.std.proofs.lemmas.Result.{err_from_is_err_and}
use Rattle.rules.specs.declared.syntax.Word.{Word}
use Rattle.rules.specs.Owed.{said}
use Rattle.rules.specs.Words.{Hears}
use Rattle.rules.proofs.Forming.{at_start, judged_whole}
use Rattle.rules.proofs.Firstness.{fault_first}
use Rattle.rules.proofs.Exact.{spells_whole, judged_after}
use Rattle.rules.proofs.rule.whole.Goals as goal

pub returns-in_err-_root : goal.returns-in_err-_root
returns-in_err-_root c =
    let new = c.new-reader.ensures in
    let p = err_from_is_err_and c.from_residual.result c.from_residual.ensures.1 in
    rw (p.1, p.2) (fault_first _ _ _ _ (judged_whole c.new-reader.result _ _ _ _ new.list new.text new.at (c.in_err-_root.ensures.parses [])))

pub returns-in_err-next_word : goal.returns-in_err-next_word
returns-in_err-next_word c =
    let new = c.new-reader.ensures in
    let p = err_from_is_err_and c.from_residual-in_err-next_word.result c.from_residual-in_err-next_word.ensures.1 in
    rw (p.1, p.2) (fault_first _ _ _ _ (judged_whole c.new-reader.result _ _ _ _ new.list new.text new.at (judged_after _ _ _ _ _ _ _ c.in_ok-_root.ensures.parses c.in_err-next_word.ensures.hears)))

pub returns-in-None : goal.returns-in-None
returns-in-None c =
    let new = c.new-reader.ensures in
    let end = subst (λ (x : Option (ℕ × Word)). Hears c.formula.new.reader (Ok x) c.next_word.new.self) c.in-None.is c.in_ok-next_word.ensures.hears in
    rw c.rule.ensures (ap said (sym (at_start c.new-reader.result _ _ new.list new.text new.at)) ∙ spells_whole _ _ _ _ _ c.in_ok-_root.ensures.parses end)

pub returns-in-Some : goal.returns-in-Some
returns-in-Some c =
    let new = c.new-reader.ensures in
    let q : ℕ × Word = (c.in-Some.at, c.in-Some.field-0-1) in
    let more = subst (λ (x : Option (ℕ × Word)). Hears c.formula.new.reader (Ok x) c.next_word.new.self) c.in-Some.is c.in_ok-next_word.ensures.hears in
    rw (c.at.ensures.kind, c.at.ensures.offset) (fault_first _ _ _ _ (judged_whole c.new-reader.result _ _ _ _ new.list new.text new.at (judged_after _ _ _ _ _ _ _ c.in_ok-_root.ensures.parses more.says)))
