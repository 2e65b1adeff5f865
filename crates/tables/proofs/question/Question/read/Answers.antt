use Rattle.std.proofs.Common.{◌<◌, length, inr, arith}
use Rattle.std.proofs.lemmas.Grind.{common_steps}
use Rattle.std.proofs.lemmas.Result.{err_from_is_err_and}
use Rattle.rules.specs.Rules.{formula_of}
use Rattle.tables.proofs.question.Question.read.Goals as goal

pub returns-in_err-broken-in-false-false : goal.returns-in_err-broken-in-false-false
returns-in_err-broken-in-false-false c =
    let p = err_from_is_err_and c.from_residual-in_err-broken-in-false-false.result c.from_residual-in_err-broken-in-false-false.ensures.1 in
    let some : 0 < length c.args.y.now = grind (arith, common_steps, c.in-false-false.ensures') in
    rw (p.1, p.2) (inr (inr (formula_of c.in_ok-kept-in-false-false.kept.rule, c.in_ok-kept-in-false-false.ensures, some, c.in_err-broken-in-false-false.ensures)))
