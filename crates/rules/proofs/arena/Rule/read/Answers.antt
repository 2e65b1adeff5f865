use Rattle.std.proofs.Common.{Ok, rules}
use Rattle.rules.proofs.Exact.{alone, divides, grammar_stands}
use Rattle.rules.proofs.arena.Rule.read.Goals as goal

pub returns-then-is_empty-clause-grammar : goal.returns-then-is_empty-clause-grammar
returns-then-is_empty-clause-grammar c = grammar_stands

pub returns-in_err-whole-clause-alone : goal.returns-in_err-whole-clause-alone
returns-in_err-whole-clause-alone c = alone c.args.list.bytes.now c.args.text.now c.from_residual.result (search rules)

pub returns-in_err-whole-clause-grammar : goal.returns-in_err-whole-clause-grammar
returns-in_err-whole-clause-grammar c = grammar_stands

pub returns-clause-alone : goal.returns-clause-alone
returns-clause-alone c = alone c.args.list.bytes.now c.args.text.now (Ok c.in_ok-whole.field-0) (search rules)

pub returns-clause-divides : goal.returns-clause-divides
returns-clause-divides c = divides (Ok c.in_ok-whole.field-0)

pub returns-clause-grammar : goal.returns-clause-grammar
returns-clause-grammar c = grammar_stands
