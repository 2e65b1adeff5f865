use Rattle.rules.specs.Rules.{formula_of}
use Rattle.tables.specs.Questions.{both}
use Rattle.tables.proofs.Asking.{asks}
use Rattle.tables.proofs.question.Question.keep_and_break.Goals as goal

pub returns : goal.returns
returns c = asks (both (formula_of c.args.x.now.rule) (formula_of c.args.y.now.rule)) _ c.joined.ensures
