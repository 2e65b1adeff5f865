use Rattle.rules.specs.Rules.{formula_of}
use Rattle.tables.specs.Questions.{breaks}
use Rattle.tables.proofs.Asking.{asks}
use Rattle.tables.proofs.question.Question.break_only.Goals as goal

pub returns : goal.returns
returns c = asks (breaks (formula_of c.args.y.now.rule)) _ c.alone.ensures
