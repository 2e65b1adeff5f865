use Rattle.rules.specs.Rules.{formula_of}
use Rattle.tables.specs.Questions.{keeps}
use Rattle.tables.proofs.Asking.{asks}
use Rattle.tables.proofs.question.Question.keep.Goals as goal

pub returns : goal.returns
returns c = asks (keeps (formula_of c.args.x.now.rule)) _ c.alone.ensures
