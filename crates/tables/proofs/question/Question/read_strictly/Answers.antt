use Rattle.tables.proofs.Asking.{strictly}
use Rattle.tables.proofs.question.Question.read_strictly.Goals as goal

pub returns : goal.returns
returns c =
    let read = c.in_ok-try_from.ensures in
    strictly c.args.list.now c.in_ok-try_from.field-0.bytes.now c.args.x.now c.args.y.now c.read.result read.0 read.1 c.read.ensures
