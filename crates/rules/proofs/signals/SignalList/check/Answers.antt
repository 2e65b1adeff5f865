use Rattle.rules.proofs.Listed.{joined_names}
use Rattle.rules.proofs.signals.SignalList.check.Goals as goal

pub returns-clause-names : goal.returns-clause-names
returns-clause-names c = joined_names c.args.bytes.now
