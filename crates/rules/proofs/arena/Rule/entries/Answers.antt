use Rattle.rules.proofs.Growing.{shows}
use Rattle.rules.proofs.arena.Rule.entries.Goals as goal

pub returns : goal.returns
returns c = shows c.args.self.now _ c.entries.ensures.entries
