use Rattle.std.proofs.Common.{rules}
use Rattle.judge.proofs.Listing.{falls_not}
use Rattle.judge.proofs.refutation.Listing.falls.Goals as goal

pub returns-clause-no : goal.returns-clause-no
returns-clause-no c =
    falls_not c.args.self.now.nodes.now c.args.rank c.args.strict c.args.to _ _ _ c.find.ensures c.is_some_and.ensures (λ p q. search rules)
