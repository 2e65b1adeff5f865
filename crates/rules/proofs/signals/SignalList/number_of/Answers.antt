use Rattle.std.proofs.Common.{sym, ◌∙◌, arith, rules, tests}
use Rattle.rules.proofs.Listed.{number_looked, number_small}
use Rattle.rules.proofs.signals.SignalList.number_of.Goals as goal

pub map-requires : goal.map-requires
map-requires c = λ x e a r. omega (arith, number_small c.args.self.now.bytes.now c.args.name.now x c.args.self.now.few (sym c.place_of.ensures ∙ e))

pub returns-clause-looked : goal.returns-clause-looked
returns-clause-looked c = number_looked c.args.self.now.bytes.now c.args.name.now _ (search (rules, tests))
