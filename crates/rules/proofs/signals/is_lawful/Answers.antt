use Rattle.std.proofs.Common.{eqb, rules, tests}
use Rattle.std.proofs.lemmas.Iterator.{cases_from_all}
use Rattle.std.proofs.lemmas.Iterator.Consumers.{YieldsList-at, YieldsList-from_enumerate}
use Rattle.std.proofs.lemmas.Iterator.Splits.{YieldsList-from_slice_split}
use Rattle.rules.proofs.Listed.{Fitting, lawful_decided}
use Rattle.rules.proofs.signals.is_lawful.Goals as goal

pub returns : goal.returns
returns c =
    let bytes = c.args.bytes.now in
    lawful_decided bytes _ (cases_from_all _ _ _ (Fitting bytes) (λ p. Fitting bytes p → ⊥) c.all.ensures.ran
    (YieldsList-from_enumerate (YieldsList-at c.enumerate.ensures.source (YieldsList-from_slice_split _ (λ b. eqb b 32) bytes c.split.ensures.rest c.split.ensures.done c.split.ensures.closure (λ x b q k. search (rules, tests)))) c.enumerate.ensures.count)
    (λ x q k. search (rules, tests)) (λ x q k f. search (rules, tests)))
