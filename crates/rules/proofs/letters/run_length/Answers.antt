use Rattle.std.proofs.Common.{◌∙◌, rules, tests}
use Rattle.std.proofs.lemmas.Iterator.{YieldsList-from_slice}
use Rattle.std.proofs.lemmas.Iterator.Consumers.{YieldsList-at, count_from_yields_List}
use Rattle.std.proofs.lemmas.Iterator.Search.{YieldsList-from_take_while}
use Rattle.std.proofs.lemmas.List.Folds.{length-prefix_len}
use Rattle.rules.proofs.letters.run_length.Goals as goal

pub returns-clause-run : goal.returns-clause-run
returns-clause-run g c test k =
    count_from_yields_List _ _ c.count.ensures.ran (YieldsList-from_take_while _ test (YieldsList-at c.take_while.ensures.source (YieldsList-from_slice c.args.bytes.now cc)) c.take_while.ensures.closure c.take_while.ensures.done (λ x b q p. search (rules, tests)))
    ∙ length-prefix_len test c.args.bytes.now
