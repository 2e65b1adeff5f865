use Rattle.std.proofs.Common.{length, ap, ◌∙◌, arith, rules}
use Rattle.std.specs.Option.{option_map}
use Rattle.routing.specs.Lines.{waiting}
use Rattle.routing.proofs.Cutting.{cut_words}
use Rattle.routing.proofs.words.NamesIterator.next.Goals as goal

pub returns-clause-steps : goal.returns-clause-steps
returns-clause-steps c =
    ap (λ o. waiting (option_map (λ y. y.now) o)) c.in_ok-self.was
    ∙ cut_words c.in_ok-self.field-0.now c.cut.result.0.now (option_map (λ y. y.now) c.cut.result.1) c.cut.ensures

pub returns-clause-goes : goal.returns-clause-goes
returns-clause-goes c =
    let e = returns-clause-steps c in
    record { on = λ u. (tt, tt, omega (arith, ap length e)); keeps = search rules; rests = λ h. search rules }
