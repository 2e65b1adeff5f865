use Rattle.std.proofs.lemmas.Result.{err_from_is_err_and}
use Rattle.rules.specs.declared.syntax.Word.TheVariants.{Open}
use Rattle.rules.proofs.Forming.{reads_on, heard_as, formed_leaf, formed_one, formed_two, refuses_sign, refuses_right, refuses_close}
use Rattle.rules.proofs.rule.+formula.Goals as goal

pub returns-in_err-binary-in_default-Open-clause-parses : goal.returns-in_err-binary-in_default-Open-clause-parses
returns-in_err-binary-in_default-Open-clause-parses t c =
    let w = heard_as _ _ c.in_ok-atom.field-0 Open c.in_default-Open.is-1 c.in_ok-atom.ensures.hears in
    let same = reads_on _ _ _ c.word.ensures.same c.formula-in_default-Open.ensures.same in
    let p = err_from_is_err_and c.from_residual-in_err-binary-in_default-Open.result c.from_residual-in_err-binary-in_default-Open.ensures.1 in
    rw (p.1, p.2) (refuses_sign _ _ _ _ _ _ _ c.in_err-binary-in_default-Open.field-0.0 same w c.in_ok-left-in_default-Open.ensures.parses c.in_err-binary-in_default-Open.ensures.hears)

pub returns-in_err-right-in_default-Open-clause-parses : goal.returns-in_err-right-in_default-Open-clause-parses
returns-in_err-right-in_default-Open-clause-parses t c =
    let w = heard_as _ _ c.in_ok-atom.field-0 Open c.in_default-Open.is-1 c.in_ok-atom.ensures.hears in
    let same = reads_on _ _ _ (reads_on _ _ _ c.word.ensures.same c.formula-in_default-Open.ensures.same) c.sign.ensures.same in
    let p = err_from_is_err_and c.from_residual-in_err-right-in_default-Open.result c.from_residual-in_err-right-in_default-Open.ensures.1 in
    rw (p.1, p.2) (refuses_right _ _ _ _ _ _ _ _ _ _ c.in_err-right-in_default-Open.field-0.0 same w c.in_ok-left-in_default-Open.ensures.parses c.in_ok-binary-in_default-Open.ensures.hears.1 c.in_err-right-in_default-Open.ensures.parses)

pub returns-in_err-close-in_default-Open-clause-parses : goal.returns-in_err-close-in_default-Open-clause-parses
returns-in_err-close-in_default-Open-clause-parses t c =
    let w = heard_as _ _ c.in_ok-atom.field-0 Open c.in_default-Open.is-1 c.in_ok-atom.ensures.hears in
    let same = reads_on _ _ _ (reads_on _ _ _ (reads_on _ _ _ c.word.ensures.same c.formula-in_default-Open.ensures.same) c.sign.ensures.same) c.formula-in_default-Open-2.ensures.same in
    let p = err_from_is_err_and c.from_residual-in_err-close-in_default-Open.result c.from_residual-in_err-close-in_default-Open.ensures.1 in
    rw (p.1, p.2) (refuses_close _ _ _ _ _ _ _ _ _ _ _ _ _ c.in_err-close-in_default-Open.field-0.0 same w c.in_ok-left-in_default-Open.ensures.parses c.in_ok-binary-in_default-Open.ensures.hears.1 c.in_ok-right-in_default-Open.ensures.parses c.in_err-close-in_default-Open.ensures.hears)

pub returns-in_default-Leaf-clause-parses : goal.returns-in_default-Leaf-clause-parses
returns-in_default-Leaf-clause-parses t c =
    formed_leaf _ _ _ _ _ _ _ (heard_as _ _ c.in_ok-atom.field-0 _ c.in_default-Leaf.is-1 c.in_ok-atom.ensures.hears) c.push.ensures.entries c.push.ensures.number

pub returns-in_ok-inner-in_default-Prefix-clause-parses : goal.returns-in_ok-inner-in_default-Prefix-clause-parses
returns-in_ok-inner-in_default-Prefix-clause-parses t c =
    formed_one _ _ _ _ _ _ _ _ _ _ (heard_as _ _ c.in_ok-atom.field-0 _ c.in_default-Prefix.is-1 c.in_ok-atom.ensures.hears) c.in_ok-inner-in_default-Prefix.ensures.parses c.push-in_default-Prefix.ensures.entries c.push-in_default-Prefix.ensures.number

pub returns-in_ok-close-in_default-Open-clause-parses : goal.returns-in_ok-close-in_default-Open-clause-parses
returns-in_ok-close-in_default-Open-clause-parses t c =
    let w = heard_as _ _ c.in_ok-atom.field-0 Open c.in_default-Open.is-1 c.in_ok-atom.ensures.hears in
    formed_two _ _ _ _ _ _ _ _ _ _ _ _ _ _ _ _ _ w c.in_ok-left-in_default-Open.ensures.parses c.in_ok-binary-in_default-Open.ensures.hears.1 c.in_ok-right-in_default-Open.ensures.parses c.in_ok-close-in_default-Open.ensures.hears.1 c.push-in_default-Open.ensures.entries c.push-in_default-Open.ensures.number
