use Rattle.std.proofs.Common.{◌≡◌, ◌-◌, ◌<◌, length, get_or, sym, ap, ◌∙◌, subst, arith}
use Rattle.rules.specs.Runs.{at}
use Rattle.tables.specs.Lines.{Lines}
use Rattle.graph.specs.Sets.{has}
use Rattle.walk.specs.Outlines.{outlined}
use Rattle.judge.proofs.judge.keeps.Goals as goal

-- `at` is opened so that a run's positions are seen not to depend on the proof that its cycle lasts
pub returns-then-fill : goal.returns-then-fill
unfolding at
returns-then-fill c =
    let filled = c.if-fill.ensures in
    let t = outlined c.args.outline.now in
    let some : 0 < length t = subst (λ (z : Lines). 0 < length z) c.lines.ensures.are c.lines.ensures.some in
    let row = filled.2.each 0 (omega (arith, c.requires.some)) (length t - 1) in
    let e : c.has.result ≡ has (get_or c.fill.new.rows 0 0) (length t - 1) =
    c.has.ensures ∙ ap (λ (z : Lines). has (get_or c.fill.new.rows 0 0) (length z - 1)) c.lines.ensures.are in
    (λ h. (filled.0, (row.0 (sym e ∙ h)).1), λ k. e ∙ row.1 (omega arith, k.1))
