use Rattle.std.proofs.Common.{ap, ◌∙◌, sym, count_ones}
use Rattle.graph.specs.Numbers.{eventuality}
use Rattle.walk.specs.Outlines.{outlined}
use Rattle.walk.proofs.Counts.{ones_first}
use Rattle.walk.proofs.outline.Outline.eventualities.Goals as goal

pub returns : goal.returns
returns c =
    let s = c.args.self.now in
    let t = outlined s in
    ap count_ones s.events ∙ ones_first t s.len ∙ ap (eventuality t) (sym s.whole)
