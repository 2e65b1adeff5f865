use Rattle.std.proofs.Common.{ℕ, ◌&&◌, ap, ◌∙◌}
use Rattle.graph.specs.Sets.{has}
use Rattle.walk.specs.Outlines.{outlined}
use Rattle.walk.proofs.Puts.{put_plain, put_full}
use Rattle.walk.proofs.outline.Outline.put.Goals as goal

pub returns-then-common-eq0 : goal.returns-then-common-eq0
returns-then-common-eq0 c =
    let s = c.args.self.now in
    put_plain (outlined s) c.args.lines s.len s.stays s.ands c.common-then-common-eq0.result c.common.result
    s.whole s.staying s.joining c.common.ensures c.if-common-eq0.true c.common-then-common-eq0.ensures

pub returns-else-common-eq0 : goal.returns-else-common-eq0
returns-else-common-eq0 c =
    let s = c.args.self.now in
    put_full (outlined s) c.args.lines s.len s.stays c.common-else-common-eq0.result s.whole s.staying
    (λ k. c.common-else-common-eq0.ensures k ∙ ap (λ (x : ℕ). has x k && has s.stays k) c.spread_all.ensures)
