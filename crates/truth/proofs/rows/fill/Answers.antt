use Rattle.std.proofs.Common.{◌+◌, ◌<◌, ◌≤◌, length, subst, arith, rules}
use Rattle.truth.proofs.Tables.{table}
use Rattle.tables.specs.Lines.{Lines}
use Rattle.truth.specs.Passes.{AllJudged}
use Rattle.walk.specs.Outlines.{outlined}
use Rattle.truth.proofs.rows.fill.Goals as goal

pub returns : goal.returns
returns c =
    let lasts : 0 < length c.args.cycle.now = search rules in
    let room : length c.args.lead.now + length c.args.cycle.now ≤ length c.args.rows.now = omega arith in
    let judged : AllJudged (outlined c.args.outline.now) c.args.lead.now c.args.cycle.now (length (outlined c.args.outline.now)) c.judge.new.rows =
    subst (λ (t : Lines). AllJudged t c.args.lead.now c.args.cycle.now (length t) c.judge.new.rows) c.lines.ensures.are c.judge.ensures in (
      lasts,
      room,
      table (outlined c.args.outline.now) c.args.lead.now c.args.cycle.now lasts c.args.rows.now c.judge.new.rows _ (omega arith) (omega arith) (search rules) judged,
    )
