use Rattle.std.proofs.Common.{arith, rules}
use Rattle.graph.proofs.Ordered.{ordered}
use Rattle.truth.specs.Rows.{run_of}
use Rattle.truth.proofs.Sweeps.{swept_none, swept_more}
use Rattle.truth.proofs.rows.judge_line.Goals as goal

pub loop-i-init : goal.loop-i-init
loop-i-init c lasts =
    swept_none c.args.lines.now (run_of c.args.run.now.lead.now c.args.run.now.cycle.now lasts) c.args.k (ordered c.args.lines.now (omega arith) c.requires.ordered) c.requires.one
    c.args.rows.now c.marked-after.result c.begins.result c.requires.fits (c.requires.judged lasts) (search rules) (search rules)

pub loop-i-preserved : goal.loop-i-preserved
loop-i-preserved c lasts =
    swept_more c.args.lines.now (run_of c.args.run.now.lead.now c.args.run.now.cycle.now lasts) c.args.k (ordered c.args.lines.now (omega arith) c.requires.ordered) c.requires.one
    c.loop-i.rows c.loop-i.after c.loop-i.i c.position.result c.marked-after-in-loop-i.result c.told-truth.result (search rules) (omega arith) (omega arith)
    (c.loop-i.invariant lasts) (c.position.ensures lasts) (search rules) (search rules)

pub returns : goal.returns
returns c lasts i l = (c.loop-i.invariant lasts).behind i (omega arith) l
