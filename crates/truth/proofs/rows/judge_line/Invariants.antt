use Rattle.std.proofs.Common.{◌<◌, length}
use Rattle.truth.specs.Rows.{run_of}
use Rattle.truth.proofs.Sweeps.{Swept}
use Rattle.truth.proofs.rows.judge_line.Given as goal

abbrev pub invariant-loop-i : goal.invariant-loop-i
invariant-loop-i l = (lasts : 0 < length l.run.cycle.now) → Swept l.lines (run_of l.run.lead.now l.run.cycle.now lasts) l.k l.rows l.after l.i
