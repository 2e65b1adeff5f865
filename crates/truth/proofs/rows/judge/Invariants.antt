use Rattle.truth.specs.Passes.{AllJudged}
use Rattle.truth.proofs.rows.judge.Given as goal

abbrev pub invariant-loop-k : goal.invariant-loop-k
invariant-loop-k l = AllJudged l.lines l.run.lead.now l.run.cycle.now l.k l.rows
