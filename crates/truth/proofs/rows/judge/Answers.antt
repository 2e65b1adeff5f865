use Rattle.std.proofs.Common.{◌≡◌, ℕ, length, subst, arith, rules}
use Rattle.truth.specs.Passes.{AllJudged}
use Rattle.truth.proofs.Tables.{all_none}
use Rattle.truth.proofs.rows.judge.Goals as goal

pub loop-k-init : goal.loop-k-init
loop-k-init c = all_none c.args.lines.now c.args.run.now.lead.now c.args.run.now.cycle.now c.fill.new.self (length c.args.rows.now) (search rules) c.requires.fits

pub returns : goal.returns
returns c =
    let all : c.loop-k.k ≡ length c.args.lines.now = omega arith in
    subst (λ (k : ℕ). AllJudged c.args.lines.now c.args.run.now.lead.now c.args.run.now.cycle.now k c.loop-k.rows) all c.loop-k.invariant
