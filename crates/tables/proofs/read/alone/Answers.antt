use Rattle.std.proofs.Common.{length, ap, arith}
use Rattle.rules.specs.Rules.{formula_of}
use Rattle.tables.specs.Lines.{Lines}
use Rattle.tables.specs.Normal.{nnf}
use Rattle.tables.specs.Numbering.{place}
use Rattle.tables.proofs.Made.{length_drafted}
use Rattle.tables.proofs.Limited.{leads_tabled, leads_some}
use Rattle.tables.proofs.Asking.{alone_short, tabled_some}
use Rattle.tables.proofs.read.alone.Goals as goal

pub unwrap-requires : goal.unwrap-requires
unwrap-requires c =
    let F = nnf c.args.sign (formula_of c.args.rule.now.rule) in
    leads_some _ _ c.number_rule.ensures (omega (arith, ap (λ (t : Lines). length (place F t).table) c.new.ensures, alone_short c.args.rule.now c.args.sign))

pub table-requires-clause-some : goal.table-requires-clause-some
table-requires-clause-some c =
    let F = nnf c.args.sign (formula_of c.args.rule.now.rule) in
    let d = c.unwrap.result in
    omega (arith, length_drafted d.0, ap length (leads_tabled F c.new.result c.number_rule.result d c.new.ensures c.number_rule.ensures c.unwrap.ensures), tabled_some F)
