use Rattle.std.proofs.Common.{◌≡◌, ℕ, ◌<◌, true, length, take, rules}
use Rattle.std.specs.List.{count_by}
use Rattle.tables.specs.Lines.{line, is_eventuality}
use Rattle.tables.proofs.Counts.{eventuality_counts}
use Rattle.tables.proofs.table.Table.eventuality.Goals as goal

pub returns : goal.returns
returns c =
    let t = c.lines-lines.result.now in
    let k : ℕ = c.args.number in
    let within : k < length t = search rules in
    let is : is_eventuality (line t k) ≡ true = search rules in
    let counted : c.count.result ≡ count_by is_eventuality (take k t) = search rules in
    rw (← c.lines-lines.ensures.are) (eventuality_counts t k c.count.result within is counted)
