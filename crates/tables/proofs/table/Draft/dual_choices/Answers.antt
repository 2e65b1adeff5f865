use Rattle.std.proofs.Common.{rules}
use Rattle.tables.proofs.Counts.{total_counts}
use Rattle.tables.proofs.table.Draft.dual_choices.Goals as goal

pub returns : goal.returns
returns c = rw total_counts (search rules)
