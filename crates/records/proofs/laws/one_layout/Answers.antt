use Rattle.records.proofs.Whole.{one_layout}
use Rattle.records.proofs.laws.one_layout.Goals as goal

pub returns : goal.returns
returns c = one_layout
