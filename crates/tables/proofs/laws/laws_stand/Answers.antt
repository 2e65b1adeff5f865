use Rattle.tables.proofs.Stated.{laws_hold}
use Rattle.tables.proofs.laws.laws_stand.Goals as goal

pub returns : goal.returns
returns c = laws_hold
