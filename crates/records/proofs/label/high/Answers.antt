use Rattle.std.proofs.Common.{refl}
use Rattle.records.specs.Claims.{high}
use Rattle.records.proofs.label.high.Goals as goal

pub returns : goal.returns
unfolding high
returns c = refl
