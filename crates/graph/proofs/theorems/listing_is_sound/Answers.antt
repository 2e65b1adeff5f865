use Rattle.graph.proofs.Proved.{lists_stand}
use Rattle.graph.proofs.theorems.listing_is_sound.Goals as goal

pub returns : goal.returns
returns c = lists_stand
