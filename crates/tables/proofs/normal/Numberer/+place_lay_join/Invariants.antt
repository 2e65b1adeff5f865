use Rattle.std.proofs.Common.{◌+◌, ◌*◌, max}
use Rattle.tables.proofs.normal.Numberer.+place_lay_join.Given as goal

abbrev pub decreases-place : goal.decreases-place
decreases-place l = 3 * l.part.0 + 2

abbrev pub decreases-lay : goal.decreases-lay
decreases-lay l = 3 * l.part.0 + 1

abbrev pub decreases-join : goal.decreases-join
decreases-join l = 3 * max l.left.0 l.right.0 + 3
