use Rattle.std.proofs.Common.{◌-◌, length}
use Rattle.rules.proofs.rule.+formula.Given as goal

abbrev pub decreases-formula : goal.decreases-formula
decreases-formula l = length l.reader.now.text.now - l.reader.now.at
