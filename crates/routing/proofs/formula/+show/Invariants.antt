use Rattle.routing.proofs.formula.+show.Given as goal

abbrev pub decreases-show : goal.decreases-show
decreases-show g l = l.at
