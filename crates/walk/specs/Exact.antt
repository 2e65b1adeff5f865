-- What the walk is for: it has the branches of a node, under every choice.
use Rattle.std.specs.Prelude.{true, false, List}
use Rattle.tables.specs.Lines.{Lines}
use Rattle.graph.specs.declared.node.Node.{Node}
use Rattle.graph.specs.Moves.{Among}
use Rattle.graph.specs.Unfolding.{Choice, Branch as Lawful, Asks, Successor}
use Rattle.walk.specs.declared.found.Branch.{Branch}

-- b is the branch that the choice c is: what it needs on, what it needs off, and where it leads
pub record BranchOf (t : Lines) (n : Node) (c : Choice) (b : Branch) : Type 0 where
  pub lawful : Lawful t n c
  pub on : Asks t n c true b.on
  pub off : Asks t n c false b.off
  pub leads : Successor t n c b.successor

-- every choice that is a branch is there, and nothing that is not a branch under some choice
pub record Exact (t : Lines) (n : Node) (l : List Branch) : Type 0 where
  pub every : (c : Choice) → Lawful t n c → (b : Branch) × Among b l × BranchOf t n c b
  pub only : (b : Branch) → Among b l → (c : Choice) × BranchOf t n c b
