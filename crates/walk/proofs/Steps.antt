-- The branches of a walk are the steps of the graph.
use Rattle.std.proofs.Common.{◌≡◌, ℕ, true, List}
use Rattle.tables.specs.Lines.{Lines}
use Rattle.graph.specs.declared.node.Node.{Node}
use Rattle.graph.specs.Graphs.{Step}
use Rattle.graph.specs.Moves.{Among}
use Rattle.graph.specs.Unfolding.{Needs}
use Rattle.graph.proofs.Ordered.{Ordered}
use Rattle.graph.proofs.Laws.{one_set, one_successor}
use Rattle.walk.specs.declared.found.Branch.{Branch}
use Rattle.walk.specs.Exact.{Exact}

pub branch_step : (t : Lines) (n : Node) (l : List Branch) → Exact t n l → (b : Branch) → Among b l → Step t n b.on b.successor
branch_step t n l x b h =
    let r = x.only b h in
    record { choice = r.0; branch = r.1.lawful; asks = r.1.on; leads = r.1.leads }

pub step_branch : (t : Lines) → Ordered t → (n : Node) (l : List Branch) → Exact t n l → (p : ℕ) (m : Node) → Step t n p m
    → (b : Branch) × Among b l × (b.on ≡ p) × (b.successor ≡ m)
step_branch t o n l x p m s =
    let r = x.every s.choice s.branch in (
      r.0,
      r.1,
      one_set (Needs t n s.choice true) r.0.on p r.2.on s.asks,
      one_successor t o n s.choice r.0.successor m r.2.leads s.leads,
    )
