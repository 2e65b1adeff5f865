-- The whole graph, computed from the definitions: for examples.
use Rattle.std.proofs.Common.{ℕ, zero, suc, Bool, true, false, cond, ◌||◌, ltb, List, [], ◌∷◌, ◌++◌, length}
use Rattle.tables.specs.Lines.{Lines}
use Rattle.graph.specs.declared.node.Node.{Node}
use Rattle.graph.specs.Pass.{initial, is_omega}
use Rattle.graph.specs.Moves.{Move, moves}
use Rattle.graph.specs.Graphs.{node_of}
use Rattle.graph.specs.Tests.{same_node}

unfoldable pub listed : Node → List Node → Bool
listed n [] = false
listed n (x ∷ l) = same_node n x || listed n l

-- l, and what the branches lead to that it has not yet
unfoldable pub joined : List Move → List Node → List Node
joined [] l = l
joined (v ∷ vs) l = let r = joined vs l in elim (listed v.to r) [ true ↦ r | false ↦ r ++ (v.to ∷ []) ]

-- the nodes from place k on are expanded, at most d of them
unfoldable pub expand : ℕ → Lines → ℕ → List Node → List Node
expand zero t k l = l
expand (suc d) t k l = elim (ltb k (length l)) [ true ↦ expand d t (suc k) (joined (moves t (node_of l k)) l) | false ↦ l ]

unfoldable pub graph : ℕ → Lines → List Node
graph d t = expand d t 0 (initial t ∷ [])

unfoldable pub omegas : Lines → List Node → ℕ
omegas t [] = 0
omegas t (n ∷ l) = let r = omegas t l in cond (is_omega t n) (suc r) r

-- a rank: how many ω-nodes the node at place a reaches, itself counted
unfoldable pub rank : ℕ → Lines → List Node → ℕ → ℕ
rank d t l a = omegas t (expand d t 0 (node_of l a ∷ []))
