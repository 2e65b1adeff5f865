-- Ways through the graph by their choices, and the graph over the computed definitions.
use Rattle.std.proofs.Common.{◌≡◌, ℕ, ◌<◌, ◌≤◌, Bool, true, ◌&&◌, List, [], ◌∷◌, length}
use Rattle.tables.specs.Lines.{Lines}
use Rattle.graph.specs.declared.node.Node.{Node}
use Rattle.graph.specs.Unfolding.{Choice}
use Rattle.graph.specs.Pass.{position, branch, is_omega, initial, successor}
use Rattle.graph.specs.Graphs.{Ranked, entry, node_of}

-- the successor is listed, with a rank not above, and below it if the node is an ω-node
pub record Follows (t : Lines) (l : List Ranked) (r : Ranked) (c : Choice) : Type 0 where
  pub place : ℕ
  pub within : place < length l
  pub same : (entry l place).node ≡ successor t r.node c
  pub sinks : (entry l place).rank ≤ r.rank
  pub falls : is_omega t r.node ≡ true → (entry l place).rank < r.rank

pub record Certificate (t : Lines) (l : List Ranked) : Type 0 where
  pub some : 0 < length l
  pub first : (entry l 0).node ≡ initial t
  pub closed : (a : ℕ) → a < length l → (c : Choice) → branch t (entry l a).node c ≡ true → Follows t l (entry l a) c

-- a way through the graph, by its choices: where it ends, whether each choice is a branch, and the positions asked for
unfoldable pub reach : Lines → Node → List Choice → Node
reach t n [] = n
reach t n (c ∷ cs) = reach t (successor t n c) cs

unfoldable pub branches : Lines → Node → List Choice → Bool
branches t n [] = true
branches t n (c ∷ cs) = branch t n c && branches t (successor t n c) cs

unfoldable pub positions : Lines → Node → List Choice → List ℕ
positions t n [] = []
positions t n (c ∷ cs) = position t n c ∷ positions t (successor t n c) cs

-- from the initial node to an ω-node, and from it by one step or more back to it
pub record OmegaLoop (t : Lines) (to round : List Choice) : Type 0 where
  pub leads : branches t (initial t) to ≡ true
  pub at_omega : is_omega t (reach t (initial t) to) ≡ true
  pub turns : branches t (reach t (initial t) to) round ≡ true
  pub back : reach t (reach t (initial t) to) round ≡ reach t (initial t) to
  pub steps : 0 < length round

-- n leads to m by branches
pub record Leads (t : Lines) (n m : Node) : Type 0 where
  pub by : List Choice
  pub lawful : branches t n by ≡ true
  pub arrives : reach t n by ≡ m

-- the list has what the initial node reaches
pub record Graph (t : Lines) (l : List Node) : Type 0 where
  pub some : 0 < length l
  pub first : node_of l 0 ≡ initial t
  pub reached : (a : ℕ) → a < length l → Leads t (initial t) (node_of l a)
  pub closed : (a : ℕ) → a < length l → (c : Choice) → branch t (node_of l a) c ≡ true
      → (b : ℕ) × (b < length l) × (node_of l b ≡ successor t (node_of l a) c)
