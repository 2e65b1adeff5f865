-- The graph of a normal table.
use Rattle.std.specs.Prelude.{◌≡◌, ℕ, suc, ◌<◌, ◌≤◌, true, ◌↔◌, List, [], ◌∷◌, length, slice_index_or}
use Rattle.tables.specs.Lines.{Lines}
use Rattle.graph.specs.declared.node.Node.{Node}
use Rattle.graph.specs.Unfolding.{Choice, Branch, Asks, Successor, Initial, Omega}

-- a branch leads from n to m, and needs just the signals of p on
pub record Step (t : Lines) (n : Node) (p : ℕ) (m : Node) : Type 0 where
  pub choice : Choice
  pub branch : Branch t n choice
  pub asks : Asks t n choice true p
  pub leads : Successor t n choice m

-- a way of branches from n to m, with the signals that each needs on
abbrev pub Way : Lines → Node → List ℕ → Node → Type 0
Way t n [] m = n ≡ m
Way t n (p ∷ ps) m = (o : Node) × Step t n p o × Way t o ps m

-- by one step or more
abbrev pub Reaches : Lines → Node → Node → Type 0
Reaches t n m = (p : ℕ) × ((ps : List ℕ) × Way t n (p ∷ ps) m)

-- n is the initial node, or reached from it
abbrev pub Reached : Lines → Node → Type 0
Reached t n = (i : Node) × Initial t i × ((ps : List ℕ) × Way t i ps n)

abbrev pub node_of : List Node → ℕ → Node
node_of l a = slice_index_or l a (record { label = 0; marks = 0; history = 0 })

abbrev pub Listed : List Node → Node → Type 0
Listed l n = (a : ℕ) × (a < length l) × (node_of l a ≡ n)

-- no node twice
abbrev pub Distinct : List Node → Type 0
Distinct l = (a b : ℕ) → a < length l → b < length l → node_of l a ≡ node_of l b → a ≡ b

-- the list has just the nodes that the initial node reaches
abbrev pub Graph : Lines → List Node → Type 0
Graph t l = (n : Node) → Listed l n ↔ Reached t n

-- some ω-node of the graph reaches itself
abbrev pub Loops : Lines → Type 0
Loops t = (n : Node) × Reached t n × Omega t n × Reaches t n n

-- a listed node with its rank
pub record Ranked : Type 0 where
  pub node : Node
  pub rank : ℕ

abbrev pub entry : List Ranked → ℕ → Ranked
entry l a = slice_index_or l a (record { node = record { label = 0; marks = 0; history = 0 }; rank = 0 })

-- no node twice among them
abbrev pub Once : List Ranked → Type 0
Once l = (a b : ℕ) → a < length l → b < length l → (entry l a).node ≡ (entry l b).node → a ≡ b

-- m is listed with a rank not above that of r, and below it if r is an ω-node
pub record Sinks (t : Lines) (l : List Ranked) (r : Ranked) (m : Node) : Type 0 where
  pub place : ℕ
  pub within : place < length l
  pub same : (entry l place).node ≡ m
  pub sinks : (entry l place).rank ≤ r.rank
  pub falls : Omega t r.node → (entry l place).rank < r.rank

-- the first node is the initial one, and from each node every branch leads to a listed node whose rank sinks
pub record Ranks (t : Lines) (l : List Ranked) : Type 0 where
  pub some : 0 < length l
  pub first : Initial t (entry l 0).node
  pub closed : (a : ℕ) → a < length l → (p : ℕ) (m : Node) → Step t (entry l a).node p m → Sinks t l (entry l a) m

unfoldable pub ranked : (ℕ → ℕ) → List Node → List Ranked
ranked f [] = []
ranked f (n ∷ l) = record { node = n; rank = f 0 } ∷ ranked (λ k. f (suc k)) l
