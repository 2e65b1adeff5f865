-- What the judge asks of each listed node.
use Rattle.std.specs.Prelude.{◌≡◌, ℕ, ◌<◌, ◌≤◌, Bool, true, List, length, map, Some, None, Option, ◌≢◌, slice_index_or}
use Rattle.tables.specs.Lines.{Lines}
use Rattle.graph.specs.declared.node.Node.{Node}
use Rattle.graph.specs.declared.node.Ranked.{Ranked as Listed}
use Rattle.graph.specs.Graphs.{Step, Ranked, Sinks}
use Rattle.graph.specs.Unfolding.{Initial}

-- a listed node and its rank, as the graph's definitions have them
abbrev pub ranked_of : Listed → Ranked
ranked_of n = record { node = n.node; rank = n.rank }

abbrev pub ranked_list : List Listed → List Ranked
ranked_list l = map ranked_of l

-- the node at the place a of the list, with its rank
abbrev pub listed : List Listed → ℕ → Listed
listed l a = slice_index_or l a (record { node = record { label = 0; marks = 0; history = 0 }; rank = 0 })

-- the node n stands at the place a of the list
abbrev pub Stands : List Listed → Node → ℕ → Type 0
Stands l n a = (a < length l) × ((listed l a).node ≡ n)

-- a place where the node stands, perhaps
abbrev pub Guessed : List Listed → Node → Option ℕ → Type 0
Guessed l n (Some a) = Stands l n a
Guessed l n None = Unit {0}

-- a place where the node stands, unless it stands nowhere
abbrev pub Place : List Listed → Node → Option ℕ → Type 0
Place l n (Some a) = Stands l n a
Place l n None = (a : ℕ) → Stands l n a → ⊥

-- m stands in the list with a rank not above r, and below it where the fall is to be strict
abbrev pub Falls : List Listed → ℕ → Bool → Node → Type 0
Falls l r strict m = (a : ℕ) × Stands l m a × ((listed l a).rank ≤ r) × (strict ≡ true → (listed l a).rank < r)

-- from the node every branch leads to a listed node whose rank sinks
abbrev pub Closed : Lines → List Listed → Listed → Type 0
Closed t l r = (p : ℕ) (m : Node) → Step t r.node p m → Sinks t (ranked_list l) (ranked_of r) m

-- the list begins with the initial node
abbrev pub Begins : Lines → List Listed → Type 0
Begins t l = (0 < length l) × Initial t (listed l 0).node

-- the node at the place a does not stand earlier
abbrev pub New : List Listed → ℕ → Type 0
New l a = (b : ℕ) → b < a → (listed l b).node ≢ (listed l a).node
