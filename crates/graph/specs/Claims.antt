-- What is proved of the graph of a normal table.
use Rattle.std.specs.Prelude.{◌≡◌, ℕ, ◌<◌, ◌≤◌, true, ◌⊎◌, ◌↔◌, List, length}
use Rattle.rules.specs.Runs.{Holds, Run, at, Keeps}
use Rattle.tables.specs.Lines.{Lines, Lawful, formula, root}
use Rattle.tables.specs.Questions.{Asked, Meets, Asks as Tabled}
use Rattle.graph.specs.declared.node.Node.{Node}
use Rattle.graph.specs.Sets.{has}
use Rattle.graph.specs.Unfolding.{Choice, Branch, Asks, Omega, Initial, Successor}
use Rattle.graph.specs.Graphs.{Step, Way, node_of, Distinct, Graph, Loops, Ranked, Once, Ranks, ranked}
use Rattle.graph.specs.Pass.{branch, position, is_omega, initial, successor}
use Rattle.graph.specs.Moves.{moves, Among}
use Rattle.graph.specs.Tests.{accepted, lists}
use Rattle.graph.specs.Truths.{span, row, meets}

-- the pass computes the one branch, position and successor that a choice has, the initial node and the ω-nodes
abbrev pub PassExact : Type 0
PassExact =
    (t : Lines) → Lawful t
    → ((n : Node) (c : Choice) → ((branch t n c ≡ true) ↔ Branch t n c)
    × ((p : ℕ) → Asks t n c true p ↔ (p ≡ position t n c))
    × ((m : Node) → Successor t n c m ↔ (m ≡ successor t n c)))
    × ((n : Node) → Initial t n ↔ (n ≡ initial t))
    × ((n : Node) → (is_omega t n ≡ true) ↔ Omega t n)

-- the computed branches are just the steps
abbrev pub MovesExact : Type 0
MovesExact = (t : Lines) → Lawful t → (n : Node) (p : ℕ) (m : Node) → Among (record { signals = p; to = m }) (moves t n) ↔ Step t n p m

-- a ranked graph refutes: no run makes the last line true at its first position
abbrev pub RanksRefute : Type 0
RanksRefute = (t : Lines) → Lawful t → (l : List Ranked) → Ranks t l → (r : Run) → Keeps (root t) r → ⊥

-- an ω-loop gives a run: its positions have on just the signals that the branches need on
abbrev pub LoopRuns : Type 0
LoopRuns =
    (t : Lines) → Lawful t → (i n : Node) → Initial t i → (r : Run) → Way t i r.lead n → Omega t n → Way t n r.cycle n
    → Keeps (root t) r

-- there is a run just where the graph has an ω-loop
abbrev pub GraphDecides : Type 0
GraphDecides = (t : Lines) → Lawful t → (l : List Node) → Graph t l → ((r : Run) × Keeps (root t) r) ↔ Loops t

-- a run meets a question exactly when some ω-node of the graph of its table reaches itself
abbrev pub QuestionDecides : Type 0
QuestionDecides =
    (a : Asked) (t : Lines) → Tabled a t → Lawful t → (l : List Node) → Graph t l → ((r : Run) × Meets a (at r) 0) ↔ Loops t

-- a listed graph has an ω-loop, or ranks that refute; a node that is listed once is ranked once
abbrev pub LoopsOrRanks : Type 0
LoopsOrRanks =
    (t : Lines) → Lawful t → (l : List Node) → 0 < length l → Initial t (node_of l 0) → Graph t l
    → Loops t ⊎ ((f : ℕ → ℕ) × Ranks t (ranked f l) × (Distinct l → Once (ranked f l)))

-- the node count is the graph's own
abbrev pub CountStands : Type 0
CountStands = (t : Lines) → Lawful t → (l m : List Node) → Graph t l → Distinct l → Graph t m → Distinct m → length l ≡ length m

-- where there is an ω-loop there is one with a lead-in shorter than the node count, and a cycle no longer
abbrev pub LoopShort : Type 0
LoopShort =
    (t : Lines) → Lawful t → (l : List Node) → 0 < length l → Initial t (node_of l 0) → Graph t l → Loops t
    → (r : Run) × ((n : Node) × Way t (node_of l 0) r.lead n × Omega t n × Way t n r.cycle n × (length r.lead < length l) × (length r.cycle ≤ length l))

-- a list that passes the test is the graph, and no node stands twice in it
abbrev pub ListsSound : Type 0
ListsSound = (t : Lines) → Lawful t → (l : List Node) → lists t l ≡ true → (0 < length l) × Initial t (node_of l 0) × Graph t l × Distinct l

-- the test over the branches accepts just the ranked graphs in which no node stands twice
abbrev pub AcceptedExact : Type 0
AcceptedExact = (t : Lines) → Lawful t → (l : List Ranked) → (accepted t l ≡ true) ↔ (Ranks t l × Once l)

-- truth on a run, computed, is truth
abbrev pub TruthsExact : Type 0
TruthsExact =
    (t : Lines) → Lawful t → (r : Run)
    → ((k : ℕ) → k < length t → (i : ℕ) → i < span r → (has (row r t k) i ≡ true) ↔ Holds (formula t k) (at r) i)
    × ((meets r t ≡ true) ↔ Keeps (root t) r)
