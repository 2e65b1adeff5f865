-- How the lines of a node unfold under a choice.
use Rattle.std.specs.Prelude.{◌≡◌, ℕ, ◌-◌, ◌<◌, Bool, true, false, cond, ◌⊎◌, ◌↔◌, length, ◌≢◌}
use Rattle.tables.specs.declared.line.Line.{Line}
use Rattle.tables.specs.Lines.{Lines, line, is_eventuality, total}
use Rattle.graph.specs.declared.node.Node.{Node}
use Rattle.graph.specs.Sets.{has}
use Rattle.graph.specs.Numbers.{eventuality}

-- left or right at each ∨ line, now or later at each ◇ line: left or now where it is true
abbrev pub Choice : Type 0
Choice = ℕ → Bool

-- a line of the table that stands in the node's label, itself or as a marked eventuality
abbrev pub Given : Lines → Node → ℕ → Type 0
Given t n k = (k < length t) × ((has n.label k ≡ true) ⊎ ((is_eventuality (line t k) ≡ true) × (has n.marks (eventuality t k) ≡ true)))

-- a line brings the line x under a choice: ∧ both sides, ∨ the chosen side, □G and, now, ◇G bring G
abbrev pub Brings : Line → Bool → ℕ → Type 0
Brings Line.True c x = ⊥
Brings Line.False c x = ⊥
Brings (Line.Literal s b) c x = ⊥
Brings (Line.And i j) c x = (x ≡ i) ⊎ (x ≡ j)
Brings (Line.Or i j) c x = x ≡ cond c i j
Brings (Line.Always i) c x = x ≡ i
Brings (Line.Eventually i) true x = x ≡ i
Brings (Line.Eventually i) false x = ⊥
Brings (Line.Next i) c x = ⊥

-- the lines that appear at a node under a choice
pub data Appears (t : Lines) (n : Node) (c : Choice) : ℕ → Type 0 where
  given : (k : ℕ) → Given t n k → Appears t n c k
  brought : (k x : ℕ) → Appears t n c k → Brings (line t k) (c k) x → Appears t n c x

-- line k puts the line x next: □G itself, ○G puts G
abbrev pub Puts : Line → ℕ → ℕ → Type 0
Puts Line.True k x = ⊥
Puts Line.False k x = ⊥
Puts (Line.Literal s b) k x = ⊥
Puts (Line.And i j) k x = ⊥
Puts (Line.Or i j) k x = ⊥
Puts (Line.Always i) k x = x ≡ k
Puts (Line.Eventually i) k x = ⊥
Puts (Line.Next i) k x = x ≡ i

-- the lines that are put next
abbrev pub Next : Lines → Node → Choice → ℕ → Type 0
Next t n c x = (k : ℕ) × Appears t n c k × Puts (line t k) k x

-- the eventualities that are marked next: those that appear and are put off
abbrev pub Later : Lines → Node → Choice → ℕ → Type 0
Later t n c e = (k : ℕ) × Appears t n c k × (is_eventuality (line t k) ≡ true) × (c k ≡ false) × (eventuality t k ≡ e)

-- x is a side of an ∧ line
abbrev pub Side : Line → ℕ → Type 0
Side Line.True x = ⊥
Side Line.False x = ⊥
Side (Line.Literal s b) x = ⊥
Side (Line.And i j) x = (x ≡ i) ⊎ (x ≡ j)
Side (Line.Or i j) x = ⊥
Side (Line.Always i) x = ⊥
Side (Line.Eventually i) x = ⊥
Side (Line.Next i) x = ⊥

-- putting ∧ puts both sides, again and again
pub data Put (t : Lines) (S : ℕ → Type 0) : ℕ → Type 0 where
  itself : (k : ℕ) → S k → Put t S k
  side : (k x : ℕ) → Put t S k → Side (line t k) x → Put t S x

-- every line but ∧ and T stays as it is put
abbrev pub stays : Line → Bool
stays Line.True = false
stays Line.False = true
stays (Line.Literal s b) = true
stays (Line.And i j) = false
stays (Line.Or i j) = true
stays (Line.Always i) = true
stays (Line.Eventually i) = true
stays (Line.Next i) = true

-- the label of just what stays when the lines of S are put
abbrev pub Label : Lines → (ℕ → Type 0) → ℕ → Type 0
Label t S m = (k : ℕ) → (has m k ≡ true) ↔ (Put t S k × (stays (line t k) ≡ true))

-- the literal of a signal appears: the signal is needed on, or off
abbrev pub Needs : Lines → Node → Choice → Bool → ℕ → Type 0
Needs t n c b s = (k : ℕ) × Appears t n c k × (line t k ≡ Line.Literal s b)

-- under a branch nothing contradicts: no F, and no signal together with its negation
pub record Branch (t : Lines) (n : Node) (c : Choice) : Type 0 where
  pub no_false : (k : ℕ) → Appears t n c k → line t k ≢ Line.False
  pub no_clash : (s : ℕ) → Needs t n c true s → Needs t n c false s → ⊥

-- the set of just the signals that are needed on, or off
abbrev pub Asks : Lines → Node → Choice → Bool → ℕ → Type 0
Asks t n c b p = (s : ℕ) → (has p s ≡ true) ↔ Needs t n c b s

-- an ω-node's history is V, all eventualities
abbrev pub Omega : Lines → Node → Type 0
Omega t n = (e : ℕ) → (has n.history e ≡ true) ↔ (e < total is_eventuality t)

-- the label of the root alone, no marks, and no history
pub record Initial (t : Lines) (n : Node) : Type 0 where
  pub label : Label t (λ k. k ≡ length t - 1) n.label
  pub marks : n.marks ≡ 0
  pub history : n.history ≡ 0

-- the history has what is not marked now, and what the old history had, but that of an ω-node is forgotten
pub record Successor (t : Lines) (n : Node) (c : Choice) (m : Node) : Type 0 where
  pub label : Label t (Next t n c) m.label
  pub marks : (e : ℕ) → (has m.marks e ≡ true) ↔ Later t n c e
  pub history : (e : ℕ) → (has m.history e ≡ true)
      ↔ ((e < total is_eventuality t) × ((has m.marks e ≢ true) ⊎ ((has n.history e ≡ true) × (Omega t n → ⊥))))
