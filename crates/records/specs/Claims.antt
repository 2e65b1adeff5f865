-- Claims, and the record of each: its one layout in bytes.
use Rattle.std.specs.Prelude.{◌≡◌, ℕ, zero, suc, ◌+◌, ◌*◌, ◌/◌, ◌%◌, ◌^◌, ◌<◌, ◌≤◌, cond, List, [], ◌∷◌, ◌++◌, length, ◌==◌}
use Rattle.graph.specs.declared.node.Ranked.{Ranked}
use Rattle.records.specs.declared.claim.Claim as coded
use Rattle.records.specs.declared.claim.Claim.TheVariants as form
use Rattle.records.specs.declared.limits.Limits.{Limits}

-- a run by the masks of its lead-in and its cycle, or a graph by its nodes with their ranks, in their order
pub data Claim : Type 0 where
  run : List ℕ → List ℕ → Claim
  graph : List Ranked → Claim

-- the claim that a value of the program stands for
abbrev pub claim_of : coded.Claim → Claim
claim_of (form.Run lead cycle) = Claim.run lead.now cycle.now
claim_of (form.Graph nodes) = Claim.graph nodes.now

-- n in k bytes, the high byte first
unfoldable pub big : ℕ → ℕ → List ℕ
big zero n = []
big (suc k) n = n / 256 ^ k ∷ big k (n % 256 ^ k)

-- items one after another
unfoldable pub each : {A : Type 0} → (A → List ℕ) → List A → List ℕ
each e [] = []
each e (x ∷ xs) = e x ++ each e xs

-- a count in two bytes, and then the items
abbrev pub listed : {A : Type 0} → (A → List ℕ) → List A → List ℕ
listed e xs = big 2 (length xs) ++ each e xs

-- a field of k bytes, absent where it is zero, and its bit in the map
abbrev pub field : ℕ → ℕ → List ℕ
field k v = cond (v == 0) [] (big k v)

abbrev pub flag : ℕ → ℕ
flag v = cond (v == 0) 0 1

-- lines 0 to 63 of a label, and the lines from 64 on
unfoldable pub low : ℕ → ℕ
low label = label % 2 ^ 64

unfoldable pub high : ℕ → ℕ
high label = label / 2 ^ 64

-- bit 0 for the low lines, bit 1 for the high ones, bit 2 for marks, bit 3 for history, bit 4 for rank
abbrev pub map_of : ℕ → ℕ → ℕ → ℕ → ℕ → ℕ
map_of a b c d e = flag a + 2 * flag b + 4 * flag c + 8 * flag d + 16 * flag e

-- a node: its map, and its fields that are not zero
abbrev pub node_bytes : Ranked → List ℕ
node_bytes n =
    map_of (low n.node.label) (high n.node.label) n.node.marks n.node.history n.rank
    ∷ (field 8 (low n.node.label) ++ (field 8 (high n.node.label) ++ (field 2 n.node.marks ++ (field 2 n.node.history ++ field 2 n.rank))))

-- the record of a claim: bit 0 of its map for a lead-in, bit 1 for a cycle, bit 2 for a graph
abbrev pub laid : Claim → List ℕ
laid (Claim.run [] cycle) = 2 ∷ listed (big 2) cycle
laid (Claim.run (m ∷ lead) cycle) = 3 ∷ (listed (big 2) (m ∷ lead) ++ listed (big 2) cycle)
laid (Claim.graph nodes) = 4 ∷ listed node_bytes nodes

-- how many positions or nodes a record can have
abbrev pub Counts : Claim → Type 0
Counts (Claim.run lead cycle) = (length lead ≤ 1023) × (1 ≤ length cycle) × (length cycle ≤ 1024)
Counts (Claim.graph nodes) = (1 ≤ length nodes) × (length nodes ≤ 1024)

abbrev pub Every : {A : Type 0} → (A → Type 0) → List A → Type 0
Every P [] = Unit {0}
Every P (x ∷ xs) = P x × Every P xs

-- a mask of 16 bits without a bit from n on
abbrev pub Bits : ℕ → ℕ → Type 0
Bits n m = (m < 2 ^ 16) × (m < 2 ^ n)

-- every bit of a node stands for a line or an eventuality
pub record NodeWithin (l : Limits) (n : Ranked) : Type 0 where
  pub label : n.node.label < 2 ^ l.lines
  pub wide : n.node.label < 2 ^ 128
  pub marks : Bits l.eventualities n.node.marks
  pub history : Bits l.eventualities n.node.history
  pub rank : n.rank < 2 ^ 16

-- every bit stands for a signal, a line or an eventuality
abbrev pub Within : Limits → Claim → Type 0
Within l (Claim.run lead cycle) = Every (Bits l.signals) lead × Every (Bits l.signals) cycle
Within l (Claim.graph nodes) = Every (NodeWithin l) nodes

-- the bytes are the record of the claim, and lawful where there are so many signals, lines and eventualities
pub record Lays (l : Limits) (c : Claim) (bytes : List ℕ) : Type 0 where
  pub counts : Counts c
  pub within : Within l c
  pub bytes_are : bytes ≡ laid c
