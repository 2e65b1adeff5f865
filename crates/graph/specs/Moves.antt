-- The branches of a node, computed: every choice is tried.
use Rattle.std.specs.Prelude.{◌≡◌, ℕ, zero, suc, ◌^◌, true, false, ◌⊎◌, List, [], ◌∷◌, length}
use Rattle.tables.specs.Lines.{Lines}
use Rattle.graph.specs.declared.node.Node.{Node}
use Rattle.graph.specs.Sets.{has}
use Rattle.graph.specs.Numbers.{choice_of}
use Rattle.graph.specs.Unfolding.{Choice}
use Rattle.graph.specs.Pass.{branch, position, successor}

-- a choice by a number, whose bits name left or now for the choice lines from the lowest
unfoldable pub by_mask : Lines → ℕ → Choice
by_mask t m k = has m (choice_of t k)

-- the signals that a branch needs on, and where it leads
pub record Move : Type 0 where
  pub signals : ℕ
  pub to : Node

unfoldable pub moves_below : Lines → Node → ℕ → List Move
moves_below t n zero = []
moves_below t n (suc m) =
    let r = moves_below t n m in
    let c = by_mask t m in
    elim (branch t n c) [ true ↦ record { signals = position t n c; to = successor t n c } ∷ r | false ↦ r ]

unfoldable pub moves : Lines → Node → List Move
moves t n = moves_below t n (2 ^ choice_of t (length t))

abbrev pub Among : {A : Type 0} → A → List A → Type 0
Among x [] = ⊥
Among x (y ∷ ys) = (x ≡ y) ⊎ Among x ys
