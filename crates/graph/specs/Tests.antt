-- Tests of listed nodes over the computed branches.
use Rattle.std.specs.Prelude.{ℕ, ◌^◌, Bool, true, false, not, ◌&&◌, ◌||◌, List, [], ◌∷◌, length, ◌==◌, nat_le, nat_lt}
use Rattle.tables.specs.Lines.{Lines}
use Rattle.graph.specs.declared.node.Node.{Node}
use Rattle.graph.specs.Sets.{every, any}
use Rattle.graph.specs.Numbers.{choice_of}
use Rattle.graph.specs.Unfolding.{Choice}
use Rattle.graph.specs.Moves.{by_mask, Move, moves}
use Rattle.graph.specs.Pass.{branch, successor, initial, is_omega}
use Rattle.graph.specs.Graphs.{Ranked, entry, node_of}

unfoldable pub same_node : Node → Node → Bool
same_node x y = x.label == y.label && (x.marks == y.marks && x.history == y.history)

-- a branch leads to a listed node whose rank sinks
unfoldable pub follows : Lines → List Ranked → Ranked → Choice → ℕ → Bool
follows t l r c b =
    same_node (entry l b).node (successor t r.node c)
    && (nat_le (entry l b).rank r.rank && (not (is_omega t r.node) || nat_lt (entry l b).rank r.rank))

-- a ranked graph
unfoldable pub certified : Lines → List Ranked → Bool
certified t l =
    (nat_lt 0 (length l) && same_node (entry l 0).node (initial t))
    && every (length l) (λ a. every (2 ^ choice_of t (length t)) (λ m.
    not (branch t (entry l a).node (by_mask t m)) || any (length l) (follows t l (entry l a) (by_mask t m))))

unfoldable pub once : List Ranked → Bool
once l = every (length l) (λ a. every a (λ b. not (same_node (entry l b).node (entry l a).node)))

-- a ranked graph in which no node stands twice
unfoldable pub accepted : Lines → List Ranked → Bool
accepted t l = certified t l && once l

-- a branch leads to n
unfoldable pub led : Node → List Move → Bool
led n [] = false
led n (v ∷ vs) = same_node v.to n || led n vs

-- every branch leads to a listed node
unfoldable pub stays_in : List Node → List Move → Bool
stays_in l [] = true
stays_in l (v ∷ vs) = any (length l) (λ b. same_node (node_of l b) v.to) && stays_in l vs

-- the initial node, and then what an earlier node leads to; all branches stay in the list, and no node stands twice
unfoldable pub lists : Lines → List Node → Bool
lists t l =
    (nat_lt 0 (length l) && same_node (node_of l 0) (initial t))
    && every (length l) (λ a.
    (a == 0 || any a (λ b. led (node_of l a) (moves t (node_of l b))))
    && (stays_in l (moves t (node_of l a)) && every a (λ b. not (same_node (node_of l b) (node_of l a)))))
