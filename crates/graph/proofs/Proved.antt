-- The claims, put together.
use Rattle.std.proofs.Common.{◌≡◌, ℕ, ◌<◌, ◌≤◌, true, not, ◌↔◌, List, length, sym, refl, ap, ◌∙◌, subst, inl, inr, arith}
use native.Mathlib.Decide.{dec_lt}
use Rattle.rules.specs.Runs.{Run}
use Rattle.tables.specs.Lines.{Lines}
use Rattle.graph.specs.declared.node.Node.{Node}
use Rattle.graph.specs.Unfolding.{Choice, Initial, Asks, Successor}
use Rattle.graph.specs.Pass.{initial, successor}
use Rattle.graph.specs.Graphs.{Way, node_of, Listed, Distinct, Graph, Ranked, entry, Once, ranked}
use Rattle.graph.specs.Tests.{same_node, certified, once, accepted}
use Rattle.graph.specs.Claims.{PassExact, MovesExact, RanksRefute, LoopRuns, GraphDecides, QuestionDecides, LoopsOrRanks, CountStands, LoopShort, ListsSound, AcceptedExact, TruthsExact}
use Rattle.graph.proofs.Ways.{reach, positions, OmegaLoop}
use Rattle.graph.proofs.Ordered.{lawful_ordered}
use Rattle.graph.proofs.Laws.{branch_is, position_asks, asks_position, successor_is, one_successor, initial_is, one_initial, omega_is}
use Rattle.graph.proofs.Bridge.{ranks_refute, loop_run, decides, loops_or_ranks, loops_chosen, chosen_way, graph_chosen, ranks_chosen, chosen_ranks}
use Rattle.graph.proofs.Moving as moving
use Rattle.graph.proofs.Certified.{certified_exact, same_node_true, same_node_refl}
use Rattle.graph.proofs.Masks.{every_at, every_from}
use Rattle.graph.specs.Sets.{every}
use Rattle.std.proofs.lemmas.Bool.{cases_Bool, cases_order, both_ways, not-true, not_from_false, and_parts, and_from}
use Rattle.graph.proofs.Decides.{loop_short, length_ranked, ranked_node}
use Rattle.graph.proofs.Lassos.{length_positions}
use Rattle.graph.proofs.Sizes.{pigeons}
use Rattle.graph.proofs.Checks.{check_sound}

pub pass_stands : PassExact
pass_stands t h =
    let o = lawful_ordered t h in (
      λ n c. (
        branch_is t o n c,
        λ p. (asks_position t o n c p, λ e. subst (Asks t n c true) (sym e) (position_asks t o n c)),
        λ m. (λ s. one_successor t o n c m (successor t n c) s (successor_is t o n c), λ e. subst (Successor t n c) (sym e) (successor_is t o n c)),
      ),
      λ n. (λ s. one_initial t n (initial t) s (initial_is t o), λ e. subst (Initial t) (sym e) (initial_is t o)),
      omega_is t,
    )

pub moves_stand : MovesExact
moves_stand t h = moving.moves_exact t (lawful_ordered t h)

pub ranks_stand : RanksRefute
ranks_stand t h = ranks_refute t (lawful_ordered t h)

pub loop_stands : LoopRuns
loop_stands t h = loop_run t (lawful_ordered t h)

pub graph_stands : GraphDecides
graph_stands t h = decides t (lawful_ordered t h)

pub question_stands : QuestionDecides
question_stands a t q h l g =
    let d = graph_stands t h l g in (
      λ k. d.0 (k.0, (q.meets k.0 0).1 k.1),
      λ z. let k = d.1 z in (k.0, (q.meets k.0 0).0 k.1),
    )

pub either_stands : LoopsOrRanks
either_stands t h l s z g =
    elim (loops_or_ranks t (lawful_ordered t h) l s z g) [
      | inl x ↦ inl x
      | inr x ↦ inr (
        x.0,
        x.1,
        λ d a b p q e.
            let n : length (ranked x.0 l) ≡ length l = length_ranked x.0 l in
            d a b (omega arith) (omega arith) (sym (ranked_node x.0 l a) ∙ e ∙ ranked_node x.0 l b),
      )
    ]

-- the place in m of the node at place a of l
module _ (t : Lines) (l m : List Node) (g : Graph t l) (d : Distinct l) (h : Graph t m) where
  there : (a : ℕ) → a < length l → Listed m (node_of l a)
  there a b = (h (node_of l a)).1 ((g (node_of l a)).0 (a, b, refl))

  place_by : (a : ℕ) → Dec (a < length l) → ℕ
  place_by a (yes p) = (there a p).0
  place_by a (no n) = 0

  place_is : (a : ℕ) → a < length l → (p : Dec (a < length l)) → (place_by a p < length m) × (node_of m (place_by a p) ≡ node_of l a)
  unfolding place_by
  place_is a b (yes p) = ((there a p).1, (there a p).2)
  place_is a b (no n) = absurd (n b)

  le : length l ≤ length m
  le =
      let f : ℕ → ℕ = λ a. place_by a (dec_lt a (length l)) in
      pigeons (length m) (length l) f (λ a p. (place_is a p (dec_lt a (length l))).0)
      (λ a b p q e. d a b p q (sym (place_is a p (dec_lt a (length l))).1 ∙ ap (node_of m) e ∙ (place_is b q (dec_lt b (length l))).1))

pub count_stands : CountStands
count_stands t o l m g d h e = omega (arith, le t l m g d h, le t m l h e g)

pub short_stands : LoopShort
short_stands t h l s z g y =
    let o = lawful_ordered t h in
    let c = loops_chosen t o y in
    let w = loop_short t l (graph_chosen t o l s z g) c in
    let to : List Choice = w.0 in
    let round : List Choice = w.1.0 in
    let x : OmegaLoop t to round = w.1.1.0 in
    let n : Node = reach t (initial t) to in
    let i : initial t ≡ node_of l 0 = one_initial t (initial t) (node_of l 0) (initial_is t o) z in
    let r : Run = record { lead = positions t (initial t) to; cycle = positions t n round; lasts = rw length_positions x.steps } in (
      r,
      (
        n,
        subst (λ (y : Node). Way t y r.lead n) i (chosen_way t o to (initial t) x.leads),
        (omega_is t n).0 x.at_omega,
        subst (λ (y : Node). Way t n r.cycle y) x.back (chosen_way t o round n x.turns),
        rw length_positions w.1.1.1,
        rw length_positions w.1.1.2,
      ),
    )

pub lists_stand : ListsSound
lists_stand t h l z =
    let o = lawful_ordered t h in
    (moving.some t o l z, moving.starts t o l z, moving.is_graph t o l z, moving.is_distinct t o l z)

-- no node twice, tested
once_apart : (l : List Ranked) → once l ≡ true → (a b : ℕ) → a < b → b < length l → (entry l a).node ≡ (entry l b).node → ⊥
unfolding once
once_apart l z a b g h e =
    let q = every_at (length l) (λ a. every a (λ b. not (same_node (entry l b).node (entry l a).node))) z b h in
    both_ways (same_node (entry l a).node (entry l b).node)
    (not-true (same_node (entry l a).node (entry l b).node) (every_at b (λ x. not (same_node (entry l x).node (entry l b).node)) q a g))
    (same_node_refl (entry l a).node (entry l b).node e)

once_from : (l : List Ranked) → Once l → once l ≡ true
unfolding once
once_from l z =
    every_from (length l) (λ a. every a (λ b. not (same_node (entry l b).node (entry l a).node))) (λ a h.
    every_from a (λ b. not (same_node (entry l b).node (entry l a).node)) (λ b g.
    elim (cases_Bool (same_node (entry l b).node (entry l a).node)) [
      | inl e ↦ absurd (omega (arith, z b a (omega arith) h (same_node_true (entry l b).node (entry l a).node e)))
      | inr e ↦ not_from_false (same_node (entry l b).node (entry l a).node) e
    ]))

once_is : (l : List Ranked) → (once l ≡ true) ↔ Once l
once_is l = (
  λ z a b p q e. elim (cases_order a b) [ inl r ↦ r | inr (inl g) ↦ absurd (once_apart l z a b g q e) | inr (inr g) ↦ absurd (once_apart l z b a g p (sym e)) ],
  once_from l,
)

pub accepted_stands : AcceptedExact
unfolding accepted
accepted_stands t h l =
    let o = lawful_ordered t h in (
      λ e. let p = and_parts (certified t l) (once l) e in (chosen_ranks t o l ((certified_exact t l).0 p.0), (once_is l).0 p.1),
      λ r. and_from (certified t l) (once l) ((certified_exact t l).1 (ranks_chosen t o l r.0)) ((once_is l).1 r.1),
    )

pub truths_stand : TruthsExact
truths_stand t h = check_sound t (lawful_ordered t h)
