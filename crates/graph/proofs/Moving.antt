-- The computed branches are the steps, and a list that passes the test is the graph.
use Rattle.std.proofs.Common.{◌≡◌, ℕ, zero, suc, ◌^◌, ◌<◌, Bool, true, false, not, ◌&&◌, ◌||◌, eqb, ltb, ◌⊎◌, ◌↔◌, List, [], ◌∷◌, length, sym, refl, ap, ◌∙◌, subst, inl, inr, arith}
use Rattle.std.proofs.lemmas.Bool.{cases_eq, cases_order, both_ways, or_cases, and_parts, not-true, eqb-true, ltb-true}
use Rattle.tables.specs.Lines.{Lines}
use Rattle.graph.specs.declared.node.Node.{Node}
use Rattle.graph.specs.Sets.{every, any}
use Rattle.graph.specs.Numbers.{choice_of}
use Rattle.graph.specs.Unfolding.{Choice, Initial}
use Rattle.graph.specs.Pass.{signals, position, branch, initial, successor}
use Rattle.graph.specs.Moves.{by_mask, Move, moves_below, moves, Among}
use Rattle.graph.specs.Graphs.{Step, Way, Reached, node_of, Listed, Distinct, Graph}
use Rattle.graph.specs.Tests.{same_node, led, stays_in, lists}
use Rattle.graph.proofs.Masks.{every_at}
use Rattle.graph.proofs.Ordered.{Ordered}
use Rattle.graph.proofs.Certified.{any_at, Alike, unfolded_same, branch_same, successor_same, mask_of, mask_alike, mask_lt, same_node_true, same_node_refl}
use Rattle.graph.proofs.Laws.{initial_is, one_initial}
use Rattle.graph.proofs.Bridge.{step_by, step_branch, step_position, step_successor, reached_more, start_reached}

move_of : Lines → Node → Choice → Move
move_of t n c = record { signals = position t n c; to = successor t n c }

abbrev more : Bool → Move → List Move → List Move
more b v r = elim b [ true ↦ v ∷ r | false ↦ r ]

more_in : (b : Bool) (v : Move) (r : List Move) → b ≡ true → Among v (more b v r)
more_in true v r e = inl refl
more_in false v r e = absurd (both_ways false refl e)

more_keep : (b : Bool) (v w : Move) (r : List Move) → Among w r → Among w (more b v r)
more_keep true v w r h = inr h
more_keep false v w r h = h

more_from : (b : Bool) (v w : Move) (r : List Move) → Among w (more b v r) → ((b ≡ true) × (w ≡ v)) ⊎ Among w r
more_from true v w r (inl e) = inl (refl, e)
more_from true v w r (inr h) = inr h
more_from false v w r h = inr h

moves_in : (t : Lines) (n : Node) (m k : ℕ) → k < m → branch t n (by_mask t k) ≡ true → Among (move_of t n (by_mask t k)) (moves_below t n m)
unfolding moves_below move_of
moves_in t n zero k l b = absurd (omega arith)
moves_in t n (suc m) k l b =
    elim (cases_eq k m) [
      | inl e ↦
          subst (λ (x : ℕ). Among (move_of t n (by_mask t x)) (moves_below t n (suc m))) (sym e)
          (more_in (branch t n (by_mask t m)) (move_of t n (by_mask t m)) (moves_below t n m) (subst (λ (x : ℕ). branch t n (by_mask t x) ≡ true) e b))
      | inr e ↦ more_keep (branch t n (by_mask t m)) (move_of t n (by_mask t m)) (move_of t n (by_mask t k)) (moves_below t n m) (moves_in t n m k (omega arith) b)
    ]

moves_from : (t : Lines) (n : Node) (m : ℕ) (v : Move) → Among v (moves_below t n m) → (c : Choice) × (branch t n c ≡ true) × (v ≡ move_of t n c)
unfolding moves_below move_of
moves_from t n zero v h = absurd h
moves_from t n (suc m) v h =
    elim (more_from (branch t n (by_mask t m)) (move_of t n (by_mask t m)) v (moves_below t n m) h) [
      | inl p ↦ (by_mask t m, p.0, p.1)
      | inr p ↦ moves_from t n m v p
    ]

position_same : (t : Lines) (c d : Choice) → Alike t c d → (n : Node) → position t n c ≡ position t n d
unfolding position
position_same t c d h n = ap (λ u. signals t (length t) u.now) (unfolded_same t c d h n)

module _ (t : Lines) (o : Ordered t) where
  pub moves_step : (n : Node) (v : Move) → Among v (moves t n) → Step t n v.signals v.to
  unfolding moves move_of
  moves_step n v h =
      let r = moves_from t n (2 ^ choice_of t (length t)) v h in
      subst (λ (w : Move). Step t n w.signals w.to) (sym r.2) (step_by t o n r.0 r.1)

  pub step_moves : (n : Node) (p : ℕ) (m : Node) → Step t n p m → Among (record { signals = p; to = m }) (moves t n)
  unfolding moves move_of
  step_moves n p m s =
      let c : Choice = s.choice in
      let k : ℕ = mask_of t c in
      let d : Choice = by_mask t k in
      let a = mask_alike t c in
      let e : p ≡ position t n d = step_position t o n p m s ∙ position_same t c d a n in
      let f : m ≡ successor t n d = step_successor t o n p m s ∙ successor_same t c d a n in
      let b : branch t n d ≡ true = sym (branch_same t c d a n) ∙ step_branch t o n p m s in
      let q : move_of t n d ≡ record { signals = p; to = m } = λ i. record { signals = sym e i; to = sym f i } in
      subst (λ (v : Move). Among v (moves t n)) q (moves_in t n (2 ^ choice_of t (length t)) k (mask_lt t c) b)

  pub moves_exact : (n : Node) (p : ℕ) (m : Node) → Among (record { signals = p; to = m }) (moves t n) ↔ Step t n p m
  moves_exact n p m = (moves_step n (record { signals = p; to = m }), step_moves n p m)

led_from : (n : Node) (vs : List Move) → led n vs ≡ true → (v : Move) × Among v vs × (v.to ≡ n)
unfolding led
led_from n [] h = absurd (both_ways false refl h)
led_from n (v ∷ vs) h =
    elim (or_cases (same_node v.to n) (led n vs) h) [
      | inl e ↦ (v, inl refl, same_node_true v.to n e)
      | inr e ↦ let r = led_from n vs e in (r.0, inr r.1, r.2)
    ]

stays_at : (l : List Node) (vs : List Move) (v : Move) → stays_in l vs ≡ true → Among v vs → Listed l v.to
unfolding stays_in
stays_at l [] v s h = absurd h
stays_at l (w ∷ vs) v s (inl e) =
    let p = and_parts (any (length l) (λ b. same_node (node_of l b) w.to)) (stays_in l vs) s in
    let r = any_at (length l) (λ b. same_node (node_of l b) w.to) p.0 in
    (r.0, r.1, same_node_true (node_of l r.0) w.to r.2 ∙ sym (ap (λ (x : Move). x.to) e))
stays_at l (w ∷ vs) v s (inr h) = stays_at l vs v (and_parts (any (length l) (λ b. same_node (node_of l b) w.to)) (stays_in l vs) s).1 h

module _ (t : Lines) (o : Ordered t) (l : List Node) (z : lists t l ≡ true) where
  abbrev came_test : ℕ → Bool
  came_test a = eqb a 0 || any a (λ b. led (node_of l a) (moves t (node_of l b)))

  abbrev once_test : ℕ → Bool
  once_test a = every a (λ b. not (same_node (node_of l b) (node_of l a)))

  abbrev each_test : ℕ → Bool
  each_test a = came_test a && (stays_in l (moves t (node_of l a)) && once_test a)

  abbrev start_test : Bool
  start_test = ltb 0 (length l) && same_node (node_of l 0) (initial t)

  parts : (start_test ≡ true) × (every (length l) each_test ≡ true)
  unfolding lists
  parts = and_parts start_test (every (length l) each_test) z

  pub some : 0 < length l
  some = ltb-true 0 (length l) (and_parts (ltb 0 (length l)) (same_node (node_of l 0) (initial t)) parts.0).0

  first : node_of l 0 ≡ initial t
  first = same_node_true (node_of l 0) (initial t) (and_parts (ltb 0 (length l)) (same_node (node_of l 0) (initial t)) parts.0).1

  pub starts : Initial t (node_of l 0)
  starts = subst (Initial t) (sym first) (initial_is t o)

  each : (a : ℕ) → a < length l → (came_test a ≡ true) × ((stays_in l (moves t (node_of l a)) && once_test a) ≡ true)
  each a h = and_parts (came_test a) (stays_in l (moves t (node_of l a)) && once_test a) (every_at (length l) each_test parts.1 a h)

  came : (m a : ℕ) → a < m → a < length l → Reached t (node_of l a)
  came zero a g h = absurd (omega arith)
  came (suc m) a g h =
      elim (or_cases (eqb a 0) (any a (λ b. led (node_of l a) (moves t (node_of l b)))) (each a h).0) [
        | inl e ↦ subst (Reached t) (sym (ap (node_of l) (eqb-true a 0 e) ∙ first)) (start_reached t o)
        | inr e ↦
            let r = any_at a (λ b. led (node_of l a) (moves t (node_of l b))) e in
            let b : r.0 < a = r.1 in
            let v = led_from (node_of l a) (moves t (node_of l r.0)) r.2 in
            subst (Reached t) v.2
            (reached_more t o (node_of l r.0) v.0.signals v.0.to (came m r.0 (omega arith) (omega arith)) (moves_step t o (node_of l r.0) v.0 v.1))
      ]

  onward : (n : Node) (p : ℕ) (m : Node) → Listed l n → Step t n p m → Listed l m
  onward n p m h s =
      let a : ℕ = h.0 in
      let st = (and_parts (stays_in l (moves t (node_of l a))) (once_test a) (each a h.1).1).0 in
      stays_at l (moves t (node_of l a)) (record { signals = p; to = m }) st
      (step_moves t o (node_of l a) p m (subst (λ (x : Node). Step t x p m) (sym h.2) s))

  along : (ps : List ℕ) (n m : Node) → Listed l n → Way t n ps m → Listed l m
  along [] n m h e = subst (Listed l) e h
  along (p ∷ ps) n m h w = along ps w.0 m (onward n p w.0 h w.1) w.2

  pub is_graph : Graph t l
  is_graph n = (
    λ h. subst (Reached t) h.2 (came (suc h.0) h.0 (omega arith) h.1),
    λ (i, s, (ps, w)). along ps i n (0, some, first ∙ one_initial t (initial t) i (initial_is t o) s) w,
  )

  apart : (a b : ℕ) → a < b → b < length l → node_of l a ≡ node_of l b → ⊥
  apart a b g h e =
      let q = (and_parts (stays_in l (moves t (node_of l b))) (once_test b) (each b h).1).1 in
      both_ways (same_node (node_of l a) (node_of l b))
      (not-true (same_node (node_of l a) (node_of l b)) (every_at b (λ x. not (same_node (node_of l x) (node_of l b))) q a g))
      (same_node_refl (node_of l a) (node_of l b) e)

  pub is_distinct : Distinct l
  is_distinct a b p q e =
      elim (cases_order a b) [ inl r ↦ r | inr (inl g) ↦ absurd (apart a b g q e) | inr (inr g) ↦ absurd (apart b a g p (sym e)) ]
