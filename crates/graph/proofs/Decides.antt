-- A graph has an ω-loop, or the number of ω-nodes that a node reaches is a rank.
use Rattle.std.proofs.Common.{◌≡◌, ℕ, zero, suc, ◌^◌, ◌<◌, ◌≤◌, Bool, true, false, ◌&&◌, ◌||◌, ◌⊎◌, List, [], ◌∷◌, length, sym, refl, ap, ◌∙◌, subst, inl, inr, arith}
use Rattle.std.proofs.lemmas.Bool.{cases_Bool, both_ways, or_cases, or_left, or_right, and_parts, and_from}
use Rattle.graph.specs.Sets.{any}
use Rattle.tables.specs.Lines.{Lines}
use Rattle.graph.specs.Numbers.{choice_of}
use Rattle.graph.specs.Unfolding.{Choice}
use Rattle.graph.specs.Pass.{branch, is_omega, initial, successor}
use Rattle.graph.specs.Graphs.{entry, node_of, ranked}
use Rattle.graph.proofs.Ways.{Certificate, reach, branches, OmegaLoop, Leads, Graph}
use Rattle.graph.specs.Moves.{by_mask}
use Rattle.graph.specs.Tests.{same_node}
use Rattle.graph.specs.declared.node.Node.{Node}
use Rattle.graph.proofs.Certified.{any_from, any_at, mask_of, mask_alike, mask_lt, same_node_true, same_node_refl, branch_same, successor_same}
use Rattle.graph.proofs.Counts.{count, count_le, count_lt, count_some, Stops, stops}
use Rattle.graph.proofs.Sizes.{listed}

any_none : (n : ℕ) (f : ℕ → Bool) → any n f ≡ false → (k : ℕ) → k < n → f k ≡ false
any_none n f h k l = elim (cases_Bool (f k)) [ inl e ↦ absurd (both_ways (any n f) h (any_from n f k l e)) | inr e ↦ e ]

-- the ranks' list
pub length_ranked : (f : ℕ → ℕ) (l : List Node) → length (ranked f l) ≡ length l
unfolding ranked
length_ranked f [] = refl
length_ranked f (n ∷ l) = ap suc (length_ranked (λ k. f (suc k)) l)

pub ranked_node : (f : ℕ → ℕ) (l : List Node) (a : ℕ) → (entry (ranked f l) a).node ≡ node_of l a
unfolding ranked
ranked_node f [] a = refl
ranked_node f (n ∷ l) zero = refl
ranked_node f (n ∷ l) (suc a) = ranked_node (λ k. f (suc k)) l a

ranked_rank : (f : ℕ → ℕ) (l : List Node) (a : ℕ) → a < length l → (entry (ranked f l) a).rank ≡ f a
unfolding ranked
ranked_rank f [] a h = absurd (omega arith)
ranked_rank f (n ∷ l) zero h = refl
ranked_rank f (n ∷ l) (suc a) h = ranked_rank (λ k. f (suc k)) l a (omega arith)

-- ways
stay : (t : Lines) (n m : Node) → n ≡ m → Leads t n m
unfolding branches reach
stay t n m e = record { by = []; lawful = refl; arrives = e }

ahead : (t : Lines) (n m : Node) (c : Choice) → branch t n c ≡ true → Leads t (successor t n c) m → Leads t n m
unfolding branches reach
ahead t n m c b w = record { by = c ∷ w.by; lawful = and_from (branch t n c) (branches t (successor t n c) w.by) b w.lawful; arrives = w.arrives }

module _ (t : Lines) (l : List Node) (g : Graph t l) where
  abbrev n : ℕ
  n = length l

  abbrev W : ℕ
  W = 2 ^ choice_of t (length t)

  abbrev N : ℕ → Node
  N a = node_of l a

  edge : ℕ → ℕ → ℕ → Bool
  edge a b m = branch t (N a) (by_mask t m) && same_node (N b) (successor t (N a) (by_mask t m))

  edges : ℕ → ℕ → Bool
  edges a b = any W (edge a b)

  -- a reaches b in at most i steps
  within : ℕ → ℕ → ℕ → Bool
  within b zero a = same_node (N a) (N b)
  within b (suc i) a = within b i a || any n (λ x. edges a x && within b i x)

  within_up : (b i a : ℕ) → a < n → within b i a ≡ true → within b (suc i) a ≡ true
  unfolding within
  within_up b i a h e = or_left (within b i a) (any n (λ x. edges a x && within b i x)) e

  near : (b i a : ℕ) → N a ≡ N b → within b i a ≡ true
  unfolding within
  near b zero a e = same_node_refl (N a) (N b) e
  near b (suc i) a e = or_left (within b i a) (any n (λ x. edges a x && within b i x)) (near b i a e)

  self : (b i : ℕ) → within b i b ≡ true
  unfolding within
  self b zero = same_node_refl (N b) (N b) refl
  self b (suc i) = or_left (within b i b) (any n (λ x. edges b x && within b i x)) (self b i)

  enough : (b : ℕ) → Stops n (within b)
  enough b = stops n (within b) (within_up b)

  -- a reaches b
  to : ℕ → ℕ → Bool
  to b a = within b (enough b).at a

  to_self : (b : ℕ) → to b b ≡ true
  unfolding to
  to_self b = self b (enough b).at

  to_back : (b a x : ℕ) → a < n → x < n → edges a x ≡ true → to b x ≡ true → to b a ≡ true
  unfolding to within
  to_back b a x h h' e q =
      let i : ℕ = (enough b).at in
      (enough b).still a h
      (or_right (within b i a) (any n (λ x. edges a x && within b i x)) (any_from n (λ x. edges a x && within b i x) x h' (and_from (edges a x) (within b i x) e q)))

  -- in at most i steps
  Soon : ℕ → Node → Node → Type 0
  Soon i x y = (w : Leads t x y) × (length w.by ≤ i)

  edge_leads : (a b i : ℕ) (m : Node) → edges a b ≡ true → Soon i (N b) m → (c : Choice) × (branch t (N a) c ≡ true) × Soon i (successor t (N a) c) m
  unfolding edges edge
  edge_leads a b i m e w =
      let x = any_at W (edge a b) e in
      let p = and_parts (branch t (N a) (by_mask t x.0)) (same_node (N b) (successor t (N a) (by_mask t x.0))) x.2 in
      (by_mask t x.0, p.0, subst (λ (y : Node). Soon i y m) (same_node_true (N b) (successor t (N a) (by_mask t x.0)) p.1) w)

  within_leads : (b i a : ℕ) → within b i a ≡ true → Soon i (N a) (N b)
  unfolding within Soon stay ahead
  within_leads b zero a e = (stay t (N a) (N b) (same_node_true (N a) (N b) e), omega arith)
  within_leads b (suc i) a e =
      elim (or_cases (within b i a) (any n (λ x. edges a x && within b i x)) e) [
        | inl q ↦ let w = within_leads b i a q in (w.0, omega (arith, w.1))
        | inr q ↦
            let x = any_at n (λ x. edges a x && within b i x) q in
            let p = and_parts (edges a x.0) (within b i x.0) x.2 in
            let y = edge_leads a x.0 i (N b) p.0 (within_leads b i x.0 p.1) in
            (ahead t (N a) (N b) y.0 y.1 y.2.0, omega (arith, y.2.1))
      ]

  to_soon : (b : ℕ) → b < n → (enough b).at < n
  to_soon b h = (enough b).soon (count_some n (within b 0) b h (self b 0))

  -- an ω-node that reaches itself
  Found : Type 0
  Found = (to : List Choice) × ((round : List Choice) × OmegaLoop t to round)

  -- with a short way to it, and a short way round
  Short : Type 0
  Short = (to : List Choice) × ((round : List Choice) × (OmegaLoop t to round × (length to < length l) × (length round ≤ length l)))

  found : (a x : ℕ) → a < n → is_omega t (N a) ≡ true → edges a x ≡ true → to a x ≡ true → to a 0 ≡ true → Short
  unfolding Short Soon to branches reach
  found a x h o e q s =
      let r₀ = within_leads a (enough a).at 0 s in
      let r₁ : Soon (enough a).at (initial t) (N a) = subst (λ (m : Node). Soon (enough a).at m (N a)) g.first r₀ in
      let r : Leads t (initial t) (N a) = r₁.0 in
      let y = edge_leads a x (enough a).at (N a) e (within_leads a (enough a).at x q) in
      let cs : List Choice = y.2.0.by in
      let R : Node = reach t (initial t) r.by in
      let at_a : N a ≡ R = sym r.arrives in
      let turns : branches t (N a) (y.0 ∷ cs) ≡ true = and_from (branch t (N a) y.0) (branches t (successor t (N a) y.0) cs) y.1 y.2.0.lawful in
      let back : reach t (N a) (y.0 ∷ cs) ≡ N a = y.2.0.arrives in
      let few : length r.by < n = omega (arith, to_soon a h, r₁.1) in (
        r.by,
        (
          y.0 ∷ cs,
          (
            record {
              leads = r.lawful;
              at_omega = subst (λ (m : Node). is_omega t m ≡ true) at_a o;
              turns = subst (λ (m : Node). branches t m (y.0 ∷ cs) ≡ true) at_a turns;
              back = subst (λ (m : Node). reach t m (y.0 ∷ cs) ≡ m) at_a back;
              steps = omega arith;
            },
            few,
            omega (arith, to_soon a h, y.2.1),
          ),
        ),
      )

  edge_of : (a x : ℕ) (c : Choice) → branch t (N a) c ≡ true → N x ≡ successor t (N a) c → edges a x ≡ true
  unfolding edges edge
  edge_of a x c b e =
      let m : ℕ = mask_of t c in
      let alike = mask_alike t c in
      any_from W (edge a x) m (mask_lt t c)
      (and_from (branch t (N a) (by_mask t m)) (same_node (N x) (successor t (N a) (by_mask t m)))
      (sym (branch_same t c (by_mask t m) alike (N a)) ∙ b)
      (same_node_refl (N x) (successor t (N a) (by_mask t m)) (e ∙ successor_same t c (by_mask t m) alike (N a))))

  -- each way in the graph is seen
  sees : (b x : ℕ) → x < n → (cs : List Choice) → branches t (N x) cs ≡ true → reach t (N x) cs ≡ N b → to b x ≡ true
  unfolding to branches reach
  sees b x h [] p q = near b (enough b).at x q
  sees b x h (c ∷ cs) p q =
      let v = and_parts (branch t (N x) c) (branches t (successor t (N x) c) cs) p in
      let y = g.closed x h c v.0 in
      let e : N y.0 ≡ successor t (N x) c = y.2 in
      to_back b x y.0 h y.1 (edge_of x y.0 c v.0 e)
      (sees b y.0 y.1 cs (subst (λ (m : Node). branches t m cs ≡ true) (sym e) v.1) (subst (λ (m : Node). reach t m cs ≡ N b) (sym e) q))

  sees_all : (a : ℕ) → a < n → to a 0 ≡ true
  sees_all a h =
      let r = g.reached a h in
      sees a 0 g.some r.by (subst (λ (m : Node). branches t m r.by ≡ true) (sym g.first) r.lawful)
      (subst (λ (m : Node). reach t m r.by ≡ N a) (sym g.first) r.arrives)

  loops : ℕ → Bool
  loops a = is_omega t (N a) && any n (λ x. edges a x && to a x)

  -- the rank: how many ω-nodes are reached
  reaches : ℕ → ℕ → Bool
  reaches a b = is_omega t (N b) && to b a

  rank : ℕ → ℕ
  rank a = count n (reaches a)

  module _ (none : (a : ℕ) → a < n → loops a ≡ false) where
    fewer : (a x : ℕ) → a < n → x < n → edges a x ≡ true → (b : ℕ) → b < n → reaches x b ≡ true → reaches a b ≡ true
    unfolding reaches
    fewer a x h h' e b k q =
        let p = and_parts (is_omega t (N b)) (to b x) q in
        and_from (is_omega t (N b)) (to b a) p.0 (to_back b a x h h' e p.1)

    not_back : (a x : ℕ) → a < n → x < n → edges a x ≡ true → is_omega t (N a) ≡ true → reaches x a ≡ false
    unfolding reaches loops
    not_back a x h h' e o =
        elim (cases_Bool (is_omega t (N a) && to a x)) [
          | inr q ↦ q
          | inl q ↦
              let p = and_parts (is_omega t (N a)) (to a x) q in
              absurd (both_ways (is_omega t (N a) && any n (λ x. edges a x && to a x)) (none a h)
              (and_from (is_omega t (N a)) (any n (λ x. edges a x && to a x)) o (any_from n (λ x. edges a x && to a x) x h' (and_from (edges a x) (to a x) e p.1))))
        ]

    sinks : (a x : ℕ) → a < n → x < n → edges a x ≡ true → rank x ≤ rank a
    unfolding rank
    sinks a x h h' e = count_le n (reaches x) (reaches a) (fewer a x h h' e)

    falls : (a x : ℕ) → a < n → x < n → edges a x ≡ true → is_omega t (N a) ≡ true → rank x < rank a
    unfolding rank reaches
    falls a x h h' e o =
        count_lt n (reaches x) (reaches a) (fewer a x h h' e) a h (not_back a x h h' e o) (and_from (is_omega t (N a)) (to a a) o (to_self a))

    certificate : Certificate t (ranked rank l)
    certificate =
        record {
          some = rw length_ranked g.some;
          first = ranked_node rank l 0 ∙ g.first;
          closed = λ a h c b.
              let ha : a < n = omega (arith, h, length_ranked rank l) in
              let ea = ranked_node rank l a in
              let b' : branch t (N a) c ≡ true = subst (λ (m : Node). branch t m c ≡ true) ea b in
              let y = g.closed a ha c b' in
              let x : ℕ = y.0 in
              let hx : x < n = y.1 in
              let e = edge_of a x c b' y.2 in
              record {
                place = x;
                within = omega (arith, hx, length_ranked rank l);
                same = ranked_node rank l x ∙ y.2 ∙ sym (ap (λ (m : Node). successor t m c) ea);
                sinks = rw (ranked_rank rank l x hx, ranked_rank rank l a ha) (sinks a x ha hx e);
                falls = λ o. rw (ranked_rank rank l x hx, ranked_rank rank l a ha) (falls a x ha hx e (subst (λ (m : Node). is_omega t m ≡ true) ea o));
              };
        }

  decides : Found ⊎ ((f : ℕ → ℕ) × Certificate t (ranked f l))
  unfolding loops Found Short
  decides =
      elim (cases_Bool (any n loops)) [
        | inl e ↦
            let y = any_at n loops e in
            let p = and_parts (is_omega t (N y.0)) (any n (λ x. edges y.0 x && to y.0 x)) y.2 in
            let z = any_at n (λ x. edges y.0 x && to y.0 x) p.1 in
            let q = and_parts (edges y.0 z.0) (to y.0 z.0) z.2 in
            let w = found y.0 z.0 y.1 p.0 q.0 q.1 (sees_all y.0 y.1) in
            inl (w.0, (w.1.0, w.1.1.0))
        | inr e ↦ inr (rank, certificate (any_none n loops e))
      ]

  shortened : (to round : List Choice) → OmegaLoop t to round → Short
  unfolding branches reach
  shortened to [] z = absurd (omega (arith, z.steps))
  shortened to (c ∷ cs) z =
      let x = listed t l g (reach t (initial t) to) (record { by = to; lawful = z.leads; arrives = refl }) in
      let a : ℕ = x.0 in
      let e : reach t (initial t) to ≡ N a = sym x.2 in
      let turns : (branch t (N a) c && branches t (successor t (N a) c) cs) ≡ true =
      subst (λ (m : Node). (branch t m c && branches t (successor t m c) cs) ≡ true) e z.turns in
      let back : reach t (successor t (N a) c) cs ≡ N a = subst (λ (m : Node). reach t (successor t m c) cs ≡ m) e z.back in
      let v = and_parts (branch t (N a) c) (branches t (successor t (N a) c) cs) turns in
      let y = g.closed a x.1 c v.0 in
      let d : N y.0 ≡ successor t (N a) c = y.2 in
      found a y.0 x.1 (subst (λ (m : Node). is_omega t m ≡ true) e z.at_omega) (edge_of a y.0 c v.0 d)
      (sees a y.0 y.1 cs (subst (λ (m : Node). branches t m cs ≡ true) (sym d) v.1) (subst (λ (m : Node). reach t m cs ≡ N a) (sym d) back))
      (sees_all a x.1)

pub loop_short : (t : Lines) (l : List Node) → Graph t l → ((to : List Choice) × ((round : List Choice) × OmegaLoop t to round))
    → (to : List Choice) × ((round : List Choice) × (OmegaLoop t to round × (length to < length l) × (length round ≤ length l)))
unfolding Short
loop_short t l g h = shortened t l g h.0 h.1.0 h.1.1

pub graph_decides : (t : Lines) (l : List Node) → Graph t l
    → ((to : List Choice) × ((round : List Choice) × OmegaLoop t to round)) ⊎ ((f : ℕ → ℕ) × Certificate t (ranked f l))
unfolding Found
graph_decides = decides
