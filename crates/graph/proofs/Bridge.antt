-- Ways, graphs and ranks of the relations, by choices.
use Rattle.std.proofs.Common.{◌≡◌, ℕ, zero, suc, ◌<◌, true, ◌⊎◌, ◌↔◌, List, [], ◌∷◌, ◌++◌, length, sym, refl, ap, ◌∙◌, subst, ap₂, inl, inr, arith}
use Rattle.std.proofs.lemmas.Bool.{and_parts, and_from}
use Rattle.rules.specs.Runs.{Run, Keeps}
use Rattle.tables.specs.Lines.{Lines, root}
use Rattle.graph.specs.declared.node.Node.{Node}
use Rattle.graph.specs.Unfolding.{Choice, Omega, Initial}
use Rattle.graph.specs.Pass.{position, branch, initial, successor}
use Rattle.graph.specs.Graphs.{Step, Way, Reaches, Reached, node_of, Graph, Loops, Ranked, entry, Ranks, ranked}
use Rattle.graph.proofs.Ordered.{Ordered}
use Rattle.graph.proofs.Ways.{Certificate, reach, branches, positions, OmegaLoop, Leads, Graph as ByChoices}
use Rattle.graph.proofs.Laws.{position_asks, asks_position, branch_is, omega_is, initial_is, one_initial, successor_is, one_successor}
use Rattle.graph.proofs.Lassos.{loop_keeps, length_positions}
use Rattle.graph.proofs.Sound.{certificate_sound}
use Rattle.graph.proofs.Sizes.{listed}
use Rattle.graph.proofs.Decides.{graph_decides}

-- a way by its choices
pub record Chosen (t : Lines) (n : Node) (ps : List ℕ) (m : Node) : Type 0 where
  pub by : List Choice
  pub lawful : branches t n by ≡ true
  pub asks : positions t n by ≡ ps
  pub arrives : reach t n by ≡ m

module _ (t : Lines) (o : Ordered t) where
  pub step_by : (n : Node) (c : Choice) → branch t n c ≡ true → Step t n (position t n c) (successor t n c)
  step_by n c b = record { choice = c; branch = (branch_is t o n c).0 b; asks = position_asks t o n c; leads = successor_is t o n c }

  pub step_branch : (n : Node) (p : ℕ) (m : Node) → (s : Step t n p m) → branch t n s.choice ≡ true
  step_branch n p m s = (branch_is t o n s.choice).1 s.branch

  pub step_position : (n : Node) (p : ℕ) (m : Node) → (s : Step t n p m) → p ≡ position t n s.choice
  step_position n p m s = asks_position t o n s.choice p s.asks

  pub step_successor : (n : Node) (p : ℕ) (m : Node) → (s : Step t n p m) → m ≡ successor t n s.choice
  step_successor n p m s = one_successor t o n s.choice m (successor t n s.choice) s.leads (successor_is t o n s.choice)

  pub way_chosen : (ps : List ℕ) (n m : Node) → Way t n ps m → Chosen t n ps m
  unfolding branches positions reach
  way_chosen [] n m e = record { by = []; lawful = refl; asks = refl; arrives = e }
  way_chosen (p ∷ ps) n m w =
      let s = w.1 in
      let c : Choice = s.choice in
      let e : w.0 ≡ successor t n c = step_successor n p w.0 s in
      let r = way_chosen ps (successor t n c) m (subst (λ (x : Node). Way t x ps m) e w.2) in
      record {
        by = c ∷ r.by;
        lawful = and_from (branch t n c) (branches t (successor t n c) r.by) (step_branch n p w.0 s) r.lawful;
        asks = ap₂ ◌∷◌ (sym (step_position n p w.0 s)) r.asks;
        arrives = r.arrives;
      }

  pub chosen_way : (cs : List Choice) (n : Node) → branches t n cs ≡ true → Way t n (positions t n cs) (reach t n cs)
  unfolding branches positions reach
  chosen_way [] n b = refl
  chosen_way (c ∷ cs) n b =
      let p = and_parts (branch t n c) (branches t (successor t n c) cs) b in
      (successor t n c, step_by n c p.0, chosen_way cs (successor t n c) p.1)

  -- an ω-loop by its choices, and by its nodes
  pub loop_chosen : (ps qs : List ℕ) (i n : Node) → Initial t i → Way t i ps n → Omega t n → Way t n qs n → 0 < length qs
      → (to : List Choice) × ((round : List Choice) × OmegaLoop t to round × (positions t (initial t) to ≡ ps) × (positions t (reach t (initial t) to) round ≡ qs))
  loop_chosen ps qs i n z w v u l =
      let e : i ≡ initial t = one_initial t i (initial t) z (initial_is t o) in
      let a = way_chosen ps (initial t) n (subst (λ (x : Node). Way t x ps n) e w) in
      let back : n ≡ reach t (initial t) a.by = sym a.arrives in
      let b = way_chosen qs (reach t (initial t) a.by) (reach t (initial t) a.by) (subst (λ (x : Node). Way t x qs x) back u) in (
        a.by,
        (
          b.by,
          record {
            leads = a.lawful;
            at_omega = (omega_is t (reach t (initial t) a.by)).1 (subst (Omega t) back v);
            turns = b.lawful;
            back = b.arrives;
            steps = subst (λ (x : ℕ). 0 < x) (sym (ap length b.asks) ∙ length_positions t (reach t (initial t) a.by) b.by) l;
          },
          a.asks,
          b.asks,
        ),
      )

  -- a run along a way to an ω-node and back to it
  pub loop_run : (i n : Node) → Initial t i → (r : Run) → Way t i r.lead n → Omega t n → Way t n r.cycle n → Keeps (root t) r
  loop_run i n z r w v u =
      let h = loop_chosen r.lead r.cycle i n z w v u r.lasts in
      loop_keeps t o h.0 h.1.0 h.1.1 r (sym h.1.2) (sym h.1.3)

  positions_some : (cs : List Choice) (n m : Node) → 0 < length cs → Way t n (positions t n cs) m → Reaches t n m
  unfolding positions
  positions_some [] n m l w = absurd (omega arith)
  positions_some (c ∷ cs) n m l w = (position t n c, (positions t (successor t n c) cs, w))

  pub loops_from : (to round : List Choice) → OmegaLoop t to round → Loops t
  loops_from to round z =
      let n : Node = reach t (initial t) to in (
        n,
        (initial t, initial_is t o, (positions t (initial t) to, chosen_way to (initial t) z.leads)),
        (omega_is t n).0 z.at_omega,
        positions_some round n n z.steps (subst (λ (x : Node). Way t n (positions t n round) x) z.back (chosen_way round n z.turns)),
      )

  pub loops_chosen : Loops t → (to : List Choice) × ((round : List Choice) × OmegaLoop t to round)
  loops_chosen (n, (i, z, (ps, w)), v, (p, (qs, u))) =
      let h = loop_chosen ps (p ∷ qs) i n z w v u (omega arith) in (h.0, (h.1.0, h.1.1))

  -- a ranked graph by its choices, and back
  pub ranks_chosen : (l : List Ranked) → Ranks t l → Certificate t l
  ranks_chosen l z =
      record {
        some = z.some;
        first = one_initial t (entry l 0).node (initial t) z.first (initial_is t o);
        closed = λ a b c h.
            let s = z.closed a b (position t (entry l a).node c) (successor t (entry l a).node c) (step_by (entry l a).node c h) in
            record { place = s.place; within = s.within; same = s.same; sinks = s.sinks; falls = λ e. s.falls ((omega_is t (entry l a).node).0 e) };
      }

  pub chosen_ranks : (l : List Ranked) → Certificate t l → Ranks t l
  chosen_ranks l z =
      record {
        some = z.some;
        first = subst (Initial t) (sym z.first) (initial_is t o);
        closed = λ a b p m w.
            let s = z.closed a b w.choice (step_branch (entry l a).node p m w) in
            record {
              place = s.place;
              within = s.within;
              same = s.same ∙ sym (step_successor (entry l a).node p m w);
              sinks = s.sinks;
              falls = λ e. s.falls ((omega_is t (entry l a).node).1 e);
            };
      }

  pub ranks_refute : (l : List Ranked) → Ranks t l → (r : Run) → Keeps (root t) r → ⊥
  ranks_refute l z = certificate_sound t o l (ranks_chosen l z)

  -- ways joined
  way_more : (ps : List ℕ) (n m : Node) (p : ℕ) (k : Node) → Way t n ps m → Step t m p k → Way t n (ps ++ (p ∷ [])) k
  way_more [] n m p k e s = (k, subst (λ (x : Node). Step t x p k) (sym e) s, refl)
  way_more (q ∷ ps) n m p k w s = (w.0, w.1, way_more ps w.0 m p k w.2 s)

  pub reached_more : (n : Node) (p : ℕ) (m : Node) → Reached t n → Step t n p m → Reached t m
  reached_more n p m (i, z, (ps, w)) s = (i, z, (ps ++ (p ∷ []), way_more ps i n p m w s))

  reached_chosen : (n : Node) → Reached t n → Leads t (initial t) n
  reached_chosen n (i, z, (ps, w)) =
      let a = way_chosen ps (initial t) n (subst (λ (x : Node). Way t x ps n) (one_initial t i (initial t) z (initial_is t o)) w) in
      record { by = a.by; lawful = a.lawful; arrives = a.arrives }

  chosen_reached : (n : Node) → Leads t (initial t) n → Reached t n
  chosen_reached n a = (initial t, initial_is t o, (positions t (initial t) a.by, subst (Way t (initial t) (positions t (initial t) a.by)) a.arrives (chosen_way a.by (initial t) a.lawful)))

  -- the set of nodes as a list that begins with the initial one
  pub graph_chosen : (l : List Node) → 0 < length l → Initial t (node_of l 0) → Graph t l → ByChoices t l
  graph_chosen l s z g =
      record {
        some = s;
        first = one_initial t (node_of l 0) (initial t) z (initial_is t o);
        reached = λ a b. reached_chosen (node_of l a) ((g (node_of l a)).0 (a, b, refl));
        closed = λ a b c h.
            (g (successor t (node_of l a) c)).1
            (reached_more (node_of l a) (position t (node_of l a) c) (successor t (node_of l a) c) ((g (node_of l a)).0 (a, b, refl)) (step_by (node_of l a) c h));
      }

  pub chosen_graph : (l : List Node) → ByChoices t l → Graph t l
  chosen_graph l g n = (
    λ h. subst (Reached t) h.2 (chosen_reached (node_of l h.0) (g.reached h.0 h.1)),
    λ h. listed t l g n (reached_chosen n h),
  )

  pub start_reached : Reached t (initial t)
  start_reached = (initial t, initial_is t o, ([], refl))

  -- with the initial node before them
  before_at : (l : List Node) → Graph t l → (n : Node) (a : ℕ) → a < suc (length l) → node_of (initial t ∷ l) a ≡ n → Reached t n
  before_at l g n zero b e = subst (Reached t) e start_reached
  before_at l g n (suc a) b e = (g n).0 (a, omega arith, e)

  before : (l : List Node) → Graph t l → Graph t (initial t ∷ l)
  before l g n = (
    λ h. before_at l g n h.0 h.1 h.2,
    λ h. let r = (g n).1 h in let b : r.0 < length l = r.1 in (suc r.0, omega arith, r.2),
  )

  pub graph_first : (l : List Node) → Graph t l → ByChoices t (initial t ∷ l)
  graph_first l g = graph_chosen (initial t ∷ l) (omega arith) (initial_is t o) (before l g)

  pub decides : (l : List Node) → Graph t l → ((r : Run) × Keeps (root t) r) ↔ Loops t
  decides l g = (
    λ h. elim (graph_decides t (initial t ∷ l) (graph_first l g)) [
      | inl x ↦ loops_from x.0 x.1.0 x.1.1
      | inr x ↦ absurd (certificate_sound t o (ranked x.0 (initial t ∷ l)) x.1 h.0 h.1)
    ],
    λ (n, (i, z, (ps, w)), v, (p, (qs, u))).
        let r : Run = record { lead = ps; cycle = p ∷ qs; lasts = omega arith } in
        (r, loop_run i n z r w v u),
  )

  pub loops_or_ranks : (l : List Node) → 0 < length l → Initial t (node_of l 0) → Graph t l → Loops t ⊎ ((f : ℕ → ℕ) × Ranks t (ranked f l))
  loops_or_ranks l s z g =
      elim (graph_decides t l (graph_chosen l s z g)) [
        | inl x ↦ inl (loops_from x.0 x.1.0 x.1.1)
        | inr x ↦ inr (x.0, chosen_ranks (ranked x.0 l) x.1)
      ]
