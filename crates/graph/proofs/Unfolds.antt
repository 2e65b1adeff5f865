-- Under a choice by truth, all that an unfolding brings is true: now, and at the next time.
use Rattle.std.proofs.Common.{◌≡◌, ℕ, zero, suc, ◌<◌, ◌≤◌, Bool, true, false, cond, not, ◌&&◌, ◌||◌, length, sym, refl, subst, inl, inr, arith}
use Rattle.std.proofs.lemmas.Bool.{cases_eq, cases_Bool, both_ways, or_cases, or_left, or_right, and_parts, not_from_false}
use Rattle.graph.specs.Sets.{has, add}
use Rattle.rules.specs.Formula.{Formula}
use Rattle.rules.specs.Runs.{Holds}
use Rattle.tables.specs.Lines.{Lines, line, formula, is_eventuality}
use Rattle.graph.proofs.Ordered.{Under, Ordered, build, formula_line}
use Rattle.graph.specs.Numbers.{eventuality}
use Rattle.graph.specs.Unfolding.{Choice, stays}
use Rattle.graph.specs.Pass.{Unfolded, visit, unfold_below, opened, unfolded, sign, signals, sane, position, branch, spread, spread_below, put}
use Rattle.tables.specs.declared.line.Line.{Line}
use Rattle.graph.specs.declared.node.Node.{Node}
use Rattle.graph.proofs.Masks.{has_none, all_add, set_of_from, every_from}
use Rattle.graph.proofs.Numbers.{number_inj}

-- what holds before the visits and is kept by each holds after them
pub unfold_keeps : (t : Lines) (c : Choice) (I : Unfolded → Type 0) (m : ℕ)
    → ((k : ℕ) (s : Unfolded) → k < m → has s.now k ≡ true → I s → I (visit (line t k) (c k) k (eventuality t k) s))
    → (s : Unfolded) → I s → I (unfold_below t c m s)
unfolding unfold_below
unfold_keeps t c I zero h s p = p
unfold_keeps t c I (suc m) h s p =
    unfold_keeps t c I m (λ k s l. h k s (omega arith)) (cond (has s.now m) (visit (line t m) (c m) m (eventuality t m) s) s)
    (elim (cases_Bool (has s.now m)) [
      | inl e ↦ rw e (h m s (omega arith) e p)
      | inr e ↦ rw e p
    ])

pub spread_keeps : (t : Lines) (I : ℕ → Type 0) (m : ℕ)
    → ((k s : ℕ) → k < m → has s k ≡ true → I s → I (spread (line t k) s))
    → (s : ℕ) → I s → I (spread_below t m s)
unfolding spread_below
spread_keeps t I zero h s p = p
spread_keeps t I (suc m) h s p =
    spread_keeps t I m (λ k s l. h k s (omega arith)) (cond (has s m) (spread (line t m) s) s)
    (elim (cases_Bool (has s m)) [
      | inl e ↦ rw e (h m s (omega arith) e p)
      | inr e ↦ rw e p
    ])

-- the operand on which the choice at a line turns
abbrev pub first : Line → ℕ
first Line.True = 0
first Line.False = 0
first (Line.Literal s b) = 0
first (Line.And i j) = i
first (Line.Or i j) = i
first (Line.Always i) = i
first (Line.Eventually i) = i
first (Line.Next i) = i

-- line k is true at time i
pub record Stands (t : Lines) (w : ℕ → ℕ) (i k : ℕ) : Type 0 where
  pub within : k < length t
  pub holds : Holds (formula t k) w i

-- the eventuality e, true at time i, at its line
pub record Awaits (t : Lines) (w : ℕ → ℕ) (i e : ℕ) : Type 0 where
  pub at : ℕ
  pub is : is_eventuality (line t at) ≡ true
  pub number : eventuality t at ≡ e
  pub stands : Stands t w i at

pub record Later (t : Lines) (w : ℕ → ℕ) (c : Choice) (i e : ℕ) : Type 0 where
  pub awaits : Awaits t w (suc i) e
  pub chosen : c awaits.at ≡ false

pub record Good (t : Lines) (w : ℕ → ℕ) (c : Choice) (i : ℕ) (s : Unfolded) : Type 0 where
  pub now : (k : ℕ) → has s.now k ≡ true → Stands t w i k
  pub next : (k : ℕ) → has s.next k ≡ true → Stands t w (suc i) k
  pub later : (e : ℕ) → has s.later e ≡ true → Later t w c i e

-- a node all of whose lines and marks are true
pub record Sound (t : Lines) (w : ℕ → ℕ) (i : ℕ) (n : Node) : Type 0 where
  pub label : (k : ℕ) → has n.label k ≡ true → Stands t w i k
  pub marks : (e : ℕ) → has n.marks e ≡ true → Awaits t w i e

-- a choice by truth
pub record ByTruth (t : Lines) (w : ℕ → ℕ) (i : ℕ) (c : Choice) : Type 0 where
  pub chosen : (k : ℕ) → c k ≡ true → Holds (formula t (first (line t k))) w i
  pub not_chosen : (k : ℕ) → c k ≡ false → Holds (formula t (first (line t k))) w i → ⊥

module _ (t : Lines) (o : Ordered t) (w : ℕ → ℕ) (i : ℕ) where
  -- what a line's truth gives
  opens : (k : ℕ) → Stands t w i k → Holds (build (line t k) (formula t)) w i
  opens k h = subst (λ (f : Formula). Holds f w i) (formula_line t o k h.within) h.holds

  closes : (k : ℕ) → k < length t → (j : ℕ) → Holds (build (line t k) (formula t)) w j → Stands t w j k
  closes k l j h = record { within = l; holds = subst (λ (f : Formula). Holds f w j) (sym (formula_line t o k l)) h }

  module _ (c : Choice) where
    visit_good : (l : Line) (b : Bool) (k : ℕ) → k < length t → Under l k → is_eventuality l ≡ is_eventuality (line t k)
        → Holds (build l (formula t)) w i → ((j : ℕ) → Holds (build l (formula t)) w j → Stands t w j k)
        → (b ≡ true → Holds (formula t (first l)) w i) → (b ≡ false → Holds (formula t (first l)) w i → ⊥) → c k ≡ b
        → (s : Unfolded) → Good t w c i s → Good t w c i (visit l b k (eventuality t k) s)
    unfolding visit
    visit_good Line.True b k m u v h close ct cf cb s g = g
    visit_good Line.False b k m u v h close ct cf cb s g = g
    visit_good (Line.Literal a d) b k m u v h close ct cf cb s g = g
    visit_good (Line.And x y) b k m u v h close ct cf cb s g =
        record {
          now = all_add (Stands t w i) (add s.now x) y (record { within = omega arith; holds = h.1 })
              (all_add (Stands t w i) s.now x (record { within = omega arith; holds = h.0 }) g.now);
          next = g.next;
          later = g.later;
        }
    visit_good (Line.Or x y) true k m u v h close ct cf cb s g =
        record {
          now = all_add (Stands t w i) s.now x (record { within = omega arith; holds = ct refl }) g.now;
          next = g.next;
          later = g.later;
        }
    visit_good (Line.Or x y) false k m u v h close ct cf cb s g =
        let r : Holds (formula t y) w i = elim h [ inl p ↦ absurd (cf refl p) | inr p ↦ p ] in
        record {
          now = all_add (Stands t w i) s.now y (record { within = omega arith; holds = r }) g.now;
          next = g.next;
          later = g.later;
        }
    visit_good (Line.Always x) b k m u v h close ct cf cb s g =
        record {
          now = all_add (Stands t w i) s.now x (record { within = omega arith; holds = h i (omega arith) }) g.now;
          next = all_add (Stands t w (suc i)) s.next k (close (suc i) (λ j l. h j (omega arith))) g.next;
          later = g.later;
        }
    visit_good (Line.Eventually x) true k m u v h close ct cf cb s g =
        record {
          now = all_add (Stands t w i) s.now x (record { within = omega arith; holds = ct refl }) g.now;
          next = g.next;
          later = g.later;
        }
    visit_good (Line.Eventually x) false k m u v h close ct cf cb s g =
        let far : suc i ≤ h.0 = elim (cases_eq h.0 i) [
          | inl e ↦ absurd (cf refl (subst (λ (j : ℕ). Holds (formula t x) w j) e h.2))
          | inr e ↦ let q : i ≤ h.0 = h.1 in omega arith
        ] in
        record {
          now = g.now;
          next = g.next;
          later = all_add (Later t w c i) s.later (eventuality t k)
              (record { awaits = record { at = k; is = sym v; number = refl; stands = close (suc i) (h.0, far, h.2) }; chosen = cb }) g.later;
        }
    visit_good (Line.Next x) b k m u v h close ct cf cb s g =
        record {
          now = g.now;
          next = all_add (Stands t w (suc i)) s.next x (record { within = omega arith; holds = h }) g.next;
          later = g.later;
        }

    opened_now : (n : Node) → Sound t w i n → (k : ℕ) → (has n.label k || (is_eventuality (line t k) && has n.marks (eventuality t k))) ≡ true → Stands t w i k
    opened_now n h k e =
        elim (or_cases (has n.label k) (is_eventuality (line t k) && has n.marks (eventuality t k)) e) [
          | inl p ↦ h.label k p
          | inr p ↦
              let q = and_parts (is_eventuality (line t k)) (has n.marks (eventuality t k)) p in
              let a = h.marks (eventuality t k) q.1 in
              subst (Stands t w i) (number_inj is_eventuality t a.at k a.is q.0 a.number) a.stands
        ]

    opened_good : (n : Node) → Sound t w i n → Good t w c i (opened t n)
    unfolding opened
    opened_good n h =
        record {
          now = λ k e. opened_now n h k (set_of_from (length t) (λ k. has n.label k || (is_eventuality (line t k) && has n.marks (eventuality t k))) k e).1;
          next = λ k e. absurd (both_ways (has 0 k) (has_none k) e);
          later = λ k e. absurd (both_ways (has 0 k) (has_none k) e);
        }

    pub unfolded_good : (n : Node) → Sound t w i n → ByTruth t w i c → Good t w c i (unfolded t n c)
    unfolding unfolded
    unfolded_good n h b =
        unfold_keeps t c (Good t w c i) (length t)
        (λ k s l e g. visit_good (line t k) (c k) k l (o.earlier k l) refl (opens k (g.now k e)) (closes k l) (b.chosen k) (b.not_chosen k) refl s g)
        (opened t n) (opened_good n h)

  -- putting true lines into a label
  spread_good : (l : Line) (k : ℕ) → k < length t → Under l k → Holds (build l (formula t)) w i → (m : ℕ)
      → ((k : ℕ) → has m k ≡ true → Stands t w i k) → (k : ℕ) → has (spread l m) k ≡ true → Stands t w i k
  spread_good Line.True k l u h m g = g
  spread_good Line.False k l u h m g = g
  spread_good (Line.Literal s b) k l u h m g = g
  spread_good (Line.And x y) k l u h m g =
      all_add (Stands t w i) (add m x) y (record { within = omega arith; holds = h.1 })
      (all_add (Stands t w i) m x (record { within = omega arith; holds = h.0 }) g)
  spread_good (Line.Or x y) k l u h m g = g
  spread_good (Line.Always x) k l u h m g = g
  spread_good (Line.Eventually x) k l u h m g = g
  spread_good (Line.Next x) k l u h m g = g

  pub put_good : (m : ℕ) → ((k : ℕ) → has m k ≡ true → Stands t w i k) → (k : ℕ) → has (put t m) k ≡ true → Stands t w i k
  unfolding put
  put_good m g k e =
      let r = set_of_from (length t) (λ k. has (spread_below t (length t) m) k && stays (line t k)) k e in
      spread_keeps t (λ m. (k : ℕ) → has m k ≡ true → Stands t w i k) (length t)
      (λ k s l e g. spread_good (line t k) k l (o.earlier k l) (opens k (g k e)) s g) m g k
      (and_parts (has (spread_below t (length t) m) k) (stays (line t k)) r.1).0

  -- a signal that appears is on
  sign_good : (l : Line) (m : ℕ) → Holds (build l (formula t)) w i → ((s : ℕ) → has m s ≡ true → has (w i) s ≡ true)
      → (s : ℕ) → has (sign l m) s ≡ true → has (w i) s ≡ true
  sign_good Line.True m h g = g
  sign_good Line.False m h g = g
  sign_good (Line.Literal a true) m h g = all_add (λ s. has (w i) s ≡ true) m a h g
  sign_good (Line.Literal a false) m h g = g
  sign_good (Line.And x y) m h g = g
  sign_good (Line.Or x y) m h g = g
  sign_good (Line.Always x) m h g = g
  sign_good (Line.Eventually x) m h g = g
  sign_good (Line.Next x) m h g = g

  signals_good : (now m : ℕ) → ((k : ℕ) → has now k ≡ true → Stands t w i k) → (s : ℕ) → has (signals t m now) s ≡ true → has (w i) s ≡ true
  unfolding signals
  signals_good now zero g s e = absurd (both_ways (has 0 s) (has_none s) e)
  signals_good now (suc m) g s e =
      elim (cases_Bool (has now m)) [
        | inl q ↦ sign_good (line t m) (signals t m now) (opens m (g m q)) (signals_good now m g) s
            (subst (λ (b : Bool). has (cond b (sign (line t m) (signals t m now)) (signals t m now)) s ≡ true) q e)
        | inr q ↦ signals_good now m g s (subst (λ (b : Bool). has (cond b (sign (line t m) (signals t m now)) (signals t m now)) s ≡ true) q e)
      ]

  sane_good : (l : Line) (on : ℕ) → ((s : ℕ) → has on s ≡ true → has (w i) s ≡ true) → Holds (build l (formula t)) w i → sane l on ≡ true
  sane_good Line.True on g h = refl
  sane_good Line.False on g h = absurd h
  sane_good (Line.Literal a true) on g h = refl
  sane_good (Line.Literal a false) on g h = elim (cases_Bool (has on a)) [ inl e ↦ absurd (h (g a e)) | inr e ↦ not_from_false (has on a) e ]
  sane_good (Line.And x y) on g h = refl
  sane_good (Line.Or x y) on g h = refl
  sane_good (Line.Always x) on g h = refl
  sane_good (Line.Eventually x) on g h = refl
  sane_good (Line.Next x) on g h = refl

  pub branch_good : (n : Node) (c : Choice) → Good t w c i (unfolded t n c) → branch t n c ≡ true
  unfolding branch position
  branch_good n c g =
      every_from (length t) (λ k. not (has (unfolded t n c).now k) || sane (line t k) (position t n c)) (λ k l.
      elim (cases_Bool (has (unfolded t n c).now k)) [
        | inl e ↦ or_right (not (has (unfolded t n c).now k)) (sane (line t k) (position t n c))
            (sane_good (line t k) (position t n c) (signals_good (unfolded t n c).now (length t) g.now) (opens k (g.now k e)))
        | inr e ↦ or_left (not (has (unfolded t n c).now k)) (sane (line t k) (position t n c)) (not_from_false (has (unfolded t n c).now k) e)
      ])
