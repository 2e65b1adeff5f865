-- The truths that are computed place by place are the truths on the run.
use Rattle.std.proofs.Common.{◌≡◌, ℕ, zero, suc, ◌+◌, ◌-◌, ◌<◌, ◌≤◌, min, Bool, true, false, not, ◌&&◌, ◌||◌, ltb, ◌⊎◌, ◌↔◌, length, sym, refl, ap, subst, ap₂, inl, inr, arith}
use Rattle.std.proofs.lemmas.Bool.{cases_Bool, cases_lt, both_ways, or_cases, or_left, or_right, or_parts, and_parts, and_from, not-true, not-false, not_from_false, ltb-true, ltb-false, lt-ltb, le-ltb, cond-true, cond-false}
use Rattle.graph.specs.Sets.{has, set_of, every}
use Rattle.rules.specs.declared.syntax.Unary.TheVariants.{Always, Eventually}
use Rattle.rules.specs.Formula.{Formula, unary}
use Rattle.rules.specs.Runs.{Holds, Run, at, Keeps}
use Rattle.tables.specs.Lines.{Lines, line, formula, root}
use Rattle.graph.proofs.Ordered.{Under, Ordered, build, formula_line, stand_under, ordered_earlier}
use Rattle.graph.specs.Truths.{span, after, on_every, row_of, row, meets}
use Rattle.tables.proofs.Forms.{values_at}
use Rattle.tables.specs.declared.line.Line.{Line}
use Rattle.graph.proofs.Masks.{has_none, set_of_from, set_of_in, every_at, every_from, every_fails}
use Rattle.rules.proofs.Truth.{a_turn, turn_back}

set_of_iff : (n : ℕ) (f : ℕ → Bool) (i : ℕ) → i < n → (X : Type 0) → ((f i ≡ true) ↔ X) → (has (set_of n f) i ≡ true) ↔ X
set_of_iff n f i l X e = (λ h. e.0 (set_of_from n f i h).1, λ x. set_of_in n f i l (e.1 x))

module _ (r : Run) where
  abbrev a : ℕ
  a = length r.lead

  abbrev p : ℕ
  p = length r.cycle

  -- times from place i on, and the places they fall on
  always_from : (f : Formula) (i : ℕ) → ((j : ℕ) → min i a ≤ j → j < a + p → Holds f (at r) j) → (n j : ℕ) → j < n → min i a ≤ j → Holds f (at r) j
  always_from f i h zero j l g = absurd (omega arith)
  always_from f i h (suc n) j l g =
      let pos : 0 < p = r.lasts in
      elim (cases_lt j (a + p)) [
        | inl s ↦ h j g s
        | inr s ↦
            let e : (j - p) + p ≡ j = omega arith in
            subst (Holds f (at r)) e (turn_back r f (j - p) (omega arith) (always_from f i h n (j - p) (omega arith) (omega arith)))
      ]

  always_at : (f : Formula) (i : ℕ) → i < a + p → Holds (unary Always f) (at r) i → (j : ℕ) → min i a ≤ j → j < a + p → Holds f (at r) j
  always_at f i l h j g s =
      elim (cases_lt j i) [
        | inr q ↦ h j q
        | inl q ↦ a_turn r f j (omega arith) (h (j + p) (omega arith))
      ]

  eventually_at : (f : Formula) (i : ℕ) → (n j : ℕ) → j < n → min i a ≤ j → Holds f (at r) j → (k : ℕ) × (min i a ≤ k) × (k < a + p) × Holds f (at r) k
  eventually_at f i zero j l g h = absurd (omega arith)
  eventually_at f i (suc n) j l g h =
      let pos : 0 < p = r.lasts in
      elim (cases_lt j (a + p)) [
        | inl s ↦ (j, g, s, h)
        | inr s ↦
            let e : j ≡ (j - p) + p = omega arith in
            eventually_at f i n (j - p) (omega arith) (omega arith) (a_turn r f (j - p) (omega arith) (subst (Holds f (at r)) e h))
      ]

  eventually_from : (f : Formula) (i : ℕ) → i < a + p → (j : ℕ) → min i a ≤ j → j < a + p → Holds f (at r) j → Holds (unary Eventually f) (at r) i
  eventually_from f i l j g s h =
      elim (cases_lt j i) [
        | inr q ↦ (j, q, h)
        | inl q ↦ (j + p, omega arith, turn_back r f j (omega arith) h)
      ]

  next_iff : (f : Formula) (i : ℕ) → i < a + p → Holds f (at r) (after r i) ↔ Holds f (at r) (suc i)
  unfolding after
  next_iff f i l =
      elim (cases_lt (suc i) (a + p)) [
        | inl s ↦ rw (cond-true (ltb (suc i) (a + p)) (suc i) a (lt-ltb (suc i) (a + p) s)) (λ h. h, λ h. h)
        | inr s ↦
            let e : a + p ≡ suc i = omega arith in
            rw (cond-false (ltb (suc i) (a + p)) (suc i) a (le-ltb (suc i) (a + p) s)) (
              λ h. subst (Holds f (at r)) e (turn_back r f a (omega arith) h),
              λ h. a_turn r f a (omega arith) (subst (Holds f (at r)) (sym e) h),
            )
      ]

  after_lt : (i : ℕ) → after r i < a + p
  unfolding after
  after_lt i =
      let pos : 0 < p = r.lasts in
      elim (cases_lt (suc i) (a + p)) [
        | inl s ↦ rw (cond-true (ltb (suc i) (a + p)) (suc i) a (lt-ltb (suc i) (a + p) s)) s
        | inr s ↦ rw (cond-false (ltb (suc i) (a + p)) (suc i) a (le-ltb (suc i) (a + p) s)) (omega arith)
      ]

  -- a mask that has the places where a formula is true
  Agrees : ℕ → Formula → Type 0
  Agrees m f = (i : ℕ) → i < a + p → (has m i ≡ true) ↔ Holds f (at r) i

  always_agrees : (m : ℕ) (f : Formula) → Agrees m f → (i : ℕ) → i < a + p → (on_every r i (has m) ≡ true) ↔ Holds (unary Always f) (at r) i
  unfolding Agrees on_every
  always_agrees m f g i l = (
    λ h j q.
        always_from f i (λ k b s.
        elim (or_cases (ltb k (min i a)) (has m k) (every_at (a + p) (λ j. ltb j (min i a) || has m j) h k s)) [
          | inl e ↦ absurd (omega (arith, ltb-true k (min i a) e))
          | inr e ↦ (g k s).0 e
        ]) (suc j) j (omega arith) (omega arith),
    λ h. every_from (a + p) (λ j. ltb j (min i a) || has m j) (λ k s.
        elim (cases_lt k (min i a)) [
          | inl b ↦ or_left (ltb k (min i a)) (has m k) (lt-ltb k (min i a) b)
          | inr b ↦ or_right (ltb k (min i a)) (has m k) ((g k s).1 (always_at f i l h k b s))
        ]),
  )

  eventually_agrees : (m : ℕ) (f : Formula) → Agrees m f → (i : ℕ) → i < a + p → (not (on_every r i (λ j. not (has m j))) ≡ true) ↔ Holds (unary Eventually f) (at r) i
  unfolding Agrees on_every
  eventually_agrees m f g i l =
      let t : ℕ → Bool = λ j. ltb j (min i a) || not (has m j) in (
        λ h.
            let x = every_fails (a + p) t (not-true (every (a + p) t) h) in
            let y = or_parts (ltb x.0 (min i a)) (not (has m x.0)) x.2 in
            eventually_from f i l x.0 (ltb-false x.0 (min i a) y.0) x.1 ((g x.0 x.1).0 (not-false (has m x.0) y.1)),
        λ h.
            let b : i ≤ h.0 = h.1 in
            let x = eventually_at f i (suc h.0) h.0 (omega arith) (omega arith) h.2 in
            let k : ℕ = x.0 in
            not_from_false (every (a + p) t)
            (elim (cases_Bool (every (a + p) t)) [
              | inr e ↦ e
              | inl e ↦ absurd (elim (or_cases (ltb k (min i a)) (not (has m k)) (every_at (a + p) t e k x.2)) [
                | inl q ↦ let c : min i a ≤ k = x.1 in omega (arith, ltb-true k (min i a) q)
                | inr q ↦ both_ways (has m k) (not-true (has m k) q) ((g k x.2).1 x.3)
              ])
            ]),
      )

  line_agrees : (l : Line) (k : ℕ) (R : ℕ → ℕ) (F : ℕ → Formula) → Under l k → ((x : ℕ) → x < k → Agrees (R x) (F x)) → Agrees (row_of r l R) (build l F)
  unfolding Agrees row_of
  line_agrees Line.True k R F u h i s = set_of_iff (a + p) (λ i. true) i s (Unit {0}) (λ e. tt, λ e. refl)
  line_agrees Line.False k R F u h i s = (λ e. both_ways (has 0 i) (has_none i) e, λ e. absurd e)
  line_agrees (Line.Literal b true) k R F u h i s = set_of_iff (a + p) (λ i. has (at r i) b) i s (has (at r i) b ≡ true) (λ e. e, λ e. e)
  line_agrees (Line.Literal b false) k R F u h i s =
      set_of_iff (a + p) (λ i. not (has (at r i) b)) i s (has (at r i) b ≡ true → ⊥) (
        λ e x. both_ways (has (at r i) b) (not-true (has (at r i) b) e) x,
        λ e. elim (cases_Bool (has (at r i) b)) [ inl q ↦ absurd (e q) | inr q ↦ not_from_false (has (at r i) b) q ],
      )
  line_agrees (Line.And x y) k R F u h i s =
      set_of_iff (a + p) (λ i. has (R x) i && has (R y) i) i s (Holds (F x) (at r) i × Holds (F y) (at r) i) (
        λ e. let q = and_parts (has (R x) i) (has (R y) i) e in ((h x u.0 i s).0 q.0, (h y u.1 i s).0 q.1),
        λ e. and_from (has (R x) i) (has (R y) i) ((h x u.0 i s).1 e.0) ((h y u.1 i s).1 e.1),
      )
  line_agrees (Line.Or x y) k R F u h i s =
      set_of_iff (a + p) (λ i. has (R x) i || has (R y) i) i s (Holds (F x) (at r) i ⊎ Holds (F y) (at r) i) (
        λ e. elim (or_cases (has (R x) i) (has (R y) i) e) [ inl q ↦ inl ((h x u.0 i s).0 q) | inr q ↦ inr ((h y u.1 i s).0 q) ],
        λ e. elim e [ inl q ↦ or_left (has (R x) i) (has (R y) i) ((h x u.0 i s).1 q) | inr q ↦ or_right (has (R x) i) (has (R y) i) ((h y u.1 i s).1 q) ],
      )
  line_agrees (Line.Always x) k R F u h i s =
      set_of_iff (a + p) (λ i. on_every r i (has (R x))) i s (Holds (unary Always (F x)) (at r) i) (always_agrees (R x) (F x) (h x u) i s)
  line_agrees (Line.Eventually x) k R F u h i s =
      set_of_iff (a + p) (λ i. not (on_every r i (λ j. not (has (R x) j)))) i s (Holds (unary Eventually (F x)) (at r) i) (eventually_agrees (R x) (F x) (h x u) i s)
  line_agrees (Line.Next x) k R F u h i s =
      set_of_iff (a + p) (λ i. has (R x) (after r i)) i s (Holds (F x) (at r) (suc i))
      (λ e. (next_iff (F x) i s).0 ((h x u (after r i) (after_lt i)).0 e), λ e. (h x u (after r i) (after_lt i)).1 ((next_iff (F x) i s).1 e))

  row_same : (l : Line) (n : ℕ) (f g : ℕ → ℕ) → Under l n → ((i : ℕ) → i < n → f i ≡ g i) → row_of r l f ≡ row_of r l g
  unfolding row_of
  row_same Line.True n f g u h = refl
  row_same Line.False n f g u h = refl
  row_same (Line.Literal s true) n f g u h = refl
  row_same (Line.Literal s false) n f g u h = refl
  row_same (Line.And x y) n f g u h = ap₂ (λ (m m' : ℕ). set_of (a + p) (λ i. has m i && has m' i)) (h x u.0) (h y u.1)
  row_same (Line.Or x y) n f g u h = ap₂ (λ (m m' : ℕ). set_of (a + p) (λ i. has m i || has m' i)) (h x u.0) (h y u.1)
  row_same (Line.Always x) n f g u h = ap (λ (m : ℕ). set_of (a + p) (λ i. on_every r i (has m))) (h x u)
  row_same (Line.Eventually x) n f g u h = ap (λ (m : ℕ). set_of (a + p) (λ i. not (on_every r i (λ j. not (has m j))))) (h x u)
  row_same (Line.Next x) n f g u h = ap (λ (m : ℕ). set_of (a + p) (λ i. has m (after r i))) (h x u)

  module _ (t : Lines) (o : Ordered t) where
    row_line : (k : ℕ) → k < length t → row r t k ≡ row_of r (line t k) (row r t)
    unfolding row
    row_line k l = values_at 0 (row_of r) (λ l n f g u h. row_same l n f g (stand_under l n u) h) t (ordered_earlier t o) k l

    rows_agree : (m k : ℕ) → k < m → k < length t → Agrees (row r t k) (formula t k)
    rows_agree zero k g l = absurd (omega arith)
    rows_agree (suc m) k g l =
        rw (row_line k l, formula_line t o k l)
        (line_agrees (line t k) k (row r t) (formula t) (o.earlier k l) (λ x b. rows_agree m x (omega arith) (omega arith)))

pub check_sound : (t : Lines) → Ordered t → (r : Run)
    → ((k : ℕ) → k < length t → (i : ℕ) → i < span r → (has (row r t k) i ≡ true) ↔ Holds (formula t k) (at r) i)
    × ((meets r t ≡ true) ↔ Keeps (root t) r)
unfolding Agrees meets
check_sound t o r =
    let pos : 0 < length r.cycle = r.lasts in (
      λ k l. rows_agree r t o (length t) k l l,
      rows_agree r t o (length t) (length t - 1) (omega (arith, o.some)) (omega (arith, o.some)) 0 (omega arith),
    )
