-- After the last position comes the cycle's first: what is true there is true after the last.
use Rattle.std.proofs.Common.{◌≡◌, ℕ, zero, suc, ◌+◌, ◌-◌, ◌<◌, ◌≤◌, Bool, true, ◌↔◌, List, length, get_or, subst, inl, inr, arith}
use Rattle.std.proofs.lemmas.Bool.{cases_lt, false≢true}
use Rattle.rules.specs.declared.syntax.Unary.TheVariants.{Always, Eventually}
use Rattle.rules.specs.Formula.{Formula, unary}
use Rattle.rules.specs.Runs.{Holds, Run, at}
use Rattle.rules.proofs.Truth.{a_turn, turn_back}
use Rattle.tables.specs.declared.line.Line.{Line}
use Rattle.graph.specs.Sets.{has}
use Rattle.graph.proofs.Ordered.{Under, build}
use Rattle.truth.specs.Passes.{Begins}
use Rattle.truth.proofs.Told.{lasting}

module _ (r : Run) where
  abbrev a : ℕ
  a = length r.lead

  abbrev p : ℕ
  p = length r.cycle

  pub turned : (f : Formula) → Holds f (at r) a ↔ Holds f (at r) (a + p)
  turned f = (turn_back r f a (omega arith), a_turn r f a (omega arith))

  -- what is true in all of the cycle is true from then on
  all_from : (f : Formula) → ((j : ℕ) → j < p → Holds f (at r) (a + j)) → (n j : ℕ) → j < n → a ≤ j → Holds f (at r) j
  all_from f h zero j l g = absurd (omega arith)
  all_from f h (suc n) j l g =
      let pos : 0 < p = r.lasts in
      elim (cases_lt j (a + p)) [
        | inl s ↦ let e : a + (j - a) ≡ j = omega arith in subst (Holds f (at r)) e (h (j - a) (omega arith))
        | inr s ↦
            let e : (j - p) + p ≡ j = omega arith in
            subst (Holds f (at r)) e (turn_back r f (j - p) (omega arith) (all_from f h n (j - p) (omega arith) (omega arith)))
      ]

  always_turned : (f : Formula) → ((j : ℕ) → j < p → Holds f (at r) (a + j)) ↔ Holds (unary Always f) (at r) (a + p)
  always_turned f = (
    λ h j l. all_from f h (suc j) j (omega arith) (omega arith),
    λ h j l. a_turn r f (a + j) (omega arith) (h ((a + j) + p) (omega arith)),
  )

  -- what is true at some time past the lead-in is true somewhere in the cycle
  some_in : (f : Formula) (n j : ℕ) → j < n → a ≤ j → Holds f (at r) j → (d : ℕ) × (d < p) × Holds f (at r) (a + d)
  some_in f zero j l g h = absurd (omega arith)
  some_in f (suc n) j l g h =
      let pos : 0 < p = r.lasts in
      elim (cases_lt j (a + p)) [
        | inl s ↦ let e : j ≡ a + (j - a) = omega arith in (j - a, omega arith, subst (Holds f (at r)) e h)
        | inr s ↦
            let e : j ≡ (j - p) + p = omega arith in
            some_in f n (j - p) (omega arith) (omega arith) (a_turn r f (j - p) (omega arith) (subst (Holds f (at r)) e h))
      ]

  eventually_turned : (f : Formula) → ((d : ℕ) × (d < p) × Holds f (at r) (a + d)) ↔ Holds (unary Eventually f) (at r) (a + p)
  eventually_turned f = (
    λ h. ((a + h.0) + p, omega arith, turn_back r f (a + h.0) (omega arith) h.2),
    λ h. let l : a + p ≤ h.0 = h.1 in some_in f (suc h.0) h.0 (omega arith) (omega arith) h.2,
  )

  module _ (k : ℕ) (F : ℕ → Formula) (rows : List ℕ) (b : Bool) where
    pub begins_iff : (l : Line) → Under l k → length rows ≡ p
        → ((j : ℕ) → j < p → (x : ℕ) → x < k → (has (get_or rows j 0) x ≡ true) ↔ Holds (F x) (at r) (a + j))
        → Begins l rows b → lasting l ≡ true → (b ≡ true) ↔ Holds (build l F) (at r) (a + p)
    begins_iff Line.True u e h d s = absurd (false≢true s)
    begins_iff Line.False u e h d s = absurd (false≢true s)
    begins_iff (Line.Literal v t) u e h d s = absurd (false≢true s)
    begins_iff (Line.And x y) u e h d s = absurd (false≢true s)
    begins_iff (Line.Or x y) u e h d s = absurd (false≢true s)
    begins_iff (Line.Always x) u e h d s = (
      λ q. (always_turned (F x)).0 (λ j l. (h j l x u).0 (d.0 q j (omega arith))),
      λ q. d.1 (λ j l. let m : j < p = omega arith in (h j m x u).1 ((always_turned (F x)).1 q j m)),
    )
    begins_iff (Line.Eventually x) u e h d s = (
      λ q.
          let y = d.0 q in
          let l : y.0 < length rows = y.1 in
          let m : y.0 < p = omega arith in
          (eventually_turned (F x)).0 (y.0, m, (h y.0 m x u).0 y.2),
      λ q.
          let y = (eventually_turned (F x)).1 q in
          let l : y.0 < p = y.1 in
          d.1 (y.0, omega arith, (h y.0 l x u).1 y.2),
    )
    begins_iff (Line.Next x) u e h d s = absurd (false≢true s)
