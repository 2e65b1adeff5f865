-- A line is true just where its row, the row after and the position tell so.
use Rattle.std.proofs.Common.{◌≡◌, ℕ, suc, ◌<◌, ◌≤◌, Bool, true, false, not, ◌⊎◌, ◌↔◌, refl, subst, inl, inr, arith}
use Rattle.std.proofs.lemmas.Bool.{cases_Bool, cases_eq, both_ways, false≢true, or_cases, or_left, or_right, and_parts, and_from, not-true, not_from_false}
use Rattle.rules.specs.declared.syntax.Unary.TheVariants.{Always, Eventually}
use Rattle.rules.specs.Formula.{Formula, unary}
use Rattle.rules.specs.Runs.{Holds}
use Rattle.tables.specs.declared.line.Line.{Line}
use Rattle.graph.specs.Sets.{has}
use Rattle.graph.proofs.Ordered.{Under, build}
use Rattle.truth.specs.Passes.{told}

-- lines of □ and ◇ are told by their own truth in the row after
abbrev pub lasting : Line → Bool
lasting Line.True = false
lasting Line.False = false
lasting (Line.Literal s b) = false
lasting (Line.And x y) = false
lasting (Line.Or x y) = false
lasting (Line.Always x) = true
lasting (Line.Eventually x) = true
lasting (Line.Next x) = false

-- now and from the next time on
always_iff : (f : Formula) (w : ℕ → ℕ) (i : ℕ) → (Holds f w i × Holds (unary Always f) w (suc i)) ↔ Holds (unary Always f) w i
always_iff f w i = (
  λ h j l. elim (cases_eq i j) [ inl e ↦ subst (Holds f w) e h.0 | inr n ↦ h.1 j (omega arith) ],
  λ h. (h i (omega arith), λ j l. h j (omega arith)),
)

eventually_iff : (f : Formula) (w : ℕ → ℕ) (i : ℕ) → (Holds f w i ⊎ Holds (unary Eventually f) w (suc i)) ↔ Holds (unary Eventually f) w i
eventually_iff f w i = (
  λ h. elim h [ inl x ↦ (i, omega arith, x) | inr x ↦ let l : suc i ≤ x.0 = x.1 in (x.0, omega arith, x.2) ],
  λ h.
      let l : i ≤ h.0 = h.1 in
      elim (cases_eq i h.0) [ inl e ↦ inl (rw e h.2) | inr n ↦ inr (h.0, omega arith, h.2) ],
)

not_iff : (b : Bool) → (not b ≡ true) ↔ (b ≡ true → ⊥)
not_iff b = (
  λ e x. both_ways b (not-true b e) x,
  λ h. elim (cases_Bool b) [ inl e ↦ absurd (h e) | inr e ↦ not_from_false b e ],
)

module _ (k : ℕ) (F : ℕ → Formula) (w : ℕ → ℕ) (i row after : ℕ) where
  pub told_iff : (l : Line) → Under l k
      → ((x : ℕ) → x < k → (has row x ≡ true) ↔ Holds (F x) w i)
      → ((x : ℕ) → x < k → (has after x ≡ true) ↔ Holds (F x) w (suc i))
      → (lasting l ≡ true → (has after k ≡ true) ↔ Holds (build l F) w (suc i))
      → (told l k row after (w i) ≡ true) ↔ Holds (build l F) w i
  told_iff Line.True u h n s = (λ e. tt, λ e. refl)
  told_iff Line.False u h n s = (λ e. false≢true e, λ e. absurd e)
  told_iff (Line.Literal b true) u h n s = (λ e. e, λ e. e)
  told_iff (Line.Literal b false) u h n s = not_iff (has (w i) b)
  told_iff (Line.And x y) u h n s = (
    λ e. let q = and_parts (has row x) (has row y) e in ((h x u.0).0 q.0, (h y u.1).0 q.1),
    λ e. and_from (has row x) (has row y) ((h x u.0).1 e.0) ((h y u.1).1 e.1),
  )
  told_iff (Line.Or x y) u h n s = (
    λ e. elim (or_cases (has row x) (has row y) e) [ inl q ↦ inl ((h x u.0).0 q) | inr q ↦ inr ((h y u.1).0 q) ],
    λ e. elim e [ inl q ↦ or_left (has row x) (has row y) ((h x u.0).1 q) | inr q ↦ or_right (has row x) (has row y) ((h y u.1).1 q) ],
  )
  told_iff (Line.Always x) u h n s = (
    λ e. let q = and_parts (has row x) (has after k) e in (always_iff (F x) w i).0 ((h x u).0 q.0, (s refl).0 q.1),
    λ e. let q = (always_iff (F x) w i).1 e in and_from (has row x) (has after k) ((h x u).1 q.0) ((s refl).1 q.1),
  )
  told_iff (Line.Eventually x) u h n s = (
    λ e. (eventually_iff (F x) w i).0 (elim (or_cases (has row x) (has after k) e) [ inl q ↦ inl ((h x u).0 q) | inr q ↦ inr ((s refl).0 q) ]),
    λ e. elim ((eventually_iff (F x) w i).1 e) [ inl q ↦ or_left (has row x) (has after k) ((h x u).1 q) | inr q ↦ or_right (has row x) (has after k) ((s refl).1 q) ],
  )
  told_iff (Line.Next x) u h n s = n x u
