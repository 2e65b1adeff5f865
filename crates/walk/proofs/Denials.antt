-- The signals that are denied are those needed off.
use Rattle.std.proofs.Common.{◌≡◌, ℕ, zero, suc, ◌<◌, Bool, true, false, cond, length, sym, refl, ap, ◌∙◌, subst, inl, inr, arith}
use Rattle.std.proofs.lemmas.Bool.{cases_Bool, cases_eq, both_ways}
use Rattle.tables.specs.declared.line.Line.{Line}
use Rattle.tables.specs.Lines.{Lines, line}
use Rattle.graph.specs.declared.node.Node.{Node}
use Rattle.graph.specs.Sets.{has}
use Rattle.graph.specs.Unfolding.{Choice, Asks}
use Rattle.graph.specs.Pass.{unfolded}
use Rattle.graph.proofs.Masks.{has_none, has_add_self, has_add_keep, has_add_from}
use Rattle.graph.proofs.Ordered.{Ordered}
use Rattle.graph.proofs.Appear.{now_appears, appears_now, appears_within}
use Rattle.walk.proofs.Gather.{unsign, denials}

Signed : Lines → ℕ → ℕ → ℕ → Type 0
Signed t now m s = (k : ℕ) × (k < m) × (has now k ≡ true) × (line t k ≡ Line.Literal s false)

unsign_from : (t : Lines) (now m s : ℕ) (l : Line) (g : ℕ) → line t m ≡ l → has now m ≡ true → (has g s ≡ true → Signed t now (suc m) s)
    → has (unsign l g) s ≡ true → Signed t now (suc m) s
unfolding Signed
unsign_from t now m s Line.True g e a ih h = ih h
unsign_from t now m s Line.False g e a ih h = ih h
unsign_from t now m s (Line.Literal x true) g e a ih h = ih h
unsign_from t now m s (Line.Literal x false) g e a ih h =
    elim (has_add_from g x s h) [ inl q ↦ (m, omega arith, a, e ∙ ap (λ (y : ℕ). Line.Literal y false) (sym q)) | inr q ↦ ih q ]
unsign_from t now m s (Line.And i j) g e a ih h = ih h
unsign_from t now m s (Line.Or i j) g e a ih h = ih h
unsign_from t now m s (Line.Always i) g e a ih h = ih h
unsign_from t now m s (Line.Eventually i) g e a ih h = ih h
unsign_from t now m s (Line.Next i) g e a ih h = ih h

denials_from : (t : Lines) (now m s : ℕ) → has (denials t m now) s ≡ true → Signed t now m s
unfolding denials Signed
denials_from t now zero s h = absurd (both_ways (has 0 s) (has_none s) h)
denials_from t now (suc m) s h =
    let more : has (denials t m now) s ≡ true → Signed t now (suc m) s = λ g. let r = denials_from t now m s g in let l : r.0 < m = r.1 in (r.0, omega arith, r.2, r.3) in
    let P : Bool → Type 0 = λ b. has (cond b (unsign (line t m) (denials t m now)) (denials t m now)) s ≡ true in
    elim (cases_Bool (has now m)) [
      | inl q ↦ unsign_from t now m s (line t m) (denials t m now) refl q more (subst P q h)
      | inr q ↦ more (subst P q h)
    ]

unsign_grows : (l : Line) (m s : ℕ) → has m s ≡ true → has (unsign l m) s ≡ true
unsign_grows Line.True m s h = h
unsign_grows Line.False m s h = h
unsign_grows (Line.Literal a true) m s h = h
unsign_grows (Line.Literal a false) m s h = has_add_keep m a s h
unsign_grows (Line.And x y) m s h = h
unsign_grows (Line.Or x y) m s h = h
unsign_grows (Line.Always x) m s h = h
unsign_grows (Line.Eventually x) m s h = h
unsign_grows (Line.Next x) m s h = h

denials_in : (t : Lines) (now m k s : ℕ) → k < m → has now k ≡ true → line t k ≡ Line.Literal s false → has (denials t m now) s ≡ true
unfolding denials
denials_in t now zero k s l h e = absurd (omega arith)
denials_in t now (suc m) k s l h e =
    elim (cases_eq k m) [
      | inl q ↦
          let hm : has now m ≡ true = subst (λ (x : ℕ). has now x ≡ true) q h in
          let em : line t m ≡ Line.Literal s false = sym (ap (line t) q) ∙ e in
          rw (hm, em) (has_add_self (denials t m now) s)
      | inr q ↦
          let ih : has (denials t m now) s ≡ true = denials_in t now m k s (omega arith) h e in
          elim (cases_Bool (has now m)) [ inl b ↦ rw b (unsign_grows (line t m) (denials t m now) s ih) | inr b ↦ rw b ih ]
    ]

pub denials_asks : (t : Lines) → Ordered t → (n : Node) (c : Choice) → Asks t n c false (denials t (length t) (unfolded t n c).now)
unfolding Signed
denials_asks t o n c s = (
  λ h. let r = denials_from t (unfolded t n c).now (length t) s h in (r.0, now_appears t n c r.0 r.2, r.3),
  λ h. denials_in t (unfolded t n c).now (length t) h.0 s (appears_within t n c o h.0 h.1) (appears_now t n c o h.0 h.1) h.2,
)
