-- The normal form has the truth of the formula, where truth is decided.
use Rattle.std.proofs.Common.{ℕ, suc, Bool, true, false, ◌↔◌, inl, inr}
use Rattle.rules.specs.declared.syntax.Atom.TheVariants.{True, False, Signal}
use Rattle.rules.specs.declared.syntax.Unary.TheVariants.{Not, Always, Eventually, Next}
use Rattle.rules.specs.declared.syntax.Binary.TheVariants.{And, Or, Implies, Equivalent}
use Rattle.rules.specs.Formula.{Formula, atom, unary, binary}
use Rattle.rules.specs.Runs.{Holds, Run, at}
use Rattle.rules.proofs.Truth.{run_dec}
use Rattle.tables.specs.Normal.{plain, nnf}

-- true at i, or false at i
abbrev Meant : Bool → Formula → (ℕ → ℕ) → ℕ → Type 0
Meant true f w i = Holds f w i
Meant false f w i = Holds f w i → ⊥

module _ (w : ℕ → ℕ) (dec : (f : Formula) (i : ℕ) → Dec (Holds f w i)) where
  twice : (f : Formula) (i : ℕ) → ((Holds f w i → ⊥) → ⊥) → Holds f w i
  twice f i h = elim (dec f i) [ yes x ↦ x | no n ↦ absurd (h n) ]

  -- a decided step from a denial
  either : (f : Formula) (i : ℕ) {X : Type 0} → (Holds f w i → X) → ((Holds f w i → ⊥) → X) → X
  either f i y n = elim (dec f i) [ yes x ↦ y x | no h ↦ n h ]

  nnf_right : (f : Formula) (b : Bool) (i : ℕ) → Holds (plain (nnf b f)) w i ↔ Meant b f w i
  nnf_right (atom True) true i = (λ h. h, λ h. h)
  nnf_right (atom True) false i = (λ h. absurd h, λ h. h tt)
  nnf_right (atom False) true i = (λ h. h, λ h. h)
  nnf_right (atom False) false i = (λ h x. x, λ h. tt)
  nnf_right (atom (Signal s)) true i = (λ h. h, λ h. h)
  nnf_right (atom (Signal s)) false i = (λ h. h, λ h. h)
  nnf_right (unary Not f) true i = nnf_right f false i
  nnf_right (unary Not f) false i = (λ h n. n ((nnf_right f true i).0 h), λ h. (nnf_right f true i).1 (twice f i h))
  nnf_right (unary Always f) true i = (λ h j l. (nnf_right f true j).0 (h j l), λ h j l. (nnf_right f true j).1 (h j l))
  nnf_right (unary Always f) false i = (
    λ h x. (nnf_right f false h.0).0 h.2 (x h.0 h.1),
    λ h. elim (dec (plain (nnf false (unary Always f))) i) [
      | yes x ↦ x
      | no n ↦ absurd (h (λ j l. twice f j (λ q. n (j, l, (nnf_right f false j).1 q))))
    ],
  )
  nnf_right (unary Eventually f) true i = (λ h. (h.0, h.1, (nnf_right f true h.0).0 h.2), λ h. (h.0, h.1, (nnf_right f true h.0).1 h.2))
  nnf_right (unary Eventually f) false i =
      (λ h x. (nnf_right f false x.0).0 (h x.0 x.1) x.2, λ h j l. (nnf_right f false j).1 (λ x. h (j, l, x)))
  nnf_right (unary Next f) true i = nnf_right f true (suc i)
  nnf_right (unary Next f) false i = nnf_right f false (suc i)
  nnf_right (binary And f g) true i =
      (λ h. ((nnf_right f true i).0 h.0, (nnf_right g true i).0 h.1), λ h. ((nnf_right f true i).1 h.0, (nnf_right g true i).1 h.1))
  nnf_right (binary And f g) false i = (
    λ h x. elim h [ inl p ↦ (nnf_right f false i).0 p x.0 | inr p ↦ (nnf_right g false i).0 p x.1 ],
    λ h. either f i (λ x. inr ((nnf_right g false i).1 (λ y. h (x, y)))) (λ n. inl ((nnf_right f false i).1 n)),
  )
  nnf_right (binary Or f g) true i = (
    λ h. elim h [ inl p ↦ inl ((nnf_right f true i).0 p) | inr p ↦ inr ((nnf_right g true i).0 p) ],
    λ h. elim h [ inl p ↦ inl ((nnf_right f true i).1 p) | inr p ↦ inr ((nnf_right g true i).1 p) ],
  )
  nnf_right (binary Or f g) false i = (
    λ h x. elim x [ inl p ↦ (nnf_right f false i).0 h.0 p | inr p ↦ (nnf_right g false i).0 h.1 p ],
    λ h. ((nnf_right f false i).1 (λ x. h (inl x)), (nnf_right g false i).1 (λ x. h (inr x))),
  )
  nnf_right (binary Implies f g) true i = (
    λ h x. elim h [ inl p ↦ absurd ((nnf_right f false i).0 p x) | inr p ↦ (nnf_right g true i).0 p ],
    λ h. either f i (λ x. inr ((nnf_right g true i).1 (h x))) (λ n. inl ((nnf_right f false i).1 n)),
  )
  nnf_right (binary Implies f g) false i = (
    λ h x. (nnf_right g false i).0 h.1 (x ((nnf_right f true i).0 h.0)),
    λ h. ((nnf_right f true i).1 (twice f i (λ n. h (λ x. absurd (n x)))), (nnf_right g false i).1 (λ y. h (λ x. y))),
  )
  nnf_right (binary Equivalent f g) true i = (
    λ h. elim h [
      | inl p ↦ (λ x. (nnf_right g true i).0 p.1, λ y. (nnf_right f true i).0 p.0)
      | inr p ↦ (λ x. absurd ((nnf_right f false i).0 p.0 x), λ y. absurd ((nnf_right g false i).0 p.1 y))
    ],
    λ h. either f i
        (λ x. inl ((nnf_right f true i).1 x, (nnf_right g true i).1 (h.0 x)))
        (λ n. inr ((nnf_right f false i).1 n, (nnf_right g false i).1 (λ y. n (h.1 y)))),
  )
  nnf_right (binary Equivalent f g) false i = (
    λ h x. elim h.0 [
      | inl p ↦ elim h.1 [
        | inl q ↦ (nnf_right f false i).0 p ((nnf_right f true i).0 q)
        | inr q ↦ (nnf_right f false i).0 p (x.1 ((nnf_right g true i).0 q))
      ]
      | inr p ↦ elim h.1 [
        | inl q ↦ (nnf_right g false i).0 p (x.0 ((nnf_right f true i).0 q))
        | inr q ↦ (nnf_right g false i).0 p ((nnf_right g true i).0 q)
      ]
    ],
    λ h. either f i
        (λ x. (inr ((nnf_right g false i).1 (λ y. h (λ z. y, λ z. x))), inl ((nnf_right f true i).1 x)))
        (λ n. (inl ((nnf_right f false i).1 n), inr ((nnf_right g true i).1 (twice g i (λ m. h (λ z. absurd (n z), λ z. absurd (m z))))))),
  )

-- at every time of a run the normal form is true where the formula is, and that of the negation where it is not
pub normal_sound : (f : Formula) (r : Run) (i : ℕ)
    → (Holds (plain (nnf true f)) (at r) i ↔ Holds f (at r) i) × (Holds (plain (nnf false f)) (at r) i ↔ (Holds f (at r) i → ⊥))
normal_sound f r i = (nnf_right (at r) (λ g j. run_dec g r j) f true i, nnf_right (at r) (λ g j. run_dec g r j) f false i)
