-- A text has one answer, and so have the texts of a question.
use Rattle.std.proofs.Common.{◌≡◌, ℕ, ◌<◌, List, [], length, Some, Ok, Err, Result, sym, ap, ◌∙◌, subst, ap₂, inl, inr, arith}
use Rattle.rules.specs.declared.refusal.FaultKind.{FaultKind}
use Rattle.rules.specs.declared.refusal.Refusal.{Refusal}
use Rattle.rules.specs.Formula.{Formula, spell}
use Rattle.rules.specs.Refusals.{refusal_of}
use Rattle.rules.specs.Rules.{Spells, Faults, Lengthy, Refused}
use Rattle.rules.specs.Text.{lexed}
use Rattle.rules.proofs.Firstness.{first_only}
use Rattle.rules.proofs.Judging.{complete, unique}
use Rattle.tables.specs.declared.question.Question.{Question}
use Rattle.tables.specs.Numbering.{tabled}
use Rattle.tables.specs.Limits.{Within, Exceeds}
use Rattle.tables.specs.Questions.{Asked, keeps, breaks, both, form_of, Says, Fails, Texts, Refuses, QuestionOf, Alone}

module _ (ns text : List ℕ) where
  one_formula : (f g : Formula) → Spells ns text f → Spells ns text g → f ≡ g
  one_formula f g a b = let e : Some (spell f) ≡ Some (spell g) = sym a ∙ b in let h : spell f ≡ spell g = cc in unique f g h

  no_fault : (f : Formula) (k : FaultKind) (o : ℕ) → Spells ns text f → Faults ns text k o → ⊥
  no_fault f k o a b =
      let e = complete (length text) (lexed ns text 0) f a in
      let g = first_only (length text) (lexed ns text 0) k o b in
      let z : ◌≡◌ {A = ℕ} 0 1 = cc in omega arith

  one_fault : (k j : FaultKind) (o p : ℕ) → Faults ns text k o → Faults ns text j p → refusal_of k o ≡ refusal_of j p
  one_fault k j o p a b =
      let e = first_only (length text) (lexed ns text 0) k o a in
      let g = first_only (length text) (lexed ns text 0) j p b in
      let x : k ≡ j = cc in
      let y : o ≡ p = cc in
      cc

  not_refused : (f : Formula) (e : Refusal) → Lengthy text → Spells ns text f → Refused ns text e → ⊥
  not_refused f e l s (inl h) = h.0 l
  not_refused f e l s (inr h) = no_fault f h.1.0 h.1.1 s h.1.3

  one_refused : (d e : Refusal) → Refused ns text d → Refused ns text e → d ≡ e
  one_refused d e (inl a) (inl b) = a.1 ∙ sym b.1
  one_refused d e (inl a) (inr b) = absurd (a.0 b.0)
  one_refused d e (inr a) (inl b) = absurd (b.0 a.0)
  one_refused d e (inr a) (inr b) = a.1.2 ∙ one_fault _ _ _ _ a.1.3 b.1.3 ∙ sym b.1.2

  not_exceeds : (f : Formula) (e : Refusal) → Within f → Exceeds f e → ⊥
  not_exceeds f e w (inl h) = w.short h.0
  not_exceeds f e w (inr h) = w.few h.1

  one_excess : (f : Formula) (d e : Refusal) → Exceeds f d → Exceeds f e → d ≡ e
  one_excess f d e (inl a) (inl b) = a.1 ∙ sym b.1
  one_excess f d e (inl a) (inr b) = absurd (b.0 a.0)
  one_excess f d e (inr a) (inl b) = absurd (a.0 b.0)
  one_excess f d e (inr a) (inr b) = a.2 ∙ sym b.2

  one_rule : (f g : Formula) → Says ns text f → Says ns text g → f ≡ g
  one_rule f g a b = one_formula f g a.spells b.spells

  not_both : (f : Formula) (e : Refusal) → Says ns text f → Fails ns text e → ⊥
  not_both f e a (inl h) = not_refused f e a.lengthy a.spells h
  not_both f e a (inr h) = not_exceeds f e a.within (subst (λ (g : Formula). Exceeds g e) (one_formula h.0 f h.2 a.spells) h.3)

  one_failure : (d e : Refusal) → Fails ns text d → Fails ns text e → d ≡ e
  one_failure d e (inl a) (inl b) = one_refused d e a b
  one_failure d e (inl a) (inr b) = absurd (not_refused b.0 d b.1 b.2 a)
  one_failure d e (inr a) (inl b) = absurd (not_refused a.0 e a.1 a.2 b)
  one_failure d e (inr a) (inr b) = one_excess b.0 d e (subst (λ (g : Formula). Exceeds g d) (one_formula a.0 b.0 a.2 b.2) a.3) b.3

  -- an absent rule says nothing
  not_absent : (f : Formula) → Says ns text f → text ≡ [] → ⊥
  not_absent f a e = omega (arith, a.lengthy.0, ap length e)

  no_length : 0 < length text → text ≡ [] → ⊥
  no_length h e = omega (arith, ap length e)

module _ (ns x y : List ℕ) where
  one_asked : (a b : Asked) → Texts ns x y a → Texts ns x y b → a ≡ b
  one_asked (keeps f) (keeps g) p q = ap keeps (one_rule ns x f g p.0 q.0)
  one_asked (keeps f) (breaks g) p q = absurd (not_absent ns x f p.0 q.0)
  one_asked (keeps f) (both g h) p q = absurd (not_absent ns y h q.1 p.1)
  one_asked (breaks f) (keeps g) p q = absurd (not_absent ns x g q.0 p.0)
  one_asked (breaks f) (breaks g) p q = ap breaks (one_rule ns y f g p.1 q.1)
  one_asked (breaks f) (both g h) p q = absurd (not_absent ns x g q.0 p.0)
  one_asked (both f k) (keeps g) p q = absurd (not_absent ns y k p.1 q.1)
  one_asked (both f k) (breaks g) p q = absurd (not_absent ns x f p.0 q.0)
  one_asked (both f k) (both g h) p q = ap₂ both (one_rule ns x f g p.0 q.0) (one_rule ns y k h p.1 q.1)

  not_answered : (a : Asked) (e : Refusal) → Texts ns x y a → Refuses ns x y e → ⊥
  not_answered (keeps f) e p (inl r) = not_absent ns x f p.0 r.0
  not_answered (keeps f) e p (inr (inl r)) = not_both ns x f e p.0 r.1
  not_answered (keeps f) e p (inr (inr r)) = no_length ns y r.2 p.1
  not_answered (breaks g) e p (inl r) = not_both ns y g e p.1 r.1
  not_answered (breaks g) e p (inr (inl r)) = no_length ns x r.0 p.0
  not_answered (breaks g) e p (inr (inr r)) = not_absent ns x r.0 r.1 p.0
  not_answered (both f g) e p (inl r) = not_absent ns x f p.0 r.0
  not_answered (both f g) e p (inr (inl r)) = not_both ns x f e p.0 r.1
  not_answered (both f g) e p (inr (inr r)) = not_both ns y g e p.1 r.3

  one_refusal : (d e : Refusal) → Refuses ns x y d → Refuses ns x y e → d ≡ e
  one_refusal d e (inl a) (inl b) = one_failure ns y d e a.1 b.1
  one_refusal d e (inl a) (inr (inl b)) = absurd (no_length ns x b.0 a.0)
  one_refusal d e (inl a) (inr (inr b)) = absurd (not_absent ns x b.0 b.1 a.0)
  one_refusal d e (inr (inl a)) (inl b) = absurd (no_length ns x a.0 b.0)
  one_refusal d e (inr (inl a)) (inr (inl b)) = one_failure ns x d e a.1 b.1
  one_refusal d e (inr (inl a)) (inr (inr b)) = absurd (not_both ns x b.0 d b.1 a.1)
  one_refusal d e (inr (inr a)) (inl b) = absurd (not_absent ns x a.0 a.1 b.0)
  one_refusal d e (inr (inr a)) (inr (inl b)) = absurd (not_both ns x a.0 e a.1 b.1)
  one_refusal d e (inr (inr a)) (inr (inr b)) = one_failure ns y d e a.3 b.3

  pub alone : (r : Result Question Refusal) → QuestionOf ns x y r → Alone ns x y r
  alone (Ok p) a (Ok q) b = a.2.numbered ∙ ap (λ (z : Asked). tabled (form_of z)) (one_asked a.0 b.0 a.1 b.1) ∙ sym b.2.numbered
  alone (Ok p) a (Err e) b = not_answered a.0 e a.1 b
  alone (Err d) a (Ok q) b = not_answered b.0 d b.1 a
  alone (Err d) a (Err e) b = one_refusal d e a b
