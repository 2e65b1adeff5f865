-- What the reading of a rule text answers, it alone answers.
use Rattle.std.proofs.Common.{◌≡◌, ℕ, ◌-◌, List, [], ◌∷◌, length, Some, Ok, Err, Result, sym, ap, ◌∙◌, subst, inl, inr, arith}
use Rattle.rules.specs.declared.refusal.FaultKind.{FaultKind}
use Rattle.rules.specs.declared.refusal.Refusal.{Refusal}
use Rattle.rules.specs.declared.syntax.Entry.{Entry}
use Rattle.rules.specs.declared.arena.Rule.{Rule}
use Rattle.rules.specs.declared.reader.Reader.{Reader}
use Rattle.rules.specs.Refusals.{refusal_of}
use Rattle.rules.specs.Formula.{Formula, spell}
use Rattle.rules.specs.Entries.{meaning, last_meaning}
use Rattle.rules.specs.Text.{Lexed, done, lexed}
use Rattle.rules.specs.Owed.{formula, judge, said, Splits}
use Rattle.rules.specs.Words.{ahead}
use Rattle.rules.specs.Rules.{Formed, formula_of, Spells, Faults, ReadAs, Alone, Divides, Grammar}
use Rattle.rules.proofs.Firstness.{fault_first, first_only}
use Rattle.rules.proofs.Forming.{after_formed}
use Rattle.rules.proofs.Pinned.{reads_determined}
use Rattle.rules.proofs.Judging.{owed_exact, complete, unique, splits_said}
use Rattle.rules.proofs.Truth.{run_decided}

pub grammar_stands : Grammar
grammar_stands = record { owed = owed_exact; first = fault_first; only = first_only; token = reads_determined }

one_formula : (ns text : List ℕ) (f g : Formula) → Spells ns text f → Spells ns text g → f ≡ g
one_formula ns text f g a b = let e : Some (spell f) ≡ Some (spell g) = sym a ∙ b in let h : spell f ≡ spell g = cc in unique f g h

-- what spells a formula has no fault
no_fault : (ns text : List ℕ) (f : Formula) (k : FaultKind) (o : ℕ) {P : Type 0} → Spells ns text f → Faults ns text k o → P
no_fault ns text f k o a b =
    let e = complete (length text) (lexed ns text 0) f a in
    let g = first_only (length text) (lexed ns text 0) k o b in
    absurd cc

one_fault : (ns text : List ℕ) (k j : FaultKind) (o p : ℕ) → Faults ns text k o → Faults ns text j p → refusal_of k o ≡ refusal_of j p
one_fault ns text k j o p a b =
    let e = first_only (length text) (lexed ns text 0) k o a in
    let g = first_only (length text) (lexed ns text 0) j p b in
    let x : k ≡ j = cc in
    let y : o ≡ p = cc in
    cc

pub alone : (ns text : List ℕ) (r : Result Rule Refusal) → ReadAs ns text r → Alone ns text r
alone ns text (Ok p) a (Ok q) b = one_formula ns text (formula_of p) (formula_of q) a.1 b.1
alone ns text (Ok p) a (Err e) (inl b) = b.0 a.0
alone ns text (Ok p) a (Err e) (inr b) = no_fault ns text (formula_of p) b.1.0 b.1.1 a.1 b.1.3
alone ns text (Err d) (inl a) (Ok q) b = a.0 b.0
alone ns text (Err d) (inr a) (Ok q) b = no_fault ns text (formula_of q) a.1.0 a.1.1 b.1 a.1.3
alone ns text (Err d) (inl a) (Err e) (inl b) = a.1 ∙ sym b.1
alone ns text (Err d) (inl a) (Err e) (inr b) = absurd (a.0 b.0)
alone ns text (Err d) (inr a) (Err e) (inl b) = absurd (b.0 a.0)
alone ns text (Err d) (inr a) (Err e) (inr b) = a.1.2 ∙ one_fault ns text _ _ _ _ a.1.3 b.1.3 ∙ sym b.1.2

pub divides : (r : Result Rule Refusal) → Divides r
divides (Ok r) = λ w. run_decided (formula_of r) w 0
divides (Err e) = tt

-- a formula, and then the end
pub spells_whole : (r s : Reader) (xs ys : List Entry) (i : ℕ) → Formed r s xs ys i → ahead s ≡ done → said (ahead r) ≡ Some (spell (last_meaning ys))
spells_whole r s xs ys i f e =
    let k : i ≡ length ys - 1 = omega (arith, f.last) in
    let d : Splits (ahead r) (spell (meaning ys (length ys) i)) done = subst (λ (x : Lexed). Splits (ahead r) (spell (meaning ys (length ys) i)) x) e f.spelled in
    splits_said (spell (meaning ys (length ys) i)) (ahead r) d ∙ ap (λ (n : ℕ). Some (spell (meaning ys (length ys) n))) k

-- a formula, and then more
pub judged_after : (n : ℕ) (r s : Reader) (xs ys : List Entry) (i : ℕ) (l : Lexed) → Formed r s xs ys i → ahead s ≡ l → judge n (ahead r) (formula ∷ []) ≡ judge n l []
judged_after n r s xs ys i l f e = after_formed n r s xs ys i [] f ∙ ap (λ (x : Lexed). judge n x []) e
