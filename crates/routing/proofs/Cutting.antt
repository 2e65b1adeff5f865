-- Bytes cut at a blank.
use Rattle.std.proofs.Common.{◌≡◌, ℕ, suc, true, not, eqb, List, [], ◌∷◌, ◌++◌, Some, None, Option, sym, refl, ap, ◌∙◌, append-nil, arith, rules}
use Rattle.std.proofs.lemmas.Bool.{cond-true}
use Rattle.rules.specs.Signals.{words, longer}
use Rattle.routing.specs.Lines.{Unbroken, Cuts, waiting}

-- what ends the first word, with what stands after it
abbrev pub ending : Option (List ℕ) → List ℕ
ending None = []
ending (Some t) = 32 ∷ t

no_blank : (b : ℕ) → (b ≡ 32 → ⊥) → not (eqb b 32) ≡ true
no_blank b ne = search rules

first_word : (w : List ℕ) (o : Option (List ℕ)) → Unbroken w → words (w ++ ending o) ≡ w ∷ waiting o
first_word [] None h = refl
first_word [] (Some t) h = refl
first_word (b ∷ w) o h =
    let ne : b ≡ 32 → ⊥ = h 0 (omega arith) in
    let on : Unbroken w = λ k lt. h (suc k) (omega arith) in
    cond-true _ _ _ (no_blank b ne) ∙ ap (longer b) (first_word w o on)

pub cut_words : (xs w : List ℕ) (o : Option (List ℕ)) → Cuts xs w o → words xs ≡ w ∷ waiting o
cut_words xs w None (h, e) = ap words (e ∙ sym (append-nil w)) ∙ first_word w None h
cut_words xs w (Some t) (h, e) = ap words e ∙ first_word w (Some t) h
