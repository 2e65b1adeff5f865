use Rattle.std.proofs.Common.{◌≡◌, ℕ, zero, suc, ◌+◌, ◌-◌, ◌<◌, true, List, [], ◌∷◌, length, get_or, take, drop, Some, None, Ok, Err, Option, Result, sym, refl, ap, ◌∙◌, subst, inl, inr, arith}
use Rattle.std.specs.List.{prefix_len}
use Rattle.std.proofs.lemmas.Bool.{cases_Bool, cond-true, cond-false, ne_eqb, or_left, or_from, and_parts, leb-true}
use Rattle.std.proofs.lemmas.List.{drop-drop, drop_more, drop_all}
use Rattle.std.proofs.lemmas.List.Sums.{prefix_len-drop_yes}
use Rattle.rules.specs.declared.refusal.FaultKind.{FaultKind}
use Rattle.rules.specs.declared.refusal.FaultKind.TheVariants.{Letter, Signal as Unlisted, Form as Misplaced}
use Rattle.rules.specs.declared.refusal.Fault.{Fault}
use Rattle.rules.specs.declared.reader.Token.{Token}
use Rattle.rules.specs.declared.reader.Token.TheVariants.{Name, True as TrueToken, False as FalseToken, Unary as UnaryToken, Binary as BinaryToken, Open as OpenToken, Close as CloseToken}
use Rattle.rules.specs.declared.syntax.Unary.{Unary}
use Rattle.rules.specs.declared.syntax.Unary.TheVariants.{Not, Always, Eventually, Next}
use Rattle.rules.specs.declared.syntax.Binary.{Binary}
use Rattle.rules.specs.declared.syntax.Binary.TheVariants.{And, Or, Implies, Equivalent}
use Rattle.rules.specs.declared.syntax.Word.{Word}
use Rattle.rules.specs.declared.syntax.Word.TheVariants.{Prefix, Infix}
use Rattle.rules.specs.Letters.{blank, small, in_name, name_end}
use Rattle.rules.specs.Signals.{number_of}
use Rattle.rules.specs.Text.{sign, Class, space, name, other, class, Lexed, done, stop, word, listed, pick, lexes, lexed}
use Rattle.rules.specs.Reading.{begin, part, unary_sign, binary_sign, Stands, Faulty, Reads, word_of, Says}

skip : (ns xs : List ℕ) (o k : ℕ) → lexes ns xs o k ≡ lexes ns (drop k xs) (o + k) 0
skip ns [] o zero = refl
skip ns [] o (suc k) = refl
skip ns (x ∷ xs) o zero = let e : o ≡ o + 0 = omega arith in ap (λ (m : ℕ). lexes ns (x ∷ xs) m 0) e
skip ns (x ∷ xs) o (suc k) = let e : (o + 1) + k ≡ o + suc k = omega arith in skip ns xs (o + 1) k ∙ ap (λ (m : ℕ). lexes ns (drop k xs) m 0) e

blanks : (ns xs : List ℕ) (o : ℕ) → lexes ns xs o 0 ≡ lexes ns (drop (prefix_len blank xs) xs) (o + prefix_len blank xs) 0
blanks ns [] o = refl
blanks ns (x ∷ xs) o =
    let P : ℕ → Type 0 = λ k. lexes ns (x ∷ xs) o 0 ≡ lexes ns (drop k (x ∷ xs)) (o + k) 0 in
    elim (cases_Bool (blank x)) [
      | inl y ↦
          let n : prefix_len blank (x ∷ xs) ≡ suc (prefix_len blank xs) = cond-true _ _ _ y ∙ omega arith in
          let e : (o + 1) + prefix_len blank xs ≡ o + suc (prefix_len blank xs) = omega arith in
          let here : class x ≡ space = cond-true _ _ _ y in
          subst P (sym n) (ap (λ (k : Class). pick k o (number_of ns (x ∷ take (prefix_len in_name xs) xs)) (lexes ns xs (o + 1) 0) (lexes ns xs (o + 1) (prefix_len in_name xs))) here ∙ blanks ns xs (o + 1) ∙ ap (λ (m : ℕ). lexes ns (drop (prefix_len blank xs) xs) m 0) e)
      | inr y ↦
          let n : prefix_len blank (x ∷ xs) ≡ 0 = cond-false _ _ _ y in
          let e : o ≡ o + 0 = omega arith in
          subst P (sym n) (ap (λ (m : ℕ). lexes ns (x ∷ xs) m 0) e)
    ]

pub from_begin : (ns text : List ℕ) (i : ℕ) → lexed ns text i ≡ lexed ns text (begin text i)
from_begin ns text i = blanks ns (drop i text) i ∙ ap (λ (ys : List ℕ). lexes ns ys (begin text i) 0) (drop-drop (prefix_len blank (drop i text)) i text)

-- what stands at o
at_byte : (ns text : List ℕ) (o : ℕ) → o < length text → lexed ns text o ≡ lexes ns (get_or text o 0 ∷ drop (o + 1) text) o 0
at_byte ns text o h = ap (λ (ys : List ℕ). lexes ns ys o 0) (drop_more text o 0 h)

at_class : (ns text : List ℕ) (o : ℕ) (k : Class) → o < length text → class (get_or text o 0) ≡ k →
    lexed ns text o ≡ pick k o (number_of ns (get_or text o 0 ∷ take (prefix_len in_name (drop (o + 1) text)) (drop (o + 1) text))) (lexed ns text (o + 1)) (lexes ns (drop (o + 1) text) (o + 1) (prefix_len in_name (drop (o + 1) text)))
at_class ns text o k h e = at_byte ns text o h ∙ ap (λ (k : Class). pick k o (number_of ns (get_or text o 0 ∷ take (prefix_len in_name (drop (o + 1) text)) (drop (o + 1) text))) (lexed ns text (o + 1)) (lexes ns (drop (o + 1) text) (o + 1) (prefix_len in_name (drop (o + 1) text)))) e

-- a sign of unary byte
at_sign : (ns text : List ℕ) (o j b : ℕ) (w : Word) → o < length text → class b ≡ sign w → (get_or text o 0 ≡ b) × (j ≡ o + 1) → lexed ns text o ≡ word o w (lexed ns text j)
at_sign ns text o j b w h e s = at_class ns text o (sign w) h (ap class s.0 ∙ e) ∙ ap (λ (m : ℕ). word o w (lexed ns text m)) (sym s.1)

small_name : (b : ℕ) → small b ≡ true → class b ≡ name
small_name b s =
    let l = leb-true 97 b (and_parts _ _ s).0 in
    cond-false _ _ _ (or_from _ _ (ne_eqb b 32 (λ e. omega arith)) (ne_eqb b 10 (λ e. omega arith))) ∙ cond-true _ _ _ s

at_name : (ns text : List ℕ) (o : ℕ) → o < length text → small (get_or text o 0) ≡ true → lexed ns text o ≡ listed (number_of ns (part text o (name_end text o))) o (lexed ns text (name_end text o))
at_name ns text o h s =
    let b : ℕ = get_or text o 0 in
    let rest : List ℕ = drop (o + 1) text in
    let m : ℕ = prefix_len in_name rest in
    let run : prefix_len in_name (drop o text) ≡ 1 + m = prefix_len-drop_yes in_name text o 0 h (or_left _ _ s) in
    let len : name_end text o - o ≡ suc m = omega arith in
    let to : (o + 1) + m ≡ name_end text o = omega arith in
    let p : part text o (name_end text o) ≡ b ∷ take m rest = ap (λ (k : ℕ). take k (drop o text)) len ∙ ap (take (suc m)) (drop_more text o 0 h) in
    let q : lexes ns rest (o + 1) m ≡ lexed ns text (name_end text o) =
    skip ns rest (o + 1) m ∙ ap (λ (ys : List ℕ). lexes ns ys ((o + 1) + m) 0) (drop-drop m (o + 1) text) ∙ ap (λ (k : ℕ). lexes ns (drop k text) k 0) to in
    at_class ns text o name h (small_name b s) ∙ ap (λ (l : Lexed). listed (number_of ns (b ∷ take m rest)) o l) q ∙ ap (λ (ys : List ℕ). listed (number_of ns ys) o (lexed ns text (name_end text o))) (sym p)

unary_class : (u : Unary) → class (unary_sign u) ≡ sign (Prefix u)
unary_class Not = refl
unary_class Always = refl
unary_class Eventually = refl
unary_class Next = refl

binary_class : (b : Binary) → class (binary_sign b) ≡ sign (Infix b)
binary_class And = refl
binary_class Or = refl
binary_class Implies = refl
binary_class Equivalent = refl

token : (ns text : List ℕ) (o j : ℕ) (t : Token) → o < length text → Stands ns text o j t → lexed ns text o ≡ word o (word_of t) (lexed ns text j)
token ns text o j (Name s k) h (a, e, p, f) =
    at_name ns text o h a ∙ ap (λ (m : ℕ). listed (number_of ns (part text o m)) o (lexed ns text m)) (sym e) ∙ ap (λ n. listed n o (lexed ns text j)) f
token ns text o j TrueToken h s = at_sign ns text o j 84 _ h refl s
token ns text o j FalseToken h s = at_sign ns text o j 70 _ h refl s
token ns text o j (UnaryToken u) h s = at_sign ns text o j _ _ h (unary_class u) s
token ns text o j (BinaryToken b) h s = at_sign ns text o j _ _ h (binary_class b) s
token ns text o j OpenToken h s = at_sign ns text o j 40 _ h refl s
token ns text o j CloseToken h s = at_sign ns text o j 41 _ h refl s

faulty : (ns text : List ℕ) (o : ℕ) (k : FaultKind) → o < length text → Faulty ns text o k → lexed ns text o ≡ stop k o
faulty ns text o Letter h f = at_class ns text o other h f
faulty ns text o Unlisted h (a, f) = at_name ns text o h a ∙ ap (λ n. listed n o (lexed ns text (name_end text o))) f
faulty ns text o Misplaced h f = absurd f

from : (ns text : List ℕ) (i o : ℕ) (l : Lexed) → o ≡ begin text i → lexed ns text o ≡ l → lexed ns text i ≡ l
from ns text i o l e h = from_begin ns text i ∙ ap (λ (m : ℕ). lexed ns text m) (sym e) ∙ h

-- what the reader answers is what the text says
pub reads_says : (ns text : List ℕ) (i : ℕ) (r : Result (Option (ℕ × Token)) Fault) (j : ℕ) → Reads ns text i r j → Says ns text i r j
reads_says ns text i (Ok None) j (e, f) = from ns text i (length text) done (sym e) (ap (λ (ys : List ℕ). lexes ns ys (length text) 0) (drop_all (length text) text (omega arith)))
reads_says ns text i (Ok (Some p)) j (e, h, s) = from ns text i p.0 _ e (token ns text p.0 j p.1 h s)
reads_says ns text i (Err f) j (e, h, k, y) = from ns text i f.offset _ e (faulty ns text f.offset f.kind h y)

stands_moves : (ns text : List ℕ) (o j : ℕ) (t : Token) → o < length text → Stands ns text o j t → o < j
stands_moves ns text o j (Name s k) h (a, e, p, f) = let run = prefix_len-drop_yes in_name text o 0 h (or_left _ _ a) in omega arith
stands_moves ns text o j TrueToken h s = omega (arith, s.1)
stands_moves ns text o j FalseToken h s = omega (arith, s.1)
stands_moves ns text o j (UnaryToken u) h s = omega (arith, s.1)
stands_moves ns text o j (BinaryToken b) h s = omega (arith, s.1)
stands_moves ns text o j OpenToken h s = omega (arith, s.1)
stands_moves ns text o j CloseToken h s = omega (arith, s.1)

pub reads_moves : (ns text : List ℕ) (i : ℕ) (p : ℕ × Token) (j : ℕ) → Reads ns text i (Ok (Some p)) j → i < j
reads_moves ns text i p j (e, h, s) = let m = stands_moves ns text p.0 j p.1 h s in omega arith
