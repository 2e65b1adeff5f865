use Rattle.std.proofs.Common.{◌≡◌, ℕ, ◌+◌, List, Some, None, Ok, Err, sym, ap, ◌∙◌, subst}
use Rattle.rules.specs.declared.reader.Token.{Token}
use Rattle.rules.specs.declared.reader.Token.TheVariants.{Name, True as TrueToken, False as FalseToken, Unary as UnaryToken, Binary as BinaryToken, Open as OpenToken, Close as CloseToken}
use Rattle.rules.specs.declared.syntax.Atom.TheVariants.{True, False, Signal}
use Rattle.rules.specs.declared.syntax.Word.{Word}
use Rattle.rules.specs.declared.syntax.Word.TheVariants.{Leaf, Prefix, Infix, Open, Close}
use Rattle.rules.specs.Letters.{name_end}
use Rattle.rules.specs.Text.{Lexed, done, word}
use Rattle.rules.specs.Reading.{part, Stands, word_of, Lends, ReadsDetermined}
use Rattle.rules.proofs.Lexing.{reads_says}

-- where a word that begins at o ends
abbrev ends : List ℕ → ℕ → Word → ℕ
ends text o (Leaf True) = o + 1
ends text o (Leaf False) = o + 1
ends text o (Leaf (Signal k)) = name_end text o
ends text o (Prefix u) = o + 1
ends text o (Infix b) = o + 1
ends text o Open = o + 1
ends text o Close = o + 1

stands_ends : (ns text : List ℕ) (o j : ℕ) (t : Token) → Stands ns text o j t → (j ≡ ends text o (word_of t)) × Lends t (part text o j)
stands_ends ns text o j (Name s k) h = (h.1, h.2)
stands_ends ns text o j TrueToken h = (h.1, tt)
stands_ends ns text o j FalseToken h = (h.1, tt)
stands_ends ns text o j (UnaryToken u) h = (h.1, tt)
stands_ends ns text o j (BinaryToken b) h = (h.1, tt)
stands_ends ns text o j OpenToken h = (h.1, tt)
stands_ends ns text o j CloseToken h = (h.1, tt)

clash : {P : Type 0} (l : Lexed) → l ≡ done → (o : ℕ) (w : Word) (m : Lexed) → l ≡ word o w m → P
clash l e o w m f = absurd cc

pub reads_determined : ReadsDetermined
reads_determined ns text i (Ok None) (Ok None) j k a b = (tt, a.1 ∙ sym b.1)
reads_determined ns text i (Ok None) (Ok (Some q)) j k a b = clash _ (reads_says ns text i (Ok None) j a) _ _ _ (reads_says ns text i (Ok (Some q)) k b)
reads_determined ns text i (Ok (Some p)) (Ok None) j k a b = clash _ (reads_says ns text i (Ok None) k b) _ _ _ (reads_says ns text i (Ok (Some p)) j a)
reads_determined ns text i (Ok (Some p)) (Ok (Some q)) j k a b =
    let e = sym (reads_says ns text i (Ok (Some p)) j a) ∙ reads_says ns text i (Ok (Some q)) k b in
    let eo : p.0 ≡ q.0 = a.0 ∙ sym b.0 in
    let ew : word_of p.1 ≡ word_of q.1 = cc in
    let sp = stands_ends ns text p.0 j p.1 a.2 in
    let sq = stands_ends ns text q.0 k q.1 b.2 in
    let ej : j ≡ k = sp.0 ∙ ap (λ (w : Word). ends text p.0 w) ew ∙ ap (λ (o : ℕ). ends text o (word_of q.1)) eo ∙ sym sq.0 in
    let eb : part text p.0 j ≡ part text q.0 k = ap (λ (o : ℕ). part text o j) eo ∙ ap (part text q.0) ej in
    ((eo, ew, (part text q.0 k, subst (λ (x : List ℕ). Lends p.1 x) eb sp.1, sq.1)), ej)
reads_determined ns text i (Ok None) (Err f) j k a b = let e = sym (reads_says ns text i (Ok None) j a) ∙ reads_says ns text i (Err f) k b in absurd cc
reads_determined ns text i (Ok (Some p)) (Err f) j k a b = let e = sym (reads_says ns text i (Ok (Some p)) j a) ∙ reads_says ns text i (Err f) k b in absurd cc
reads_determined ns text i (Err f) (Ok None) j k a b = let e = sym (reads_says ns text i (Err f) j a) ∙ reads_says ns text i (Ok None) k b in absurd cc
reads_determined ns text i (Err f) (Ok (Some q)) j k a b = let e = sym (reads_says ns text i (Err f) j a) ∙ reads_says ns text i (Ok (Some q)) k b in absurd cc
reads_determined ns text i (Err f) (Err g) j k a b =
    let e = sym (reads_says ns text i (Err f) j a) ∙ reads_says ns text i (Err g) k b in
    let eo : f.offset ≡ g.offset = a.0 ∙ sym b.0 in
    ((cc, eo), a.2 ∙ eo ∙ sym b.2)
