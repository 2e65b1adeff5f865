use Rattle.std.proofs.Common.{◌≡◌, ℕ, ◌+◌, ◌≤◌, List, [], ◌∷◌, ◌++◌, length, get_or, take, sym, refl, ap, ◌∙◌, subst, arith}
use Rattle.std.proofs.Math.Seq.{take-length}
use Rattle.std.proofs.lemmas.List.{take-take, take-append-le, length-take, length_push}
use Rattle.rules.specs.declared.reader.Reader.{Reader}
use Rattle.rules.specs.declared.refusal.Fault.{Fault}
use Rattle.rules.specs.declared.syntax.Atom.{Atom}
use Rattle.rules.specs.declared.syntax.Atom.TheVariants.{True}
use Rattle.rules.specs.declared.syntax.Unary.{Unary}
use Rattle.rules.specs.declared.syntax.Binary.{Binary}
use Rattle.rules.specs.declared.syntax.Word.{Word}
use Rattle.rules.specs.declared.syntax.Word.TheVariants.{Leaf, Prefix, Infix, Open, Close}
use Rattle.rules.specs.declared.syntax.Entry.{Entry}
use Rattle.rules.specs.declared.syntax.Entry.TheVariants.{Leaf as Leaf', One, Two}
use Rattle.rules.specs.Formula.{Formula, atom, unary, binary, spell, size}
use Rattle.rules.specs.Entries.{build, meaning}
use Rattle.rules.specs.Text.{Lexed, lexed}
use Rattle.rules.specs.Owed.{Owed, formula, sign, bracket, Verdict, judge, refused, Splits}
use Rattle.rules.specs.Words.{ReadsOn, ahead, Goes, Refuses}
use Rattle.rules.specs.Rules.{Formed}
use Rattle.rules.proofs.Growing.{meaning_push, meaning_all, meaning_older}
use Rattle.rules.proofs.Judging.{splits_judge, splits_join}

pub reads_on : (r s t : Reader) → ReadsOn r s → ReadsOn s t → ReadsOn r t
reads_on r s t a b = record { list = b.list ∙ a.list; text = b.text ∙ a.text }

-- what a reader refuses it refuses for each that reads on in its text
refuses_at : (r s : Reader) (x : Owed) (t : List Owed) (f : Fault) → ReadsOn r s → Refuses s x f → judge (length r.text.now) (ahead s) (x ∷ t) ≡ refused f.kind f.offset
refuses_at r s x t f o h = ap (λ (ys : List ℕ). judge (length ys) (ahead s) (x ∷ t)) (sym o.text) ∙ h t

pub heard_as : (r s : Reader) (p : ℕ × Word) (w : Word) → p.1 ≡ w → Goes r p.0 p.1 s → Goes r p.0 w s
heard_as r s p w e h = subst (λ (x : Word). Goes r p.0 x s) e h

spelled_as : (r s : Reader) (f g : Formula) → f ≡ g → Splits (ahead r) (spell g) (ahead s) → Splits (ahead r) (spell f) (ahead s)
spelled_as r s f g e h = subst (λ (x : Formula). Splits (ahead r) (spell x) (ahead s)) (sym e) h

-- the entries so far stay in front
kept_push : (xs ys zs : List Entry) (v : Entry) → take (length xs) ys ≡ xs → zs ≡ ys ++ v ∷ [] → take (length xs) zs ≡ xs
kept_push xs ys zs v e p =
    let le : length xs ≤ length ys = omega (arith, ap length e, length-take (length xs) ys) in
    ap (take (length xs)) p ∙ take-append-le (length xs) ys (v ∷ []) le ∙ e

longer : (xs ys : List Entry) (v : Entry) → ys ≡ xs ++ v ∷ [] → length ys ≡ length xs + 1
longer xs ys v e = ap length e ∙ length_push xs v

pub formed_leaf : (r s : Reader) (o : ℕ) (xs ys : List Entry) (k : ℕ) (a : Atom) → Goes r o (Leaf a) s → ys ≡ xs ++ Leaf' a ∷ [] → k ≡ length xs → Formed r s xs ys k
formed_leaf r s o xs ys k a w e n =
    let l = longer xs ys (Leaf' a) e in
    let m : meaning ys (length ys) k ≡ atom a = ap (meaning ys (length ys)) n ∙ meaning_push xs ys (Leaf' a) e in
    record {
      last = omega arith;
      grown = omega (arith, ap size m);
      kept = kept_push xs xs ys (Leaf' a) (take-length xs) e;
      few = omega (arith, w.moves);
      spelled = spelled_as r s _ (atom a) m (o, ahead s, w.says, refl);
    }

pub formed_one : (r s t : Reader) (o : ℕ) (xs ys zs : List Entry) (i k : ℕ) (u : Unary) → Goes r o (Prefix u) s → Formed s t xs ys i → zs ≡ ys ++ One u i ∷ [] → k ≡ length ys → Formed r t xs zs k
formed_one r s t o xs ys zs i k u w f e n =
    let l = longer ys zs (One u i) e in
    let m : meaning zs (length zs) k ≡ unary u (meaning ys (length ys) i) =
    ap (meaning zs (length zs)) n ∙ meaning_push ys zs (One u i) e ∙ ap (λ (g : Formula). unary u g) (meaning_all ys i) in
    record {
      last = omega arith;
      grown = omega (arith, f.grown, ap size m);
      kept = kept_push xs ys zs (One u i) f.kept e;
      few = omega (arith, w.moves, f.few);
      spelled = spelled_as r t _ _ m (o, ahead s, w.says, f.spelled);
    }

pub formed_two : (r s1 s2 s3 s4 t : Reader) (o o1 o2 : ℕ) (xs ys zs us : List Entry) (i j k : ℕ) (b : Binary) →
    Goes r o Open s1 → Formed s1 s2 xs ys i → Goes s2 o1 (Infix b) s3 → Formed s3 s4 ys zs j → Goes s4 o2 Close t → us ≡ zs ++ Two b i j ∷ [] → k ≡ length zs → Formed r t xs us k
formed_two r s1 s2 s3 s4 t o o1 o2 xs ys zs us i j k b w f w1 g w2 e n =
    let l = longer zs us (Two b i j) e in
    let le : length xs ≤ length ys = omega (arith, f.grown) in
    let older : meaning zs (length zs) i ≡ meaning ys (length ys) i = meaning_older ys zs i g.kept (omega (arith, f.last)) in
    let m : meaning us (length us) k ≡ binary b (meaning ys (length ys) i) (meaning zs (length zs) j) =
    ap (meaning us (length us)) n ∙ meaning_push zs us (Two b i j) e
    ∙ ap (λ (p : Formula). binary b p (get_or (build [] zs) j (atom True))) (meaning_all zs i ∙ older) ∙ ap (λ (q : Formula). binary b (meaning ys (length ys) i) q) (meaning_all zs j) in
    let kept : take (length xs) zs ≡ xs = sym (take-take (length xs) (length ys) zs le) ∙ ap (take (length xs)) g.kept ∙ f.kept in
    record {
      last = omega arith;
      grown = omega (arith, f.grown, g.grown, ap size m);
      kept = kept_push xs zs us (Two b i j) kept e;
      few = omega (arith, w.moves, w1.moves, w2.moves, f.few, g.few);
      spelled = spelled_as r t _ _ m (
        o,
        ahead s1,
        w.says,
        splits_join (spell (meaning ys (length ys) i)) _ _ (ahead s2) _ f.spelled (
          o1,
          ahead s3,
          w1.says,
          splits_join (spell (meaning zs (length zs) j)) _ _ (ahead s4) _ g.spelled (o2, ahead t, w2.says, refl),
        ),
      );
    }

-- a bracket, a formula and a sign leave owing less
after_open : (n : ℕ) (r s : Reader) (o : ℕ) (t : List Owed) → Goes r o Open s → judge n (ahead r) (formula ∷ t) ≡ judge n (ahead s) (formula ∷ (sign ∷ (formula ∷ (bracket ∷ t))))
after_open n r s o t w = ap (λ (z : Lexed). judge n z (formula ∷ t)) w.says

pub after_formed : (n : ℕ) (r s : Reader) (xs ys : List Entry) (i : ℕ) (t : List Owed) → Formed r s xs ys i → judge n (ahead r) (formula ∷ t) ≡ judge n (ahead s) t
after_formed n r s xs ys i t f = splits_judge n (meaning ys (length ys) i) (ahead r) (ahead s) t f.spelled

after_sign : (n : ℕ) (r s : Reader) (o : ℕ) (b : Binary) (t : List Owed) → Goes r o (Infix b) s → judge n (ahead r) (sign ∷ t) ≡ judge n (ahead s) t
after_sign n r s o b t w = ap (λ (z : Lexed). judge n z (sign ∷ t)) w.says

pub refuses_sign : (r s1 s2 : Reader) (o : ℕ) (xs ys : List Entry) (i : ℕ) (e : Fault) → ReadsOn r s2 → Goes r o Open s1 → Formed s1 s2 xs ys i → Refuses s2 sign e → Refuses r formula e
refuses_sign r s1 s2 o xs ys i e on w f h = λ t.
    after_open _ r s1 o t w ∙ after_formed _ s1 s2 xs ys i _ f ∙ refuses_at r s2 sign (formula ∷ (bracket ∷ t)) e on h

pub refuses_right : (r s1 s2 s3 : Reader) (o o1 : ℕ) (xs ys : List Entry) (i : ℕ) (b : Binary) (e : Fault) → ReadsOn r s3 → Goes r o Open s1 → Formed s1 s2 xs ys i → Goes s2 o1 (Infix b) s3 → Refuses s3 formula e → Refuses r formula e
refuses_right r s1 s2 s3 o o1 xs ys i b e on w f w1 h = λ t.
    after_open _ r s1 o t w ∙ after_formed _ s1 s2 xs ys i _ f ∙ after_sign _ s2 s3 o1 b _ w1 ∙ refuses_at r s3 formula (bracket ∷ t) e on h

pub refuses_close : (r s1 s2 s3 s4 : Reader) (o o1 : ℕ) (xs ys zs : List Entry) (i j : ℕ) (b : Binary) (e : Fault) →
    ReadsOn r s4 → Goes r o Open s1 → Formed s1 s2 xs ys i → Goes s2 o1 (Infix b) s3 → Formed s3 s4 ys zs j → Refuses s4 bracket e → Refuses r formula e
refuses_close r s1 s2 s3 s4 o o1 xs ys zs i j b e on w f w1 g h = λ t.
    after_open _ r s1 o t w ∙ after_formed _ s1 s2 xs ys i _ f ∙ after_sign _ s2 s3 o1 b _ w1 ∙ after_formed _ s3 s4 ys zs j _ g ∙ refuses_at r s4 bracket t e on h

-- a reader at the beginning of a text
pub at_start : (r : Reader) (ns text : List ℕ) → r.list.bytes.now ≡ ns → r.text.now ≡ text → r.at ≡ 0 → ahead r ≡ lexed ns text 0
at_start r ns text a b c = ap (λ (xs : List ℕ). lexed xs r.text.now r.at) a ∙ ap (λ (xs : List ℕ). lexed ns xs r.at) b ∙ ap (lexed ns text) c

pub judged_whole : (r : Reader) (ns text : List ℕ) (s : List Owed) (v : Verdict) → r.list.bytes.now ≡ ns → r.text.now ≡ text → r.at ≡ 0 → judge (length r.text.now) (ahead r) s ≡ v → judge (length text) (lexed ns text 0) s ≡ v
judged_whole r ns text s v a b c h =
    ap (λ (xs : List ℕ). judge (length xs) (lexed ns text 0) s) (sym b) ∙ ap (λ (l : Lexed). judge (length r.text.now) l s) (sym (at_start r ns text a b c)) ∙ h
