use Rattle.std.proofs.Common.{◌≡◌, ℕ, ◌+◌, ◌<◌, ◌≤◌, true, List, [], ◌∷◌, ◌++◌, length, get_or, take, drop, sym, refl, ap, ◌∙◌, subst, arith, below_more}
use Rattle.std.proofs.Math.ListN.{get_or-append}
use Rattle.std.proofs.Math.Seq.{get_or-append_seam, take-length}
use Rattle.std.proofs.lemmas.Bool.{ltb-true, and_parts}
use Rattle.std.proofs.lemmas.List.{take_more, length-take, length-take-le, take-append-drop, take-take, length_push}
use Rattle.rules.specs.declared.syntax.Atom.TheVariants.{True}
use Rattle.rules.specs.declared.syntax.Entry.{Entry}
use Rattle.rules.specs.declared.syntax.Entry.TheVariants.{Leaf as Leaf', One, Two}
use Rattle.rules.specs.declared.arena.Rule.{Rule}
use Rattle.rules.specs.Formula.{Formula, atom, unary, binary}
use Rattle.rules.specs.Entries.{nothing, below, Ordered, made, build, meaning, last_meaning, Stands}
use Rattle.rules.specs.Rules.{Shows}

pub ordered_push : (xs ys : List Entry) (v : Entry) → ys ≡ xs ++ v ∷ [] → Ordered xs (length xs) → below (length xs) v ≡ true → Ordered ys (length ys)
ordered_push xs ys v e old new =
    subst (λ (zs : List Entry). Ordered zs (length zs)) (sym e)
    (λ i l. below_more (λ i. below i (get_or (xs ++ v ∷ []) i nothing) ≡ true) (length xs)
    (λ k h. ap (below k) (get_or-append xs (v ∷ []) nothing k h) ∙ old k h)
    (ap (below (length xs)) (get_or-append_seam xs v [] nothing) ∙ new) i (omega (arith, length_push xs v)))

build_append : (fs : List Formula) (xs ys : List Entry) → build fs (xs ++ ys) ≡ build (build fs xs) ys
build_append fs [] ys = refl
build_append fs (x ∷ xs) ys = build_append (fs ++ (made fs x ∷ [])) xs ys

length_build : (fs : List Formula) (xs : List Entry) → length (build fs xs) ≡ length fs + length xs
length_build fs [] = omega arith
length_build fs (x ∷ xs) = let i = length_build (fs ++ (made fs x ∷ [])) xs in let p = length_push fs (made fs x) in omega arith

get_or_build : (fs : List Formula) (xs : List Entry) (k : ℕ) (d : Formula) → k < length fs → get_or (build fs xs) k d ≡ get_or fs k d
get_or_build fs [] k d h = refl
get_or_build fs (x ∷ xs) k d h = get_or_build (fs ++ (made fs x ∷ [])) xs k d (omega (arith, length_push fs (made fs x))) ∙ get_or-append fs (made fs x ∷ []) d k h

-- the formula of the entry after the entries xs
get_or_newest : (xs : List Entry) (v : Entry) (n : ℕ) → n ≡ length xs → get_or (build [] (xs ++ v ∷ [])) n (atom True) ≡ made (build [] xs) v
get_or_newest xs v n e =
    let b : build [] (xs ++ v ∷ []) ≡ build [] xs ++ (made (build [] xs) v ∷ []) = build_append [] xs (v ∷ []) in
    let l : n ≡ length (build [] xs) = omega (arith, length_build [] xs) in
    ap (λ (fs : List Formula). get_or fs n (atom True)) b ∙ ap (λ (k : ℕ). get_or (build [] xs ++ (made (build [] xs) v ∷ [])) k (atom True)) l ∙ get_or-append_seam (build [] xs) _ [] (atom True)

pub meaning_push : (xs ys : List Entry) (v : Entry) → ys ≡ xs ++ v ∷ [] → meaning ys (length ys) (length xs) ≡ made (build [] xs) v
meaning_push xs ys v e = ap (λ (zs : List Entry). get_or (build [] zs) (length xs) (atom True)) (take-length ys ∙ e) ∙ get_or_newest xs v (length xs) refl

-- the formulas of all the entries
pub meaning_all : (xs : List Entry) (k : ℕ) → get_or (build [] xs) k (atom True) ≡ meaning xs (length xs) k
meaning_all xs k = ap (λ (zs : List Entry). get_or (build [] zs) k (atom True)) (sym (take-length xs))

-- an older entry keeps its formula
pub meaning_kept : (xs ys : List Entry) (n m k : ℕ) → n ≤ m → n ≤ length ys → take n ys ≡ take n xs → k < n → meaning ys m k ≡ meaning xs n k
meaning_kept xs ys n m k h l e lt =
    let s : take m ys ≡ take n ys ++ drop n (take m ys) = sym (take-append-drop n (take m ys)) ∙ ap (λ (zs : List Entry). zs ++ drop n (take m ys)) (take-take n m ys h) in
    let b : build [] (take m ys) ≡ build (build [] (take n ys)) (drop n (take m ys)) = ap (build []) s ∙ build_append [] (take n ys) (drop n (take m ys)) in
    let q : k < length (build [] (take n ys)) = omega (arith, length_build [] (take n ys), length-take-le n ys l) in
    ap (λ (fs : List Formula). get_or fs k (atom True)) b ∙ get_or_build (build [] (take n ys)) (drop n (take m ys)) k (atom True) q ∙ ap (λ (zs : List Entry). get_or (build [] zs) k (atom True)) e

pub meaning_older : (xs ys : List Entry) (k : ℕ) → take (length xs) ys ≡ xs → k < length xs → meaning ys (length ys) k ≡ meaning xs (length xs) k
meaning_older xs ys k e lt =
    let le : length xs ≤ length ys = omega (arith, ap length e, length-take (length xs) ys) in
    meaning_kept xs ys (length xs) (length ys) k le le (e ∙ sym (take-length xs)) lt

-- an entry stands for its sign over what its operands stand for
operand : (xs : List Entry) (n i a : ℕ) → n ≤ length xs → i < n → a < i → get_or (build [] (take i xs)) a (atom True) ≡ meaning xs n a
operand xs n i a h l lt = sym (meaning_kept xs xs i n a (omega arith) (omega arith) refl lt)

made_stands : (xs : List Entry) (n i : ℕ) (x : Entry) → n ≤ length xs → i < n → below i x ≡ true → Stands (meaning xs n) x (made (build [] (take i xs)) x)
made_stands xs n i (Leaf' a) h l b = refl
made_stands xs n i (One u a) h l b = ap (λ (f : Formula). unary u f) (operand xs n i a h l (ltb-true _ _ b))
made_stands xs n i (Two s a c) h l b =
    let p = and_parts _ _ b in
    ap (λ (f : Formula). binary s f (get_or (build [] (take i xs)) c (atom True))) (operand xs n i a h l (ltb-true _ _ p.0))
    ∙ ap (λ (g : Formula). binary s (meaning xs n a) g) (operand xs n i c h l (ltb-true _ _ p.1))

pub meaning_at : (xs : List Entry) (n i : ℕ) → n ≤ length xs → i < n → meaning xs n i ≡ made (build [] (take i xs)) (get_or xs i nothing)
meaning_at xs n i h l =
    let e : take (i + 1) xs ≡ take i xs ++ (get_or xs i nothing ∷ []) = take_more xs i nothing (omega arith) in
    meaning_kept xs xs (i + 1) n i (omega arith) (omega arith) refl (omega arith)
    ∙ ap (λ (zs : List Entry). get_or (build [] zs) i (atom True)) e ∙ get_or_newest (take i xs) (get_or xs i nothing) i (omega (arith, length-take-le i xs (omega arith)))

pub stands_at : (xs : List Entry) (n i : ℕ) → n ≤ length xs → i < n → Ordered xs n → Stands (meaning xs n) (get_or xs i nothing) (meaning xs n i)
stands_at xs n i h l o =
    subst (λ (f : Formula). Stands (meaning xs n) (get_or xs i nothing) f) (sym (meaning_at xs n i h l)) (made_stands xs n i (get_or xs i nothing) h l (o i l))

-- the entries of a rule
pub shows : (r : Rule) (xs : List Entry) → xs ≡ r.arena → Shows r xs
shows r xs e =
    let o : Ordered xs (length xs) = subst (λ (zs : List Entry). Ordered zs (length zs)) (sym e) r.ordered in
    record {
      some = omega (arith, r.rooted, ap length e);
      few = omega (arith, r.few, ap length e);
      ordered = o;
      last = ap last_meaning e;
      each = λ i l. stands_at xs (length xs) i (omega arith) l o;
    }
