use Rattle.std.proofs.Common.{◌≡◌, ℕ, ◌+◌, ◌<◌, Bool, true, false, not, eqb, cond, Decides, MatchBool, List, [], ◌∷◌, ◌++◌, append-nil, length, get_or, ltb, Some, None, Option, sym, refl, ap, ◌∙◌, subst, inl, inr, arith}
use Rattle.std.specs.List.{slice_split, onto_first, position, position_from, position_or_len, join_with_byte, enumerate_from, AllWithin, HoldsAt}
use Rattle.std.specs.Str.{bytes_eq}
use Rattle.std.proofs.lemmas.Bool.{cases_Bool, cases_lt, cond-true, cond-false, lt-ltb, ltb-false, true≢false}
use Rattle.std.proofs.lemmas.List.FromFn.{length-enumerate_from, get_or-enumerate_from}
use Rattle.std.proofs.lemmas.List.Quantifiers.{position-Some}
use Rattle.std.proofs.lemmas.List.Splits.{length-slice_split, join_with_byte-slice_split}
use Rattle.std.proofs.lemmas.List.Sums.{prefix_len_is, prefix_len_passes}
use Rattle.std.proofs.lemmas.Iterator.Adapters.{position_from-zero}
use Rattle.std.proofs.lemmas.Slice.Eq.{bytes_eq-Decides}
use Rattle.rules.specs.Signals.{longer, words, names, joined, Few, Lawful, place_of, number_of, Looked, Fits, AllFit}

-- the words are the parts that the spaces cut off
longer_onto : (b : ℕ) (ws : List (List ℕ)) → longer b ws ≡ onto_first b ws
longer_onto b [] = refl
longer_onto b (w ∷ ws) = refl

pub words_split : (bs : List ℕ) → words bs ≡ slice_split (λ b. eqb b 32) bs
words_split [] = refl
words_split (b ∷ bs) =
    elim (cases_Bool (eqb b 32)) [
      | inl y ↦ cond-false _ _ _ (ap not y) ∙ ap (λ (ws : List (List ℕ)). [] ∷ ws) (words_split bs) ∙ sym (cond-true _ _ _ y)
      | inr y ↦ cond-true _ _ _ (ap not y) ∙ longer_onto b (words bs) ∙ ap (onto_first b) (words_split bs) ∙ sym (cond-false _ _ _ y)
    ]

-- the place of a word is that of the first that is the same
pub place_position : (x : List ℕ) (ws : List (List ℕ)) → place_of x ws 0 ≡ position (λ w. bytes_eq w x) ws
place_position x ws = from x ws 0 ∙ sym (position_from-zero (λ w. bytes_eq w x) ws)
  where
    from : (x : List ℕ) (ws : List (List ℕ)) (n : ℕ) → place_of x ws n ≡ position_from (λ w. bytes_eq w x) n ws
    from x [] n = refl
    from x (w ∷ ws) n = ap (λ (r : Option ℕ). cond (bytes_eq w x) (Some n) r) (from x ws (n + 1))

-- what has bytes has its words for names
pub names_words : (bytes : List ℕ) → 0 < length bytes → names bytes ≡ words bytes
names_words [] h = absurd (omega arith)
names_words (b ∷ bs) h = refl

-- the words with one space between two are the bytes again
joined_join : (ws : List (List ℕ)) → joined ws ≡ join_with_byte 32 ws
joined_join [] = refl
joined_join (w ∷ []) = append-nil w
joined_join (w ∷ v ∷ ws) = ap (λ (ys : List ℕ). w ++ 32 ∷ ys) (joined_join (v ∷ ws))

some_words : (xs : List ℕ) → 0 < length (words xs)
some_words xs = omega (arith, ap length (words_split xs), length-slice_split (λ b. eqb b 32) xs)

joined_words : (xs : List ℕ) → joined (words xs) ≡ xs
joined_words xs = joined_join (words xs) ∙ ap (join_with_byte 32) (words_split xs) ∙ join_with_byte-slice_split 32 xs

pub joined_names : (bytes : List ℕ) → joined (names bytes) ≡ bytes
joined_names [] = refl
joined_names (b ∷ bs) = joined_words (b ∷ bs)

-- each word fits, and the list is lawful: the same
differs : (w x : List ℕ) → (w ≡ x → ⊥) → bytes_eq w x ≡ false
differs w x ne =
    elim (cases_Bool (bytes_eq w x)) [
      | inl y ↦ absurd (ne ((bytes_eq-Decides w x).0 y))
      | inr y ↦ y
    ]

first_at : (x : List ℕ) (ws : List (List ℕ)) (k : ℕ) → k < length ws → get_or ws k [] ≡ x → ((i : ℕ) → i < k → get_or ws i [] ≡ x → ⊥) → place_of x ws 0 ≡ Some k
first_at x ws k h here before =
    let t : List ℕ → Bool = λ w. bytes_eq w x in
    let other : (i : ℕ) → i < k → not (t (get_or ws i [])) ≡ true = λ i l. ap not (differs (get_or ws i []) x (before i l)) in
    let n : position_or_len t ws ≡ k = prefix_len_is (λ w. not (t w)) ws k [] (omega arith) other (λ l. ap not ((bytes_eq-Decides (get_or ws k []) x).1 here)) in
    place_position x ws ∙ rw n (cond-true _ _ _ (lt-ltb k (length ws) h))

all_fit : (ns : List ℕ) → Lawful ns → AllFit ns (names ns) 0
all_fit ns l =
    (λ k h. (omega (arith, l.few), l.proper k h, first_at (get_or (names ns) k []) (names ns) k h refl (λ i lt e. l.distinct i k lt h e) ∙ (let z : k ≡ 0 + k = omega arith in ap (λ (m : ℕ). Some m) z)))

pub lawful_fit : (ns : List ℕ) → Lawful ns → AllFit ns (words ns) 0
lawful_fit [] l = absurd (omega (arith, l.some))
lawful_fit (b ∷ bs) l = all_fit (b ∷ bs) l

fit_names : (ns : List ℕ) → 0 < length (names ns) → AllFit ns (names ns) 0 → Lawful ns
fit_names ns s f = record {
  some = s;
  few = elim (cases_lt 16 (length (names ns))) [
    | inl h ↦ absurd (omega (arith, (f 16 h).0))
    | inr h ↦ h
  ];
  proper = λ k h. (f k h).1;
  distinct = λ i j lt h e.
      let a = (f i (omega arith)).2 in
      let b = (f j h).2 in
      let c : Some (0 + i) ≡ Some (0 + j) = sym a ∙ ap (number_of ns) e ∙ b in
      let d : 0 + i ≡ 0 + j = cc in
      omega arith;
}

pub fit_lawful : (ns : List ℕ) → AllFit ns (words ns) 0 → Lawful ns
fit_lawful [] f = absurd (true≢false (sym (f 0 (omega arith)).1))
fit_lawful (b ∷ bs) f = fit_names (b ∷ bs) (some_words (b ∷ bs)) f

-- the words with their places, as the list check goes over them
abbrev pub placed : List ℕ → List (ℕ × List ℕ)
placed ns = enumerate_from 0 (slice_split (λ b. eqb b 32) ns)

abbrev pub Fitting : List ℕ → ℕ × List ℕ → Type 0
Fitting ns p = Fits ns p.1 p.0

fit_placed : (ns : List ℕ) → AllWithin (Fitting ns) (placed ns) 0 (length (placed ns)) → AllFit ns (words ns) 0
fit_placed ns a =
    let ws : List (List ℕ) = slice_split (λ b. eqb b 32) ns in
    let len = length-enumerate_from 0 ws in
    subst (λ (vs : List (List ℕ)). AllFit ns vs 0) (sym (words_split ns))
    (λ k h. subst (Fitting ns) (get_or-enumerate_from 0 ws k (0, []) h) (a k (0, []) (omega arith) (omega arith)))

placed_fit : (ns : List ℕ) → AllFit ns (words ns) 0 → (k : ℕ) → k < length (placed ns) → Fitting ns (get_or (placed ns) k (0, []))
placed_fit ns f k h =
    let ws : List (List ℕ) = slice_split (λ b. eqb b 32) ns in
    let lt : k < length ws = omega (arith, length-enumerate_from 0 ws) in
    let g : AllFit ns ws 0 = subst (λ (vs : List (List ℕ)). AllFit ns vs 0) (words_split ns) f in
    subst (Fitting ns) (sym (get_or-enumerate_from 0 ws k (0, []) lt)) (g k lt)

pub lawful_decided : (ns : List ℕ) (r : Bool) → MatchBool r (AllWithin (Fitting ns) (placed ns) 0 (length (placed ns))) ((k : ℕ) × (k < length (placed ns)) × HoldsAt (λ p. Fitting ns p → ⊥) (placed ns) k) → Decides r (Lawful ns)
lawful_decided ns true a = (λ _. fit_lawful ns (fit_placed ns a), λ _. refl)
lawful_decided ns false (k, h, n) = (λ e. absurd (true≢false (sym e)), λ l. absurd (n (0, []) (placed_fit ns (lawful_fit ns l) k h)))

-- a look-up finds exactly the names that are there
looked : (ws : List (List ℕ)) (x : List ℕ) (r : Option ℕ) → r ≡ position (λ w. bytes_eq w x) ws → Looked ws x r
looked ws x None e = λ k h f.
    let t : List ℕ → Bool = λ w. bytes_eq w x in
    elim (cases_Bool (ltb (position_or_len t ws) (length ws))) [
      | inl y ↦ let d : None ≡ Some (position_or_len t ws) = e ∙ cond-true _ _ _ y in cc
      | inr y ↦
          let n = ltb-false _ _ y in
          true≢false (sym (prefix_len_passes (λ w. not (t w)) ws k [] (omega arith)) ∙ ap not ((bytes_eq-Decides (get_or ws k []) x).1 f))
    ]
looked ws x (Some k) e = let p = position-Some (λ w. bytes_eq w x) ws k [] (sym e) in (p.0, (bytes_eq-Decides (get_or ws k []) x).0 p.1)

pub number_looked : (ns x : List ℕ) (r : Option ℕ) → r ≡ number_of ns x → Looked (names ns) x r
number_looked ns x r e = looked (names ns) x r (e ∙ place_position x (names ns))

pub number_small : (ns x : List ℕ) (k : ℕ) → Few (names ns) → number_of ns x ≡ Some k → k < 16
number_small ns x k l e = omega (arith, l, (number_looked ns x (Some k) (sym e)).0)
