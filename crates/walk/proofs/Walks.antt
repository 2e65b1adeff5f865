-- The walk, line by line, and the stack, place by place.
use Rattle.std.proofs.Common.{◌≡◌, ℕ, zero, suc, ◌+◌, ◌-◌, ◌^◌, ◌<◌, ◌≤◌, Bool, true, false, cond, List, [], ◌∷◌, ◌++◌, length, get_or, sym, refl, ap, ◌∙◌, subst, inl, inr, append_assoc, append-nil, pow-suc, add-one, arith}
use Rattle.std.proofs.lemmas.Bool.{cases_Bool, cases_eq}
use Rattle.std.proofs.lemmas.List.{get_or_append_left, get_or_push, length_push}
use Rattle.tables.specs.declared.line.Line.{Line}
use Rattle.graph.specs.Sets.{has}
use Rattle.tables.specs.Lines.{Lines, line, is_choice}
use Rattle.graph.specs.Numbers.{eventuality, choice_of}
use Rattle.walk.specs.declared.found.Found.{Found}
use Rattle.walk.specs.declared.found.Pass.{Pass}
use Rattle.walk.specs.Walk.{steps, each, walk, rest, load, from_pass, pass0}
use Rattle.walk.specs.Stack.{Room}
use Rattle.walk.proofs.Evs.{chs_choice, chs_more}

pub walk_suc : (t : Lines) (k : ℕ) (f : Found) → walk t (suc k) f ≡ cond (has f.seen k) (each (steps (line t k) k (eventuality t k) f) (walk t k)) (walk t k f)
unfolding walk
walk_suc t k f = refl

pub walk_none : (t : Lines) (f : Found) → walk t 0 f ≡ f ∷ []
unfolding walk
walk_none t f = refl

at_suc : (t : Lines) (k : ℕ) (f : Found) → 0 < k → walk t k f ≡ cond (has f.seen (k - 1)) (each (steps (line t (k - 1)) (k - 1) (eventuality t (k - 1)) f) (walk t (k - 1))) (walk t (k - 1) f)
at_suc t k f l = let e : k ≡ suc (k - 1) = omega arith in ap (λ (x : ℕ). walk t x f) e ∙ walk_suc t (k - 1) f

pub walk_skip : (t : Lines) (k : ℕ) (f : Found) → 0 < k → has f.seen (k - 1) ≡ false → walk t k f ≡ walk t (k - 1) f
walk_skip t k f l h = at_suc t k f l ∙ ap (λ (b : Bool). cond b (each (steps (line t (k - 1)) (k - 1) (eventuality t (k - 1)) f) (walk t (k - 1))) (walk t (k - 1) f)) h

pub walk_hit : (t : Lines) (k : ℕ) (f : Found) (fs : List Found) → 0 < k → has f.seen (k - 1) ≡ true
    → fs ≡ steps (line t (k - 1)) (k - 1) (eventuality t (k - 1)) f → walk t k f ≡ each fs (walk t (k - 1))
walk_hit t k f fs l h e =
    at_suc t k f l ∙ ap (λ (b : Bool). cond b (each (steps (line t (k - 1)) (k - 1) (eventuality t (k - 1)) f) (walk t (k - 1))) (walk t (k - 1) f)) h
    ∙ ap (λ (xs : List Found). each xs (walk t (k - 1))) (sym e)

rest_suc : (t : Lines) (ps : List Pass) (d : ℕ) → rest t ps (suc d) ≡ from_pass t (get_or ps d pass0) ++ rest t ps d
unfolding rest
rest_suc t ps d = refl

pub rest_none : (t : Lines) (ps : List Pass) → rest t ps 0 ≡ []
unfolding rest
rest_none t ps = refl

load_suc : (ps : List Pass) (d : ℕ) → load ps (suc d) ≡ 2 ^ (get_or ps d pass0).line + load ps d
unfolding load
load_suc ps d = refl

-- what stands above the first passes does not matter to them
rest_below : (t : Lines) (ps more : List Pass) (d : ℕ) → d ≤ length ps → rest t (ps ++ more) d ≡ rest t ps d
unfolding rest
rest_below t ps more zero l = refl
rest_below t ps more (suc d) l =
    ap (λ (q : Pass). from_pass t q ++ rest t (ps ++ more) d) (get_or_append_left ps more pass0 d (omega arith))
    ∙ ap (λ (xs : List Found). from_pass t (get_or ps d pass0) ++ xs) (rest_below t ps more d (omega arith))

load_below : (ps more : List Pass) (d : ℕ) → d ≤ length ps → load (ps ++ more) d ≡ load ps d
unfolding load
load_below ps more zero l = refl
load_below ps more (suc d) l =
    ap (λ (q : Pass). 2 ^ q.line + load (ps ++ more) d) (get_or_append_left ps more pass0 d (omega arith))
    ∙ ap (λ (x : ℕ). 2 ^ (get_or ps d pass0).line + x) (load_below ps more d (omega arith))

-- a stack `new` of the stack `old` with one more pass on it
module _ (old new : List Pass) (p : Pass) (e : new ≡ old ++ p ∷ []) where
  long : length new ≡ suc (length old)
  long = ap length e ∙ length_push old p ∙ add-one (length old)

  top : get_or new (length old) pass0 ≡ p
  top = ap (λ (ps : List Pass). get_or ps (length old) pass0) e ∙ get_or_push old p pass0 (length old) refl

  lower : (i : ℕ) → i < length old → get_or new i pass0 ≡ get_or old i pass0
  lower i l = ap (λ (ps : List Pass). get_or ps i pass0) e ∙ get_or_append_left old (p ∷ []) pass0 i l

  pub rest_push : (t : Lines) → rest t new (length new) ≡ from_pass t p ++ rest t old (length old)
  rest_push t =
      ap (rest t new) long ∙ rest_suc t new (length old) ∙ ap (λ (q : Pass). from_pass t q ++ rest t new (length old)) top
      ∙ ap (λ (ps : List Pass). from_pass t p ++ rest t ps (length old)) e
      ∙ ap (λ (xs : List Found). from_pass t p ++ xs) (rest_below t old (p ∷ []) (length old) (omega arith))

  pub load_push : load new (length new) ≡ 2 ^ p.line + load old (length old)
  load_push =
      ap (load new) long ∙ load_suc new (length old) ∙ ap (λ (q : Pass). 2 ^ q.line + load new (length old)) top
      ∙ ap (λ (ps : List Pass). 2 ^ p.line + load ps (length old)) e
      ∙ ap (λ (x : ℕ). 2 ^ p.line + x) (load_below old (p ∷ []) (length old) (omega arith))

  module _ (t : Lines) (n : ℕ) where
    Fits : ℕ → Pass → Type 0
    Fits i q = (q.line ≤ n) × (i + choice_of t q.line ≤ 16)

    pub room_push : Room t n old (length old) → p.line ≤ n → length old + choice_of t p.line ≤ 16 → Room t n new (length new)
    unfolding Fits
    room_push room a b i l =
        elim (cases_eq i (length old)) [
          | inl q ↦ subst (λ (j : ℕ). Fits j (get_or new j pass0)) (sym q) (subst (Fits (length old)) (sym top) (a, b))
          | inr q ↦
              let h : i < length old = omega (arith, long) in
              subst (Fits i) (sym (lower i h)) (room i h)
        ]

pub rest_one : (t : Lines) (old new : List Pass) (p : Pass) → old ≡ [] → new ≡ old ++ p ∷ [] → rest t new (length new) ≡ from_pass t p
rest_one t old new p none e =
    rest_push old new p e t ∙ ap (λ (ps : List Pass). from_pass t p ++ rest t ps (length ps)) none
    ∙ ap (λ (xs : List Found). from_pass t p ++ xs) (rest_none t []) ∙ append-nil (from_pass t p)

-- only a choice line leads two ways
two_ways : (l : Line) (k e : ℕ) (f : Found) → length (steps l k e f) ≡ 2 → is_choice l ≡ true
two_ways Line.True k e f h = absurd (omega arith)
two_ways Line.False k e f h = absurd (omega arith)
two_ways (Line.Literal s true) k e f h =
    elim (cases_Bool (has f.off s)) [ inl q ↦ absurd (omega (arith, rw q at h)) | inr q ↦ absurd (omega (arith, rw q at h)) ]
two_ways (Line.Literal s false) k e f h =
    elim (cases_Bool (has f.on s)) [ inl q ↦ absurd (omega (arith, rw q at h)) | inr q ↦ absurd (omega (arith, rw q at h)) ]
two_ways (Line.And i j) k e f h = absurd (omega arith)
two_ways (Line.Or i j) k e f h = refl
two_ways (Line.Always i) k e f h = absurd (omega arith)
two_ways (Line.Eventually i) k e f h = refl
two_ways (Line.Next i) k e f h = absurd (omega arith)

pub two_choice : (t : Lines) (k : ℕ) (f g h : Found) → 0 < k → f ∷ g ∷ [] ≡ steps (line t (k - 1)) (k - 1) (eventuality t (k - 1)) h
    → choice_of t k ≡ choice_of t (k - 1) + 1
two_choice t k f g h l e =
    let q : k ≡ suc (k - 1) = omega arith in
    let c : is_choice (line t (k - 1)) ≡ true = two_ways (line t (k - 1)) (k - 1) (eventuality t (k - 1)) h (sym (ap length e)) in
    ap (choice_of t) q ∙ chs_choice t (k - 1) c ∙ sym (add-one (choice_of t (k - 1)))

pub chs_less : (t : Lines) (k : ℕ) → 0 < k → choice_of t (k - 1) ≤ choice_of t k
chs_less t k l =
    let q : suc (k - 1) ≡ k = omega arith in
    subst (λ (x : ℕ). choice_of t (k - 1) ≤ choice_of t x) q (chs_more t (k - 1))

pub pow_less : (k : ℕ) → 0 < k → 2 ^ k ≡ 2 ^ (k - 1) + 2 ^ (k - 1)
pow_less k l =
    let q : k ≡ suc (k - 1) = omega arith in
    let p = pow-suc 2 (k - 1) in
    ap (λ (x : ℕ). 2 ^ x) q ∙ omega arith

module _ (t : Lines) (k : ℕ) (f : Found) (all xs : List Found) (l : 0 < k) where
  pub went_by : has f.seen (k - 1) ≡ false → walk t k f ++ xs ≡ all → walk t (k - 1) f ++ xs ≡ all
  went_by h e = ap (λ (ys : List Found). ys ++ xs) (sym (walk_skip t k f l h)) ∙ e

  module _ (h : true ≡ has f.seen (k - 1)) where
    pub went_dead : [] ≡ steps (line t (k - 1)) (k - 1) (eventuality t (k - 1)) f → walk t k f ++ xs ≡ all → xs ≡ all
    went_dead s e = ap (λ (ys : List Found). ys ++ xs) (sym (walk_hit t k f [] l (sym h) s)) ∙ e

    pub went_one : (g : Found) → g ∷ [] ≡ steps (line t (k - 1)) (k - 1) (eventuality t (k - 1)) f → walk t k f ++ xs ≡ all → walk t (k - 1) g ++ xs ≡ all
    went_one g s e =
        ap (λ (ys : List Found). ys ++ xs) (sym (append-nil (walk t (k - 1) g)) ∙ sym (walk_hit t k f (g ∷ []) l (sym h) s)) ∙ e

    pub went_two : (g b : Found) → g ∷ b ∷ [] ≡ steps (line t (k - 1)) (k - 1) (eventuality t (k - 1)) f → walk t k f ++ xs ≡ all
        → walk t (k - 1) g ++ (walk t (k - 1) b ++ xs) ≡ all
    went_two g b s e =
        sym (append_assoc (walk t (k - 1) g) (walk t (k - 1) b) xs)
        ∙ ap (λ (ys : List Found). (walk t (k - 1) g ++ ys) ++ xs) (sym (append-nil (walk t (k - 1) b)))
        ∙ ap (λ (ys : List Found). ys ++ xs) (sym (walk_hit t k f (g ∷ b ∷ []) l (sym h) s)) ∙ e
