-- The steps of the code's numbering are those of `place`.
use Rattle.std.proofs.Common.{◌≡◌, ℕ, zero, suc, ◌<◌, ◌≤◌, Bool, true, false, not, nat_lt, ◌&&◌, ◌⊎◌, List, [], ◌∷◌, ◌++◌, length, get_or, set, Some, None, Option, IfNone, sym, refl, ap, ◌∙◌, subst, ap₂, inl, inr, append-nil, arith}
use Rattle.std.proofs.lemmas.Bool.{cases_lt, and_from}
use Rattle.std.proofs.lemmas.Option.{same_Some}
use Rattle.rules.specs.declared.syntax.Atom.{Atom}
use Rattle.rules.specs.declared.syntax.Atom.TheVariants.{True, False, Signal}
use Rattle.rules.specs.declared.syntax.Unary.TheVariants.{Always, Eventually, Next}
use Rattle.rules.specs.declared.syntax.Binary.TheVariants.{Equivalent}
use Rattle.rules.specs.declared.syntax.Entry.{Entry}
use Rattle.rules.specs.declared.syntax.Entry.TheVariants.{Leaf, One, Two}
use Rattle.rules.specs.Entries.{nothing}
use Rattle.rules.specs.Formula.{Formula, atom, unary, binary}
use Rattle.tables.specs.declared.line.Line.{Line}
use Rattle.tables.specs.declared.memo.Memo.{Memo}
use Rattle.tables.specs.Normal.{Normal, nnf}
use Rattle.tables.specs.Lines.{Lines, under, form}
use Rattle.tables.specs.Numbering.{find, Placed, enter, over, join, place}
use Rattle.tables.specs.Tables.{drafted, Goes}
use Rattle.tables.proofs.Made.{draft_tidy, number_under}
use Rattle.tables.specs.declared.table.Draft.{Draft}
use Rattle.tables.specs.Memos.{place_of, known, learnt, Remembers}
use Rattle.tables.specs.Parts.{leaf, signed, joined, formulas, form_at, told}
use Rattle.tables.specs.declared.memo.Signed.{Signed}
use Rattle.tables.specs.declared.normal.Numberer.{Numberer}
use Rattle.tables.proofs.Places.{enter_old, enter_new, Tidy, keeps, longer, placed, met_again}
use Rattle.tables.proofs.Growth.{length_grows}

-- a form goes over into a line over its sides, turned where the sign is false
pub leaf_place : (b : Bool) (a : Atom) (t : Lines) → place (nnf b (atom a)) t ≡ enter (signed b (leaf a)) t
unfolding place
leaf_place true True t = refl
leaf_place false True t = refl
leaf_place true False t = refl
leaf_place false False t = refl
leaf_place true (Signal s) t = refl
leaf_place false (Signal s) t = refl

pub always_place : (b : Bool) (f : Formula) (t : Lines) → place (nnf b (unary Always f)) t ≡ over (λ i. signed b (Line.Always i)) (place (nnf b f)) t
unfolding place
always_place true f t = refl
always_place false f t = refl

pub eventually_place : (b : Bool) (f : Formula) (t : Lines) → place (nnf b (unary Eventually f)) t ≡ over (λ i. signed b (Line.Eventually i)) (place (nnf b f)) t
unfolding place
eventually_place true f t = refl
eventually_place false f t = refl

pub next_place : (b : Bool) (f : Formula) (t : Lines) → place (nnf b (unary Next f)) t ≡ over (λ i. signed b (Line.Next i)) (place (nnf b f)) t
unfolding place
next_place true f t = refl
next_place false f t = refl

pub joined_place : (b : Bool) (F G : Normal) (t : Lines) → place (joined b F G) t ≡ join (λ i j. signed b (Line.And i j)) (place F) (place G) t
unfolding place
joined_place true F G t = refl
joined_place false F G t = refl

pub equivalent_place : (b : Bool) (f g : Formula) (t : Lines) → place (nnf b (binary Equivalent f g)) t
    ≡ join (λ i j. signed b (Line.Or i j)) (place (joined b (nnf b f) (nnf b g))) (place (joined b (nnf (not b) f) (nnf (not b) g))) t
unfolding place
equivalent_place true f g t = refl
equivalent_place false f g t = refl

-- the dual of a line has its operands
pub signed_under : (n : ℕ) (b : Bool) (l : Line) → under n (signed b l) ≡ under n l
signed_under n true l = refl
signed_under n false Line.True = refl
signed_under n false Line.False = refl
signed_under n false (Line.Literal s b) = refl
signed_under n false (Line.And i j) = refl
signed_under n false (Line.Or i j) = refl
signed_under n false (Line.Always i) = refl
signed_under n false (Line.Eventually i) = refl
signed_under n false (Line.Next i) = refl

-- a form was numbered after tidy lines: where its line is, and how many there are
pub place_within : (F : Normal) (t u : Lines) (a : ℕ) → Tidy t → place F t ≡ record { table = u; at = a } → (a < length u) × (length t ≤ length u)
place_within F t u a d e =
    let r = placed F t d in
    subst (λ (p : Placed). (p.at < length p.table) × (length t ≤ length p.table)) e (r.within, longer t (place F t).table r.more r.extends)

-- and the numbers of two sides, one after the other, are there
pub both_number_under : (s d u : Draft) (k l : ℕ) (F G : Normal) → place F (drafted s) ≡ record { table = drafted d; at = k } → place G (drafted d) ≡ record { table = drafted u; at = l }
    → (nat_lt k u.len && nat_lt l u.len) ≡ true
both_number_under s d u k l F G e g =
    let p = place_within F (drafted s) (drafted d) k (draft_tidy s) e in
    let q = place_within G (drafted d) (drafted u) l (draft_tidy d) g in
    and_from _ _ (number_under u k (omega (arith, p.0, q.1))) (number_under u l q.0)

module _ (H : Normal) (t : Lines) where
  -- the last line of a form is entered over one side
  pub goes_over : (l : ℕ → Line) (G : Normal) (u v : Lines) (a : ℕ) (r : Option ℕ) → place H t ≡ over l (place G) t → place G t ≡ record { table = u; at = a }
      → Goes (enter (l a) u) v r → Goes (place H t) v r
  unfolding over
  goes_over l G u v a r h e = subst (λ (p : Placed). Goes p v r) (sym (h ∙ ap (λ (p : Placed). enter (l p.at) p.table) e))

  -- and over two
  pub goes_join : (l : ℕ → ℕ → Line) (F G : Normal) (s u v : Lines) (a b : ℕ) (r : Option ℕ) → place H t ≡ join l (place F) (place G) t
      → place F t ≡ record { table = s; at = a } → place G s ≡ record { table = u; at = b } → Goes (enter (l a b) u) v r → Goes (place H t) v r
  unfolding join
  goes_join l F G s u v a b r h e g =
      subst (λ (p : Placed). Goes p v r) (sym (h
      ∙ ap (λ (p : Placed). enter (l p.at (place G p.table).at) (place G p.table).table) e
      ∙ ap (λ (p : Placed). enter (l a p.at) p.table) g))

  -- what does not fit on one side does not fit at all
  pub full_over : (l : ℕ → Line) (G : Normal) → place H t ≡ over l (place G) t → 121 < length (place G t).table → 121 < length (place H t).table
  unfolding over
  full_over l G h g = omega (arith, ap (λ (p : Placed). length p.table) h, length_grows (l (place G t).at) (place G t).table)

  pub full_right : (l : ℕ → ℕ → Line) (F G : Normal) (s : Lines) (a : ℕ) → place H t ≡ join l (place F) (place G) t → place F t ≡ record { table = s; at = a }
      → 121 < length (place G s).table → 121 < length (place H t).table
  unfolding join
  full_right l F G s a h e g =
      let p : Placed = place F t in
      let same : length (place G p.table).table ≡ length (place G s).table = ap (λ (q : Placed). length (place G q.table).table) e in
      omega (arith, ap (λ (q : Placed). length q.table) h, length_grows (l p.at (place G p.table).at) (place G p.table).table)

  pub full_left : (l : ℕ → ℕ → Line) (F G : Normal) → place H t ≡ join l (place F) (place G) t → Tidy t → 121 < length (place F t).table → 121 < length (place H t).table
  unfolding join
  full_left l F G h d g =
      let p : Placed = place F t in
      let left = placed F t d in
      let right = placed G p.table left.tidy in
      omega (
        arith,
        ap (λ (q : Placed). length q.table) h,
        length_grows (l p.at (place G p.table).at) (place G p.table).table,
        longer p.table (place G p.table).table right.more right.extends,
      )

-- the form of a signed entry is laid as its sign says, over its operands' forms
module _ (s : Numberer) (p : Signed) (h : p.0 < length s.entries.now) where
  abbrev f : ℕ → Formula
  f = formulas s.entries.now

  abbrev t : Lines
  t = drafted s.draft

  form_laid : (x : Entry) → get_or s.entries.now p.0 nothing ≡ x → place (form_at s.entries.now p) t ≡ place (nnf p.1 (told f x)) t
  form_laid x q = ap (λ (F : Normal). place F t) (sym (subst (λ (y : Entry). nnf p.1 (told f y) ≡ form_at s.entries.now p) q (s.told p.0 h p.1)))

  pub laid_leaf : (a : Atom) → get_or s.entries.now p.0 nothing ≡ Leaf a → place (form_at s.entries.now p) t ≡ enter (signed p.1 (leaf a)) t
  laid_leaf a q = form_laid (Leaf a) q ∙ leaf_place p.1 a t

  pub laid_always : (i : ℕ) → get_or s.entries.now p.0 nothing ≡ One Always i → place (form_at s.entries.now p) t ≡ over (λ k. signed p.1 (Line.Always k)) (place (nnf p.1 (f i))) t
  laid_always i q = form_laid (One Always i) q ∙ always_place p.1 (f i) t

  pub laid_eventually : (i : ℕ) → get_or s.entries.now p.0 nothing ≡ One Eventually i → place (form_at s.entries.now p) t ≡ over (λ k. signed p.1 (Line.Eventually k)) (place (nnf p.1 (f i))) t
  laid_eventually i q = form_laid (One Eventually i) q ∙ eventually_place p.1 (f i) t

  pub laid_next : (i : ℕ) → get_or s.entries.now p.0 nothing ≡ One Next i → place (form_at s.entries.now p) t ≡ over (λ k. signed p.1 (Line.Next k)) (place (nnf p.1 (f i))) t
  laid_next i q = form_laid (One Next i) q ∙ next_place p.1 (f i) t

  pub laid_equivalent : (i j : ℕ) → get_or s.entries.now p.0 nothing ≡ Two Equivalent i j → place (form_at s.entries.now p) t
      ≡ join (λ k l. signed p.1 (Line.Or k l)) (place (joined p.1 (nnf p.1 (f i)) (nnf p.1 (f j)))) (place (joined p.1 (nnf (not p.1) (f i)) (nnf (not p.1) (f j)))) t
  laid_equivalent i j q = form_laid (Two Equivalent i j) q ∙ equivalent_place p.1 (f i) (f j) t

-- the two sides of a question
pub and_place : (F G : Normal) (s t u : Lines) (a b : ℕ) → s ≡ [] → place F s ≡ record { table = t; at = a } → place G t ≡ record { table = u; at = b }
    → place (Normal.and F G) [] ≡ enter (Line.And a b) u
unfolding place join
and_place F G s t u a b n e h =
    ap (λ (p : Placed). enter (Line.And p.at (place G p.table).at) (place G p.table).table) (ap (place F) (sym n) ∙ e)
    ∙ ap (λ (p : Placed). enter (Line.And a p.at) p.table) h

-- a list after a write at i, read at j
set_cases : {A : Type 0} (xs : List A) (i j : ℕ) (v d : A) → (get_or (set xs i v) j d ≡ get_or xs j d) ⊎ ((j ≡ i) × (get_or (set xs i v) j d ≡ v))
set_cases [] i j v d = inl refl
set_cases (x ∷ xs) zero zero v d = inr (refl, refl)
set_cases (x ∷ xs) zero (suc j) v d = inl refl
set_cases (x ∷ xs) (suc i) zero v d = inl refl
set_cases (x ∷ xs) (suc i) (suc j) v d = elim (set_cases xs i j v d) [ inl e ↦ inl e | inr e ↦ inr (ap suc e.0, e.1) ]

same_sign : (b c : Bool) → place_of b ≡ place_of c → b ≡ c
same_sign true true e = refl
same_sign true false e = absurd (omega arith)
same_sign false true e = absurd (omega arith)
same_sign false false e = refl

-- what a memo knows after it has learnt one thing more
learnt_known : (m : Memo) (b c : Bool) (i j k : ℕ) → (known (learnt m b i k) c j ≡ known m c j) ⊎ ((c ≡ b) × (j ≡ i) × (known (learnt m b i k) c j ≡ Some k))
learnt_known m b c i j k =
    let row : List (Option ℕ) = get_or m.numbers i [] in
    let new : List (Option ℕ) = set row (place_of b) (Some k) in
    elim (set_cases m.numbers i j new []) [
      | inl e ↦ inl (ap (λ (xs : List (Option ℕ)). get_or xs (place_of c) None) e)
      | inr e ↦ elim (set_cases row (place_of b) (place_of c) (Some k) None) [
        | inl g ↦ inl (ap (λ (xs : List (Option ℕ)). get_or xs (place_of c) None) e.1 ∙ g ∙ ap (λ (n : ℕ). get_or (get_or m.numbers n []) (place_of c) None) (sym e.0))
        | inr g ↦ inr (same_sign c b g.0, e.0, ap (λ (xs : List (Option ℕ)). get_or xs (place_of c) None) e.1 ∙ g.1)
      ]
    ]

extends : (l : Line) (t : Lines) → (more : Lines) × ((enter l t).table ≡ t ++ more)
extends l t =
    elim (cases_lt (find l t) (length t)) [
      | inl h ↦ ([], enter_old l t h ∙ sym (append-nil t))
      | inr h ↦ (l ∷ [], enter_new l t h)
    ]

module _ (f : ℕ → Formula) (m : Memo) where
  -- more lines come
  remembers_more : (t u more : Lines) → u ≡ t ++ more → Remembers f m t → Remembers f m u
  remembers_more t u more e h b i k q =
      let r = h b i k q in
      let low = r.0 in
      (omega (arith, longer t u more e), keeps t u more k e low ∙ r.1)

  pub remembers_entered : (l : Line) (t u : Lines) (r : Option ℕ) → Goes (enter l t) u r → IfNone r (u ≡ t) → Remembers f m t → Remembers f m u
  remembers_entered l t u (Some k) g e h =
      let x = extends l t in
      remembers_more t u x.0 (sym (ap (λ (p : Placed). p.table) g) ∙ x.1) h
  remembers_entered l t u None g e h = subst (Remembers f m) (sym e) h

-- a form that is known was numbered
pub known_place : (s : Numberer) (p : Signed) (k : ℕ) → known s.memo p.1 p.0 ≡ Some k → place (form_at s.entries.now p) (drafted s.draft) ≡ record { table = drafted s.draft; at = k }
known_place s p k e = let r = s.remembered p.1 p.0 k e in met_again (form_at s.entries.now p) (drafted s.draft) (draft_tidy s.draft) k r.0 r.1

-- and one that was numbered is learnt
pub remembers_learnt : (s r : Numberer) (p : Signed) (k : ℕ) → r.entries ≡ s.entries → place (form_at s.entries.now p) (drafted s.draft) ≡ record { table = drafted r.draft; at = k }
    → Remembers (formulas r.entries.now) (learnt r.memo p.1 p.0 k) (drafted r.draft)
remembers_learnt s r p k same e c j n q =
    let F : Normal = form_at s.entries.now p in
    let u : Lines = drafted r.draft in
    let a = placed F (drafted s.draft) (draft_tidy s.draft) in
    let means : form u k ≡ F = sym (ap (λ (x : Placed). form x.table x.at) e) ∙ a.means in
    let low : k < length u = (place_within F (drafted s.draft) u k (draft_tidy s.draft) e).0 in
    elim (learnt_known r.memo p.1 c p.0 j k) [
      | inl g ↦ r.remembered c j n (sym g ∙ q)
      | inr g ↦
          let same_number : k ≡ n = same_Some k n (sym g.2 ∙ q) in (
            omega arith,
            ap (form u) (sym same_number) ∙ means ∙ ap (λ (x : _). nnf p.1 (formulas x.now p.0)) (sym same) ∙ ap₂ (λ (x : Bool) (y : ℕ). nnf x (formulas r.entries.now y)) (sym g.0) (sym g.1),
          )
    ]
