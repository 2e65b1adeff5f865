-- Numbering after other lines adds no more lines than numbering alone.
use Rattle.std.proofs.Common.{◌≡◌, ℕ, zero, suc, ◌+◌, ◌<◌, ◌≤◌, Bool, true, false, cond, ◌&&◌, ◌||◌, eqb, ltb, [], ◌∷◌, ◌++◌, length, sym, refl, ap, ◌∙◌, ap₂, inl, inr, arith}
use Rattle.std.proofs.lemmas.Bool.{cases_lt, and_from, lt-ltb}
use Rattle.tables.specs.declared.line.Line.{Line}
use Rattle.tables.specs.Normal.{Normal}
use Rattle.tables.specs.Lines.{Lines, under, form, number, is_choice, total, choices}
use Rattle.tables.specs.Numbering.{kind, find, Placed, enter, over, join, place, tabled}
use Rattle.std.proofs.lemmas.List.Sums.{sum_by_push}
use Rattle.tables.proofs.Counts.{number_start, total_counts}
use Rattle.tables.proofs.Forms.{form_once}
use Rattle.tables.proofs.Places.{length_one, Tidy, none_tidy, Entered, enter_old, enter_new, enter_at, entered, keeps, longer, Placing, placed}

pub total_one : (q : Line → Bool) (t : Lines) (l : Line) → total q (t ++ (l ∷ [])) ≡ total q t + cond (q l) 1 0
total_one q t l = total_counts q (t ++ (l ∷ [])) ∙ sum_by_push (λ x. cond (q x) 1 0) t l ∙ ap (λ (n : ℕ). n + cond (q l) 1 0) (sym (total_counts q t))

pub number_all : (t : Lines) (k : ℕ) → number (λ l. true) t k ≡ k
unfolding number
number_all t zero = refl
number_all t (suc k) = ap suc (number_all t k)

pub enter_grows : (q : Line → Bool) (l : Line) (t : Lines) → total q t ≤ total q (enter l t).table
enter_grows q l t =
    elim (cases_lt (find l t) (length t)) [
      | inl h ↦ omega (arith, ap (total q) (enter_old l t h))
      | inr h ↦ omega (arith, ap (total q) (enter_new l t h) ∙ total_one q t l)
    ]

pub length_grows : (l : Line) (t : Lines) → length t ≤ length (enter l t).table
length_grows l t = omega (arith, enter_grows (λ x. true) l t, number_all t (length t), number_all (enter l t).table (length (enter l t).table))

-- every form of s is one of t
Inside : Lines → Lines → Type 0
Inside s t = (k : ℕ) → k < length s → (m : ℕ) × (m < length t) × (form t m ≡ form s k)

module _ (q : Line → Bool) (by_kind : (l m : Line) → kind l ≡ kind m → q l ≡ q m) where
  -- from t no more lines are added than from s
  Leaner : (Lines → Placed) → Type 0
  Leaner p =
      (s t : Lines) → Tidy s → Tidy t → Inside s t
      → Inside (p s).table (p t).table × (total q (p t).table + total q s ≤ total q t + total q (p s).table)

  -- a line of the same form and kind is entered into both
  lean_enter : (s t : Lines) (l m : Line) (H : Normal) → Inside s t → Entered l s (enter l s) → Entered m t (enter m t) → kind l ≡ kind m
      → form (enter l s).table (enter l s).at ≡ H → form (enter m t).table (enter m t).at ≡ H
      → Inside (enter l s).table (enter m t).table × (total q (enter m t).table + total q s ≤ total q t + total q (enter l s).table)
  unfolding Inside
  lean_enter s t l m H i es et same_kind ms mt =
      let s' : Lines = (enter l s).table in
      let t' : Lines = (enter m t).table in
      let up : length t ≤ length t' = longer t t' et.more et.extends in (
        λ k h. elim (cases_lt k (length s)) [
          | inl a ↦ let w = i k a in (w.0, omega (arith, w.1), keeps t t' et.more w.0 et.extends w.1 ∙ w.2 ∙ sym (keeps s s' es.more k es.extends a))
          | inr a ↦ ((enter m t).at, et.within, mt ∙ sym (ap (form s') (es.new k a h) ∙ ms))
        ],
        elim (cases_lt (find m t) (length t)) [
          | inl a ↦ omega (arith, ap (total q) (enter_old m t a), enter_grows q l s)
          | inr a ↦ elim (cases_lt (find l s) (length s)) [
            | inl b ↦
                let e : s' ≡ s = enter_old l s b in
                let w = i (find l s) b in
                let f : form s (find l s) ≡ H = ap₂ form (sym e) (sym (enter_at l s)) ∙ ms in
                let n = form_once t' et.tidy.earlier et.tidy.apart w.0 (enter m t).at (omega (arith, w.1)) et.within
                (keeps t t' et.more w.0 et.extends w.1 ∙ w.2 ∙ f ∙ sym mt) in
                absurd (omega (arith, n, w.1, enter_at m t))
            | inr b ↦
                omega (
                  arith,
                  ap (total q) (enter_new m t a) ∙ total_one q t m,
                  ap (total q) (enter_new l s b) ∙ total_one q s l,
                  ap (λ (b : Bool). cond {A = ℕ} b 1 0) (by_kind l m same_kind),
                )
          ]
        ],
      )

  leaf_lean : (l : Line) (F : Normal) → ((k : ℕ) → under k l ≡ true) → Placing F (enter l) → Leaner (enter l)
  unfolding Leaner
  leaf_lean l F u h s t a b i =
      lean_enter s t l l F i (entered l s a (u (length s))) (entered l t b (u (length t))) refl (h s a).means (h t b).means

  over_lean : (l : ℕ → Line) (F G : Normal) (p : Lines → Placed) → ((i k : ℕ) → under k (l i) ≡ ltb i k) → ((i j : ℕ) → kind (l i) ≡ kind (l j))
      → Placing F p → Placing G (over l p) → Leaner p → Leaner (over l p)
  unfolding Leaner over
  over_lean l F G p u e h g n s t a b i =
      let x = h s a in
      let y = h t b in
      let r = n s t a b i in
      let z = lean_enter (p s).table (p t).table (l (p s).at) (l (p t).at) G r.0
      (entered (l (p s).at) (p s).table x.tidy (u (p s).at (length (p s).table) ∙ lt-ltb _ _ x.within))
      (entered (l (p t).at) (p t).table y.tidy (u (p t).at (length (p t).table) ∙ lt-ltb _ _ y.within))
      (e (p s).at (p t).at) (g s a).means (g t b).means in
      (z.0, omega (arith, r.1, z.1))

  join_lean : (l : ℕ → ℕ → Line) (F G H : Normal) (p o : Lines → Placed) → ((i j k : ℕ) → under k (l i j) ≡ (ltb i k && ltb j k))
      → ((i j a b : ℕ) → kind (l i j) ≡ kind (l a b))
      → Placing F p → Placing G o → Placing H (join l p o) → Leaner p → Leaner o → Leaner (join l p o)
  unfolding Leaner join
  join_lean l F G H p o u e hp ho h n m s t a b i =
      let entering : (t : Lines) → Tidy t → Entered (l (p t).at (o (p t).table).at) (o (p t).table).table (enter (l (p t).at (o (p t).table).at) (o (p t).table).table) =
      λ t b.
      let x = hp t b in
      let y = ho (p t).table x.tidy in
      let up : length (p t).table ≤ length (o (p t).table).table = longer _ _ y.more y.extends in
      entered (l (p t).at (o (p t).table).at) (o (p t).table).table y.tidy
      (u (p t).at (o (p t).table).at (length (o (p t).table).table) ∙ and_from _ _ (lt-ltb _ _ (omega (arith, x.within))) (lt-ltb _ _ y.within)) in
      let r = n s t a b i in
      let v = m (p s).table (p t).table (hp s a).tidy (hp t b).tidy r.0 in
      let z = lean_enter (o (p s).table).table (o (p t).table).table _ _ H v.0 (entering s a) (entering t b)
      (e (p s).at (o (p s).table).at (p t).at (o (p t).table).at) (h s a).means (h t b).means in
      (z.0, omega (arith, r.1, v.1, z.1))

  lean : (F : Normal) → Leaner (place F)
  unfolding place
  lean Normal.top = leaf_lean Line.True Normal.top (λ k. refl) (placed Normal.top)
  lean Normal.bottom = leaf_lean Line.False Normal.bottom (λ k. refl) (placed Normal.bottom)
  lean (Normal.literal s b) = leaf_lean (Line.Literal s b) (Normal.literal s b) (λ k. refl) (placed (Normal.literal s b))
  lean (Normal.and f g) = join_lean Line.And f g (Normal.and f g) (place f) (place g) (λ i j k. refl) (λ i j a b. refl) (placed f) (placed g) (placed (Normal.and f g)) (lean f) (lean g)
  lean (Normal.or f g) = join_lean Line.Or f g (Normal.or f g) (place f) (place g) (λ i j k. refl) (λ i j a b. refl) (placed f) (placed g) (placed (Normal.or f g)) (lean f) (lean g)
  lean (Normal.always f) = over_lean Line.Always f (Normal.always f) (place f) (λ i k. refl) (λ i j. refl) (placed f) (placed (Normal.always f)) (lean f)
  lean (Normal.eventually f) = over_lean Line.Eventually f (Normal.eventually f) (place f) (λ i k. refl) (λ i j. refl) (placed f) (placed (Normal.eventually f)) (lean f)
  lean (Normal.next f) = over_lean Line.Next f (Normal.next f) (place f) (λ i k. refl) (λ i j. refl) (placed f) (placed (Normal.next f)) (lean f)

  adds : (F : Normal) (t : Lines) → Tidy t → total q (place F t).table ≤ total q t + total q (tabled F)
  unfolding Leaner Inside
  adds F t o = omega (arith, (lean F [] t none_tidy o (λ k h. absurd (omega arith))).1, number_start q [])

pub adds_lines : (F : Normal) (t : Lines) → Tidy t → length (place F t).table ≤ length t + length (tabled F)
adds_lines F t o =
    omega (arith, adds (λ l. true) (λ l m e. refl) F t o, number_all t (length t), number_all (tabled F) (length (tabled F)), number_all (place F t).table (length (place F t).table))

choice_kind : (l : Line) → is_choice l ≡ (eqb (kind l) 5 || eqb (kind l) 7)
choice_kind Line.True = refl
choice_kind Line.False = refl
choice_kind (Line.Literal s true) = refl
choice_kind (Line.Literal s false) = refl
choice_kind (Line.And i j) = refl
choice_kind (Line.Or i j) = refl
choice_kind (Line.Always i) = refl
choice_kind (Line.Eventually i) = refl
choice_kind (Line.Next i) = refl

pub adds_choices : (F : Normal) (t : Lines) → Tidy t → choices (place F t).table ≤ choices t + choices (tabled F)
adds_choices = adds is_choice (λ l m e. choice_kind l ∙ ap (λ (k : ℕ). eqb k 5 || eqb k 7) e ∙ sym (choice_kind m))

-- the table of two joined forms
pub joined_lines : (F G : Normal) → length (tabled (Normal.and F G)) ≤ length (tabled F) + length (tabled G) + 1
unfolding place join
joined_lines F G =
    let t : Lines = tabled F in
    let u : Lines = (place G t).table in
    let l : Line = Line.And (place F []).at (place G t).at in
    elim (cases_lt (find l u) (length u)) [
      | inl h ↦ omega (arith, ap length (enter_old l u h), adds_lines G t (placed F [] none_tidy).tidy)
      | inr h ↦ omega (arith, ap length (enter_new l u h), length_one u l, adds_lines G t (placed F [] none_tidy).tidy)
    ]

pub joined_choices : (F G : Normal) → choices (tabled (Normal.and F G)) ≤ choices (tabled F) + choices (tabled G)
unfolding place join
joined_choices F G =
    let t : Lines = tabled F in
    let u : Lines = (place G t).table in
    let l : Line = Line.And (place F []).at (place G t).at in
    elim (cases_lt (find l u) (length u)) [
      | inl h ↦ omega (arith, ap choices (enter_old l u h), adds_choices G t (placed F [] none_tidy).tidy)
      | inr h ↦ omega (arith, ap choices (enter_new l u h), total_one is_choice u l, adds_choices G t (placed F [] none_tidy).tidy)
    ]
