-- The lines of a normal form: one for each of its parts, and the last for itself.
use Rattle.std.proofs.Common.{◌≡◌, ℕ, suc, ◌<◌, ◌≤◌, true, ◌&&◌, ltb, ◌⊎◌, [], ◌∷◌, ◌++◌, length, sym, refl, ap, ◌∙◌, subst, ap₂, inl, inr, append_assoc, append-nil, arith, length-append}
use lib.ListN.{get_or-append}
use Rattle.std.proofs.Math.Seq.{get_or-append_seam}
use Rattle.std.proofs.lemmas.Bool.{cases_lt, and_from, ltb-true, lt-ltb, cond-true, cond-false, le-ltb}
use Rattle.tables.specs.declared.line.Line.{Line}
use Rattle.tables.specs.Normal.{Normal, Part}
use Rattle.tables.specs.Lines.{Lines, line, under, Earlier, Apart, build, form}
use Rattle.tables.specs.Numbering.{find, Placed, enter, over, join, place}
use Rattle.tables.proofs.Same.{found, find_le, find_first}
use Rattle.tables.proofs.Forms.{sides, form_at, form_more, form_once}

pub length_one : (t : Lines) (l : Line) → length (t ++ (l ∷ [])) ≡ suc (length t)
length_one t l = length-append t (l ∷ []) ∙ omega arith

-- what holds of the old lines and of the new one holds of all
pub more_lines : (P : ℕ → Line → Type 0) (t : Lines) (l : Line) → ((k : ℕ) → k < length t → P k (line t k)) → P (length t) l
    → (k : ℕ) → k < length (t ++ (l ∷ [])) → P k (line (t ++ (l ∷ [])) k)
more_lines P t l old new k h =
    elim (cases_lt k (length t)) [
      | inl a ↦ subst (P k) (sym (get_or-append t (l ∷ []) Line.True k a)) (old k a)
      | inr a ↦
          let e : k ≡ length t = omega (arith, length_one t l) in
          subst (λ (j : ℕ). P j (line (t ++ (l ∷ [])) j)) (sym e) (subst (P (length t)) (sym (get_or-append_seam t l [] Line.True)) new)
    ]

pub earlier_more : (t : Lines) (l : Line) → Earlier t → under (length t) l ≡ true → Earlier (t ++ (l ∷ []))
earlier_more t l o u = more_lines (λ k x. under k x ≡ true) t l o u

pub apart_more : (t : Lines) (l : Line) → Apart t → ((k : ℕ) → k < length t → line t k ≡ l → ⊥) → Apart (t ++ (l ∷ []))
apart_more t l d none a b p q e =
    let low : a < length t = omega (arith, length_one t l) in
    elim (cases_lt b (length t)) [
      | inl y ↦ d a b p y (sym (get_or-append t (l ∷ []) Line.True a low) ∙ e ∙ get_or-append t (l ∷ []) Line.True b y)
      | inr y ↦
          let top : b ≡ length t = omega (arith, length_one t l) in
          none a low (sym (get_or-append t (l ∷ []) Line.True a low) ∙ e ∙ ap (line (t ++ (l ∷ []))) top ∙ get_or-append_seam t l [] Line.True)
    ]

-- operands are earlier lines, and no two lines are alike
pub record Tidy (t : Lines) : Type 0 where
  pub earlier : Earlier t
  pub apart : Apart t

pub none_tidy : Tidy []
none_tidy = record { earlier = λ k l. absurd (omega arith); apart = λ i j p q e. absurd (omega arith) }

-- what entering a line does
pub record Entered (l : Line) (t : Lines) (r : Placed) : Type 0 where
  pub more : Lines
  pub extends : r.table ≡ t ++ more
  pub tidy : Tidy r.table
  pub within : r.at < length r.table
  pub is : line r.table r.at ≡ l
  pub new : (k : ℕ) → length t ≤ k → k < length r.table → k ≡ r.at
  pub grown : length t < length r.table → suc r.at ≡ length r.table
  pub fresh : ((k : ℕ) → k < length t → line t k ≡ l → ⊥) → suc r.at ≡ length r.table

-- a line that is there, and one that is not
pub enter_old : (l : Line) (t : Lines) → find l t < length t → (enter l t).table ≡ t
unfolding enter
enter_old l t h = cond-true (ltb (find l t) (length t)) t (t ++ (l ∷ [])) (lt-ltb (find l t) (length t) h)

pub enter_new : (l : Line) (t : Lines) → length t ≤ find l t → (enter l t).table ≡ t ++ (l ∷ [])
unfolding enter
enter_new l t h = cond-false (ltb (find l t) (length t)) t (t ++ (l ∷ [])) (le-ltb (find l t) (length t) h)

pub enter_at : (l : Line) (t : Lines) → (enter l t).at ≡ find l t
unfolding enter
enter_at l t = refl

pub entered : (l : Line) (t : Lines) → Tidy t → under (length t) l ≡ true → Entered l t (enter l t)
entered l t o u =
    let at-it : (enter l t).at ≡ find l t = enter_at l t in
    elim (cases_lt (find l t) (length t)) [
      | inl h ↦
          let e : (enter l t).table ≡ t = enter_old l t h in
          record {
            more = [];
            extends = e ∙ sym (append-nil t);
            tidy = subst Tidy (sym e) o;
            within = omega (arith, ap length e);
            is = ap₂ line e at-it ∙ found l t h;
            new = λ k a b. absurd (omega (arith, ap length e));
            grown = λ g. absurd (omega (arith, ap length e));
            fresh = λ n. absurd (n (find l t) h (found l t h));
          }
      | inr h ↦
          let e : (enter l t).table ≡ t ++ (l ∷ []) = enter_new l t h in
          let f : find l t ≡ length t = omega (arith, find_le l t) in
          let n : length (enter l t).table ≡ suc (length t) = ap length e ∙ length_one t l in
          let none : (k : ℕ) → k < length t → line t k ≡ l → ⊥ = λ k m q. omega (arith, find_first l t k m q) in
          record {
            more = l ∷ [];
            extends = e;
            tidy = subst Tidy (sym e) (record { earlier = earlier_more t l o.earlier u; apart = apart_more t l o.apart none });
            within = omega arith;
            is = ap₂ line e (at-it ∙ f) ∙ get_or-append_seam t l [] Line.True;
            new = λ k a b. omega arith;
            grown = λ g. omega arith;
            fresh = λ m. omega arith;
          }
    ]

-- a placing stands for F: its new lines are parts of F, every part has a line, and where lines are new its own is the last
pub record Right (F : Normal) (t : Lines) (r : Placed) : Type 0 where
  pub more : Lines
  pub extends : r.table ≡ t ++ more
  pub tidy : Tidy r.table
  pub within : r.at < length r.table
  pub means : form r.table r.at ≡ F
  pub parts : (k : ℕ) → length t ≤ k → k < length r.table → Part (form r.table k) F
  pub all : (G : Normal) → Part G F → (k : ℕ) × (k < length r.table) × (form r.table k ≡ G)
  pub grown : length t < length r.table → suc r.at ≡ length r.table

-- in a longer table the same line stands for the same
pub keeps : (t u more : Lines) (k : ℕ) → u ≡ t ++ more → k < length t → form u k ≡ form t k
keeps t u more k e l = ap (λ (x : Lines). form x k) e ∙ form_more t more k l

pub longer : (t u more : Lines) → u ≡ t ++ more → length t ≤ length u
longer t u more e = omega (arith, ap length e, length-append t more)

-- the line that is entered last, over the table of x, with the form H to come
module _ (t : Lines) (x : Placed) (l : Line) (H : Normal) (more : Lines) (extends : x.table ≡ t ++ more) (tidy : Tidy x.table)
    (under-it : under (length x.table) l ≡ true)
    (comes : (u : Lines) (more : Lines) → u ≡ x.table ++ more → build l (form u) ≡ H)
    (self : Part H H)
    (parts : (k : ℕ) → length t ≤ k → k < length x.table → Part (form x.table k) H)
    (all : (G : Normal) → Part G H → (G ≡ H) ⊎ ((k : ℕ) × (k < length x.table) × (form x.table k ≡ G)))
    (tops : length t < length x.table → (k : ℕ) → k < length x.table → under k l ≡ true → ⊥) where
  over_one : Right H t (enter l x.table)
  over_one =
      let r = entered l x.table tidy under-it in
      let y : Placed = enter l x.table in
      let means : form y.table y.at ≡ H =
      form_at y.table r.tidy.earlier y.at r.within ∙ ap (λ (v : Line). build v (form y.table)) r.is ∙ comes y.table r.more r.extends in
      let up : length x.table ≤ length y.table = longer x.table y.table r.more r.extends in
      record {
        more = more ++ r.more;
        extends = r.extends ∙ ap (λ (v : Lines). v ++ r.more) extends ∙ append_assoc t more r.more;
        tidy = r.tidy;
        within = r.within;
        means = means;
        parts = λ k a b. elim (cases_lt k (length x.table)) [
          | inl h ↦ subst (λ (G : Normal). Part G H) (sym (keeps x.table y.table r.more k r.extends h)) (parts k a h)
          | inr h ↦ subst (λ (G : Normal). Part G H) (sym (ap (form y.table) (r.new k h b) ∙ means)) self
        ];
        all = λ G p. elim (all G p) [
          | inl e ↦ (y.at, r.within, means ∙ sym e)
          | inr q ↦ (q.0, omega (arith, q.1), keeps x.table y.table r.more q.0 r.extends q.1 ∙ q.2)
        ];
        grown = λ g. elim (cases_lt (length t) (length x.table)) [
          | inl h ↦ r.fresh (λ k m q. tops h k m (subst (λ (v : Line). under k v ≡ true) q (tidy.earlier k m)))
          | inr h ↦ r.grown (omega arith)
        ];
      }

abbrev pub Placing : Normal → (Lines → Placed) → Type 0
Placing F p = (t : Lines) → Tidy t → Right F t (p t)

leaf_right : (l : Line) (F : Normal) → ((f : ℕ → Normal) → build l f ≡ F) → ((k : ℕ) → under k l ≡ true)
    → Part F F → ((G : Normal) → Part G F → G ≡ F) → Placing F (enter l)
leaf_right l F b u self only t o =
    over_one t (record { table = t; at = 0 }) l F [] (sym (append-nil t)) o (u (length t)) (λ v m e. b (form v)) self
    (λ k a h. absurd (omega arith)) (λ G p. inl (only G p)) (λ g. absurd (omega arith))

over_right : (l : ℕ → Line) (L : Normal → Normal) → ((f : ℕ → Normal) (i : ℕ) → build (l i) f ≡ L (f i))
    → ((i k : ℕ) → under k (l i) ≡ ltb i k)
    → ((G F : Normal) → (G ≡ L F) ⊎ Part G F → Part G (L F)) → ((G F : Normal) → Part G (L F) → (G ≡ L F) ⊎ Part G F)
    → (F : Normal) (p : Lines → Placed) → Placing F p → Placing (L F) (over l p)
unfolding over
over_right l L b u into out F p h t o =
    let a = h t o in
    let x : Placed = p t in
    over_one t x (l x.at) (L F) a.more a.extends a.tidy (u x.at (length x.table) ∙ lt-ltb x.at (length x.table) a.within)
    (λ v m e. b (form v) x.at ∙ ap L (keeps x.table v m x.at e a.within ∙ a.means))
    (into (L F) F (inl refl))
    (λ k c d. into (form x.table k) F (inr (a.parts k c d)))
    (λ G q. elim (out G F q) [ inl e ↦ inl e | inr r ↦ inr (a.all G r) ])
    (λ g k m q. omega (arith, ltb-true x.at k (sym (u x.at k) ∙ q), a.grown g))

join_right : (l : ℕ → ℕ → Line) (L : Normal → Normal → Normal) → ((f : ℕ → Normal) (i j : ℕ) → build (l i j) f ≡ L (f i) (f j))
    → ((i j k : ℕ) → under k (l i j) ≡ (ltb i k && ltb j k))
    → ((C F G : Normal) → (C ≡ L F G) ⊎ (Part C F ⊎ Part C G) → Part C (L F G)) → ((C F G : Normal) → Part C (L F G) → (C ≡ L F G) ⊎ (Part C F ⊎ Part C G))
    → (F G : Normal) (p q : Lines → Placed) → Placing F p → Placing G q → Placing (L F G) (join l p q)
unfolding join
join_right l L b u into out F G p q h g t o =
    let a = h t o in
    let x : Placed = p t in
    let c = g x.table a.tidy in
    let y : Placed = q x.table in
    let up : length x.table ≤ length y.table = longer x.table y.table c.more c.extends in
    over_one t y (l x.at y.at) (L F G) (a.more ++ c.more)
    (c.extends ∙ ap (λ (v : Lines). v ++ c.more) a.extends ∙ append_assoc t a.more c.more)
    c.tidy
    (u x.at y.at (length y.table) ∙ and_from _ _ (lt-ltb _ _ (omega (arith, a.within))) (lt-ltb _ _ c.within))
    (λ v m e.
    b (form v) x.at y.at
    ∙ ap₂ L
    (keeps y.table v m x.at e (omega (arith, a.within)) ∙ keeps x.table y.table c.more x.at c.extends a.within ∙ a.means)
    (keeps y.table v m y.at e c.within ∙ c.means))
    (into (L F G) F G (inl refl))
    (λ k d e. into (form y.table k) F G (inr (elim (cases_lt k (length x.table)) [
      | inl m ↦ inl (subst (λ (C : Normal). Part C F) (sym (keeps x.table y.table c.more k c.extends m)) (a.parts k d m))
      | inr m ↦ inr (c.parts k m e)
    ])))
    (λ C r. elim (out C F G r) [
      | inl e ↦ inl e
      | inr (inl s) ↦
          let w = a.all C s in
          inr (w.0, omega (arith, w.1), keeps x.table y.table c.more w.0 c.extends w.1 ∙ w.2)
      | inr (inr s) ↦ inr (c.all C s)
    ])
    (λ d k m r.
    let e : under k (Line.And x.at y.at) ≡ true = sym (u x.at y.at k) ∙ r in
    let s = sides x.at y.at k e in
    elim (cases_lt (length x.table) (length y.table)) [
      | inl n ↦ omega (arith, s.1, c.grown n)
      | inr n ↦ omega (arith, s.0, a.grown (omega arith))
    ])

pub placed : (F : Normal) → Placing F (place F)
unfolding place
placed Normal.top = leaf_right Line.True Normal.top (λ f. refl) (λ k. refl) refl (λ G e. e)
placed Normal.bottom = leaf_right Line.False Normal.bottom (λ f. refl) (λ k. refl) refl (λ G e. e)
placed (Normal.literal s b) = leaf_right (Line.Literal s b) (Normal.literal s b) (λ f. refl) (λ k. refl) refl (λ G e. e)
placed (Normal.and f g) = join_right Line.And Normal.and (λ h i j. refl) (λ i j k. refl) (λ C F G p. p) (λ C F G p. p) f g (place f) (place g) (placed f) (placed g)
placed (Normal.or f g) = join_right Line.Or Normal.or (λ h i j. refl) (λ i j k. refl) (λ C F G p. p) (λ C F G p. p) f g (place f) (place g) (placed f) (placed g)
placed (Normal.always f) = over_right Line.Always Normal.always (λ h i. refl) (λ i k. refl) (λ G F p. p) (λ G F p. p) f (place f) (placed f)
placed (Normal.eventually f) = over_right Line.Eventually Normal.eventually (λ h i. refl) (λ i k. refl) (λ G F p. p) (λ G F p. p) f (place f) (placed f)
placed (Normal.next f) = over_right Line.Next Normal.next (λ h i. refl) (λ i k. refl) (λ G F p. p) (λ G F p. p) f (place f) (placed f)

nothing_more : (t more : Lines) → length (t ++ more) ≤ length t → t ++ more ≡ t
nothing_more t [] h = append-nil t
nothing_more t (x ∷ more) h = absurd (omega (arith, length-append t (x ∷ more)))

-- a form met again keeps its number
pub met_again : (F : Normal) (t : Lines) → Tidy t → (k : ℕ) → k < length t → form t k ≡ F → place F t ≡ record { table = t; at = k }
met_again F t o k h e =
    let r = placed F t o in
    let u : Lines = (place F t).table in
    let same-form : form u (place F t).at ≡ form u k = r.means ∙ sym (keeps t u r.more k r.extends h ∙ e) in
    let up : length t ≤ length u = longer t u r.more r.extends in
    let n : (place F t).at ≡ k = form_once u r.tidy.earlier r.tidy.apart (place F t).at k r.within (omega arith) same-form in
    let short : length u ≤ length t = elim (cases_lt (length t) (length u)) [ inl g ↦ absurd (omega (arith, r.grown g)) | inr g ↦ g ] in
    let same-table : u ≡ t = r.extends ∙ nothing_more t r.more (omega (arith, ap length r.extends)) in
    ap₂ (λ (x : Lines) (y : ℕ). record { table = x; at = y }) same-table n
