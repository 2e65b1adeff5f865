-- A line stands for the normal form that its kind makes of its operands' forms, and for no other line's.
use Rattle.std.proofs.Common.{◌≡◌, ℕ, zero, suc, ◌+◌, ◌<◌, true, false, List, [], ◌∷◌, ◌++◌, length, get_or, sym, refl, ap, ◌∙◌, subst, ap₂, inl, inr, add-zero, zero-add, arith, length-append}
use lib.ListN.{get_or-append}
use Rattle.std.proofs.Math.Seq.{get_or-append_seam}
use Rattle.std.proofs.lemmas.Bool.{and_parts, ltb-true, cases_order}
use Rattle.tables.specs.declared.line.Line.{Line}
use Rattle.tables.specs.Normal.{Normal}
use Rattle.tables.specs.Lines.{Lines, line, under, Earlier, Apart, build, values, form}
use Rattle.tables.specs.Numbering.{kind, left, right}
use Rattle.tables.proofs.Same.{rebuild, of_kind}

-- the operands of a line of two sides
pub sides : (i j n : ℕ) → under n (Line.And i j) ≡ true → (i < n) × (j < n)
sides i j n u = let p = and_parts _ _ u in (ltb-true i n p.0, ltb-true j n p.1)

build_same : (l : Line) (n : ℕ) (f g : ℕ → Normal) → under n l ≡ true → ((i : ℕ) → i < n → f i ≡ g i) → build l f ≡ build l g
build_same Line.True n f g u h = refl
build_same Line.False n f g u h = refl
build_same (Line.Literal s b) n f g u h = refl
build_same (Line.And i j) n f g u h = let p = sides i j n u in ap₂ Normal.and (h i p.0) (h j p.1)
build_same (Line.Or i j) n f g u h = let p = sides i j n u in ap₂ Normal.or (h i p.0) (h j p.1)
build_same (Line.Always i) n f g u h = ap Normal.always (h i (ltb-true i n u))
build_same (Line.Eventually i) n f g u h = ap Normal.eventually (h i (ltb-true i n u))
build_same (Line.Next i) n f g u h = ap Normal.next (h i (ltb-true i n u))

module _ {A : Type 0} (d : A) (b : Line → (ℕ → A) → A)
    (b-same : (l : Line) (n : ℕ) (f g : ℕ → A) → under n l ≡ true → ((i : ℕ) → i < n → f i ≡ g i) → b l f ≡ b l g) where
  abbrev nth : List A → ℕ → A
  nth l i = get_or l i d

  values_keeps : (t : Lines) (done : List A) (k : ℕ) → k < length done → nth (values d b t done) k ≡ nth done k
  unfolding values
  values_keeps [] done k l = refl
  values_keeps (x ∷ t) done k l =
      values_keeps t (done ++ (b x (nth done) ∷ [])) k (simp length-append (omega arith))
      ∙ get_or-append done (b x (nth done) ∷ []) d k l

  values_from : (t : Lines) (done : List A) (k : ℕ) → k < length t → under (length done + k) (line t k) ≡ true
      → nth (values d b t done) (length done + k) ≡ b (line t k) (nth (values d b t done))
  unfolding values
  values_from [] done k l u = absurd (omega arith)
  values_from (x ∷ t) done zero l u =
      let done' : List A = done ++ (b x (nth done) ∷ []) in
      let u' : under (length done) x ≡ true = rw add-zero at u in
      let e : length done' ≡ suc (length done) = length-append done (b x (nth done) ∷ []) ∙ omega arith in
      ap (nth (values d b t done')) (add-zero (length done))
      ∙ values_keeps t done' (length done) (omega arith)
      ∙ get_or-append_seam done (b x (nth done)) [] d
      ∙ b-same x (length done) (nth done) (nth (values d b t done')) u'
      (λ i l. sym (values_keeps t done' i (omega arith) ∙ get_or-append done (b x (nth done) ∷ []) d i l))
  values_from (x ∷ t) done (suc k) l u =
      let done' : List A = done ++ (b x (nth done) ∷ []) in
      let e : length done + suc k ≡ length done' + k = omega (arith, length-append done (b x (nth done) ∷ [])) in
      ap (nth (values d b t done')) e ∙ values_from t done' k (omega arith) (subst (λ (n : ℕ). under n (line t k) ≡ true) e u)

  values_append : (t s : Lines) (done : List A) → values d b (t ++ s) done ≡ values d b s (values d b t done)
  unfolding values
  values_append [] s done = refl
  values_append (x ∷ t) s done = values_append t s (done ++ (b x (nth done) ∷ []))

  length_values : (t : Lines) (done : List A) → length (values d b t done) ≡ length done + length t
  unfolding values
  length_values [] done = sym (add-zero (length done))
  length_values (x ∷ t) done =
      length_values t (done ++ (b x (nth done) ∷ [])) ∙ omega (arith, length-append done (b x (nth done) ∷ []))

  -- a line's value is made of its operands' values
  pub values_at : (t : Lines) → Earlier t → (k : ℕ) → k < length t → get_or (values d b t []) k d ≡ b (line t k) (λ i. get_or (values d b t []) i d)
  values_at t o k l =
      ap (nth (values d b t [])) (sym (zero-add k)) ∙ values_from t [] k l (subst (λ (n : ℕ). under n (line t k) ≡ true) (sym (zero-add k)) (o k l))

  -- and stays when lines are added
  pub values_more : (t s : Lines) (k : ℕ) → k < length t → get_or (values d b (t ++ s) []) k d ≡ get_or (values d b t []) k d
  values_more t s k l =
      ap (λ (v : List A). nth v k) (values_append t s [])
      ∙ values_keeps s (values d b t []) k (omega (arith, length_values t []))

pub form_at : (t : Lines) → Earlier t → (k : ℕ) → k < length t → form t k ≡ build (line t k) (form t)
unfolding form
form_at t o k l = values_at Normal.top build build_same t o k l

pub form_more : (t s : Lines) (k : ℕ) → k < length t → form (t ++ s) k ≡ form t k
unfolding form
form_more t s k l = values_more Normal.top build build_same t s k l

-- the kind of a normal form is that of its line
abbrev shape : Normal → ℕ
shape Normal.top = 0
shape Normal.bottom = 1
shape (Normal.literal s true) = 2
shape (Normal.literal s false) = 3
shape (Normal.and f g) = 4
shape (Normal.or f g) = 5
shape (Normal.always f) = 6
shape (Normal.eventually f) = 7
shape (Normal.next f) = 8

kind_shape : (l : Line) (f : ℕ → Normal) → kind l ≡ shape (build l f)
kind_shape Line.True f = refl
kind_shape Line.False f = refl
kind_shape (Line.Literal s true) f = refl
kind_shape (Line.Literal s false) f = refl
kind_shape (Line.And i j) f = refl
kind_shape (Line.Or i j) f = refl
kind_shape (Line.Always i) f = refl
kind_shape (Line.Eventually i) f = refl
kind_shape (Line.Next i) f = refl

-- lines that stand for the same have the same kind
pub same_kind : (l m : Line) (f g : ℕ → Normal) → build l f ≡ build m g → kind l ≡ kind m
same_kind l m f g e = kind_shape l f ∙ ap shape e ∙ sym (kind_shape m g)

-- where operands with the same form are the same, so are lines with the same form
module _ (f : ℕ → Normal) (n k : ℕ) (once : (i j : ℕ) → i < n → j < k → f i ≡ f j → i ≡ j) where
  abbrev at : (ℕ → ℕ → Line) → Line → Line
  at L m = L (left m) (right m)

  two_once : (L : ℕ → ℕ → Line) (i j : ℕ) (m : Line)
      → ((a b c : ℕ) → under c (L a b) ≡ true → (a < c) × (b < c))
      → (f i ≡ f (left m) → f j ≡ f (right m) → under k m ≡ true → under n (L i j) ≡ true → m ≡ at L m → L i j ≡ m)
  two_once L i j m s y z v u q =
      let p = s i j n u in
      let r = s (left m) (right m) k (subst (λ (x : Line). under k x ≡ true) q v) in
      ap₂ L (once i (left m) p.0 r.0 y) (once j (right m) p.1 r.1 z) ∙ sym q

  one_once : (L : ℕ → Line) (i : ℕ) (m : Line) → ((a c : ℕ) → under c (L a) ≡ true → a < c)
      → f i ≡ f (left m) → under k m ≡ true → under n (L i) ≡ true → m ≡ L (left m) → L i ≡ m
  one_once L i m s y v u q =
      ap L (once i (left m) (s i n u) (s (left m) k (subst (λ (x : Line). under k x ≡ true) q v)) y) ∙ sym q

  seen : (l m : Line) (c : ℕ) → build l f ≡ build m f → kind l ≡ c → (m ≡ rebuild c (left m) (right m)) × (build l f ≡ build (rebuild c (left m) (right m)) f)
  seen l m c e h =
      let q = of_kind m c (sym (same_kind l m f f e) ∙ h) in
      (q, e ∙ ap (λ (x : Line). build x f) q)

  line_once : (l m : Line) → under n l ≡ true → under k m ≡ true → build l f ≡ build m f → l ≡ m
  unfolding rebuild
  line_once Line.True m u v e = sym (seen Line.True m 0 e refl).0
  line_once Line.False m u v e = sym (seen Line.False m 1 e refl).0
  line_once (Line.Literal s true) m u v e =
      let q = seen (Line.Literal s true) m 2 e refl in
      let r : Normal.literal s true ≡ Normal.literal (left m) true = q.1 in
      let z : s ≡ left m = cc in
      ap (λ (x : ℕ). Line.Literal x true) z ∙ sym q.0
  line_once (Line.Literal s false) m u v e =
      let q = seen (Line.Literal s false) m 3 e refl in
      let r : Normal.literal s false ≡ Normal.literal (left m) false = q.1 in
      let z : s ≡ left m = cc in
      ap (λ (x : ℕ). Line.Literal x false) z ∙ sym q.0
  line_once (Line.And i j) m u v e =
      let q = seen (Line.And i j) m 4 e refl in
      let r : Normal.and (f i) (f j) ≡ Normal.and (f (left m)) (f (right m)) = q.1 in
      two_once Line.And i j m (λ a b c. sides a b c) (cc) (cc) v u q.0
  line_once (Line.Or i j) m u v e =
      let q = seen (Line.Or i j) m 5 e refl in
      let r : Normal.or (f i) (f j) ≡ Normal.or (f (left m)) (f (right m)) = q.1 in
      two_once Line.Or i j m (λ a b c. sides a b c) (cc) (cc) v u q.0
  line_once (Line.Always i) m u v e =
      let q = seen (Line.Always i) m 6 e refl in
      let r : Normal.always (f i) ≡ Normal.always (f (left m)) = q.1 in
      one_once Line.Always i m (λ a c. ltb-true a c) (cc) v u q.0
  line_once (Line.Eventually i) m u v e =
      let q = seen (Line.Eventually i) m 7 e refl in
      let r : Normal.eventually (f i) ≡ Normal.eventually (f (left m)) = q.1 in
      one_once Line.Eventually i m (λ a c. ltb-true a c) (cc) v u q.0
  line_once (Line.Next i) m u v e =
      let q = seen (Line.Next i) m 8 e refl in
      let r : Normal.next (f i) ≡ Normal.next (f (left m)) = q.1 in
      one_once Line.Next i m (λ a c. ltb-true a c) (cc) v u q.0

one_line : (t : Lines) → Apart t → (i j : ℕ) → i < length t → j < length t → line t i ≡ line t j → i ≡ j
one_line t d i j p q e =
    elim (cases_order i j) [ inl r ↦ r | inr (inl l) ↦ absurd (d i j l q e) | inr (inr l) ↦ absurd (d j i l p (sym e)) ]

once_below : (t : Lines) → Earlier t → Apart t → (n i j : ℕ) → i < n → i < length t → j < length t → form t i ≡ form t j → i ≡ j
once_below t o d zero i j a p q e = absurd (omega arith)
once_below t o d (suc n) i j a p q e =
    one_line t d i j p q
    (line_once (form t) i j (λ x y b c h. once_below t o d n x y (omega arith) (omega arith) (omega arith) h) (line t i) (line t j) (o i p) (o j q)
    (sym (form_at t o i p) ∙ e ∙ form_at t o j q))

-- no two lines of a table stand for the same
pub form_once : (t : Lines) → Earlier t → Apart t → (i j : ℕ) → i < length t → j < length t → form t i ≡ form t j → i ≡ j
form_once t o d i j = once_below t o d (suc i) i j (omega arith)
