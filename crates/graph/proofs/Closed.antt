-- An unfolding is closed: each line that appears brings what its kind asks for.
use Rattle.std.proofs.Common.{◌≡◌, ℕ, zero, suc, ◌<◌, ◌≤◌, Bool, true, false, cond, ◌&&◌, ◌||◌, length, sym, subst, inl, inr, arith}
use Rattle.std.proofs.lemmas.Bool.{cases_eq, cases_Bool, or_left, or_right, and_from}
use Rattle.graph.specs.Sets.{has, add}
use Rattle.tables.specs.declared.line.Line.{Line}
use Rattle.tables.specs.Lines.{Lines, line, is_eventuality}
use Rattle.graph.proofs.Ordered.{Under, Ordered}
use Rattle.graph.specs.Numbers.{eventuality}
use Rattle.graph.specs.Unfolding.{Choice}
use Rattle.graph.specs.Pass.{Unfolded, visit, unfold_below, opened, unfolded, spread, spread_below}
use Rattle.graph.specs.declared.node.Node.{Node}
use Rattle.graph.proofs.Masks.{has_add_self, has_add_keep, has_add_from, set_of_in}

-- what a line brings
abbrev pub Brings : Line → Bool → ℕ → ℕ → Unfolded → Type 0
Brings Line.True c k e s = Unit {0}
Brings Line.False c k e s = Unit {0}
Brings (Line.Literal a b) c k e s = Unit {0}
Brings (Line.And i j) c k e s = (has s.now i ≡ true) × (has s.now j ≡ true)
Brings (Line.Or i j) c k e s = has s.now (cond c i j) ≡ true
Brings (Line.Always i) c k e s = (has s.now i ≡ true) × (has s.next k ≡ true)
Brings (Line.Eventually i) true k e s = has s.now i ≡ true
Brings (Line.Eventually i) false k e s = has s.later e ≡ true
Brings (Line.Next i) c k e s = has s.next i ≡ true

pub record Grows (s r : Unfolded) : Type 0 where
  pub now : (k : ℕ) → has s.now k ≡ true → has r.now k ≡ true
  pub next : (k : ℕ) → has s.next k ≡ true → has r.next k ≡ true
  pub later : (k : ℕ) → has s.later k ≡ true → has r.later k ≡ true

grows_refl : (s : Unfolded) → Grows s s
grows_refl s = record { now = λ k h. h; next = λ k h. h; later = λ k h. h }

grows_trans : (s r q : Unfolded) → Grows s r → Grows r q → Grows s q
grows_trans s r q a b = record { now = λ k h. b.now k (a.now k h); next = λ k h. b.next k (a.next k h); later = λ k h. b.later k (a.later k h) }

brings_grows : (l : Line) (c : Bool) (k e : ℕ) (s r : Unfolded) → Grows s r → Brings l c k e s → Brings l c k e r
brings_grows Line.True c k e s r g b = b
brings_grows Line.False c k e s r g b = b
brings_grows (Line.Literal x y) c k e s r g b = b
brings_grows (Line.And i j) c k e s r g b = (g.now i b.0, g.now j b.1)
brings_grows (Line.Or i j) c k e s r g b = g.now (cond c i j) b
brings_grows (Line.Always i) c k e s r g b = (g.now i b.0, g.next k b.1)
brings_grows (Line.Eventually i) true k e s r g b = g.now i b
brings_grows (Line.Eventually i) false k e s r g b = g.later e b
brings_grows (Line.Next i) c k e s r g b = g.next i b

visit_grows : (l : Line) (c : Bool) (k e : ℕ) (s : Unfolded) → Grows s (visit l c k e s)
unfolding visit
visit_grows Line.True c k e s = grows_refl s
visit_grows Line.False c k e s = grows_refl s
visit_grows (Line.Literal x y) c k e s = grows_refl s
visit_grows (Line.And i j) c k e s = record { now = λ a h. has_add_keep (add s.now i) j a (has_add_keep s.now i a h); next = λ a h. h; later = λ a h. h }
visit_grows (Line.Or i j) c k e s = record { now = has_add_keep s.now (cond c i j); next = λ a h. h; later = λ a h. h }
visit_grows (Line.Always i) c k e s = record { now = has_add_keep s.now i; next = has_add_keep s.next k; later = λ a h. h }
visit_grows (Line.Eventually i) true k e s = record { now = has_add_keep s.now i; next = λ a h. h; later = λ a h. h }
visit_grows (Line.Eventually i) false k e s = record { now = λ a h. h; next = λ a h. h; later = has_add_keep s.later e }
visit_grows (Line.Next i) c k e s = record { now = λ a h. h; next = has_add_keep s.next i; later = λ a h. h }

visit_brings : (l : Line) (c : Bool) (k e : ℕ) (s : Unfolded) → Brings l c k e (visit l c k e s)
unfolding visit
visit_brings Line.True c k e s = tt
visit_brings Line.False c k e s = tt
visit_brings (Line.Literal x y) c k e s = tt
visit_brings (Line.And i j) c k e s = (has_add_keep (add s.now i) j i (has_add_self s.now i), has_add_self (add s.now i) j)
visit_brings (Line.Or i j) c k e s = has_add_self s.now (cond c i j)
visit_brings (Line.Always i) c k e s = (has_add_self s.now i, has_add_self s.next k)
visit_brings (Line.Eventually i) true k e s = has_add_self s.now i
visit_brings (Line.Eventually i) false k e s = has_add_self s.later e
visit_brings (Line.Next i) c k e s = has_add_self s.next i

add_low : (m i k a : ℕ) → i < k → k ≤ a → has (add m i) a ≡ true → has m a ≡ true
add_low m i k a l g h = elim (has_add_from m i a h) [ inl e ↦ absurd (omega arith) | inr e ↦ e ]

cond_lt : (c : Bool) (i j k : ℕ) → i < k → j < k → cond c i j < k
cond_lt true i j k p q = p
cond_lt false i j k p q = q

-- a visit of line k adds to what appears now only below k
visit_low : (l : Line) (c : Bool) (k e : ℕ) (s : Unfolded) → Under l k → (a : ℕ) → k ≤ a → has (visit l c k e s).now a ≡ true → has s.now a ≡ true
unfolding visit
visit_low Line.True c k e s u a g h = h
visit_low Line.False c k e s u a g h = h
visit_low (Line.Literal x y) c k e s u a g h = h
visit_low (Line.And i j) c k e s u a g h = add_low s.now i k a u.0 g (add_low (add s.now i) j k a u.1 g h)
visit_low (Line.Or i j) c k e s u a g h = add_low s.now (cond c i j) k a (cond_lt c i j k u.0 u.1) g h
visit_low (Line.Always i) c k e s u a g h = add_low s.now i k a u g h
visit_low (Line.Eventually i) true k e s u a g h = add_low s.now i k a u g h
visit_low (Line.Eventually i) false k e s u a g h = h
visit_low (Line.Next i) c k e s u a g h = h

module _ (t : Lines) (o : Ordered t) (c : Choice) where
  -- one line of the pass
  one : ℕ → Unfolded → Unfolded
  one k s = cond (has s.now k) (visit (line t k) (c k) k (eventuality t k) s) s

  one_grows : (k : ℕ) (s : Unfolded) → Grows s (one k s)
  unfolding one
  one_grows k s = elim (cases_Bool (has s.now k)) [ inl e ↦ rw e (visit_grows (line t k) (c k) k (eventuality t k) s) | inr e ↦ rw e (grows_refl s) ]

  one_low : (k : ℕ) → k < length t → (s : Unfolded) (a : ℕ) → k ≤ a → has (one k s).now a ≡ true → has s.now a ≡ true
  unfolding one
  one_low k l s a g h =
      let P : Bool → Type 0 = λ b. has (cond b (visit (line t k) (c k) k (eventuality t k) s) s).now a ≡ true in
      elim (cases_Bool (has s.now k)) [
        | inl e ↦ visit_low (line t k) (c k) k (eventuality t k) s (o.earlier k l) a g (subst P e h)
        | inr e ↦ subst P e h
      ]

  one_brings : (k : ℕ) (s : Unfolded) → has s.now k ≡ true → Brings (line t k) (c k) k (eventuality t k) (one k s)
  unfolding one
  one_brings k s e = rw e (visit_brings (line t k) (c k) k (eventuality t k) s)

  below_grows : (m : ℕ) (s : Unfolded) → Grows s (unfold_below t c m s)
  unfolding unfold_below one
  below_grows zero s = grows_refl s
  below_grows (suc m) s = grows_trans s (one m s) (unfold_below t c m (one m s)) (one_grows m s) (below_grows m (one m s))

  below_low : (m : ℕ) → m ≤ length t → (s : Unfolded) (a : ℕ) → m ≤ a → has (unfold_below t c m s).now a ≡ true → has s.now a ≡ true
  unfolding unfold_below one
  below_low zero l s a g h = h
  below_low (suc m) l s a g h = one_low m l s a (omega arith) (below_low m (omega arith) (one m s) a (omega arith) h)

  below_brings : (m : ℕ) → m ≤ length t → (s : Unfolded) (k : ℕ) → k < m → has (unfold_below t c m s).now k ≡ true
      → Brings (line t k) (c k) k (eventuality t k) (unfold_below t c m s)
  unfolding unfold_below one
  below_brings zero l s k g h = absurd (omega arith)
  below_brings (suc m) l s k g h =
      elim (cases_eq k m) [
        | inl e ↦
            let r : Unfolded = unfold_below t c m (one m s) in
            let here : has r.now m ≡ true = subst (λ (x : ℕ). has r.now x ≡ true) e h in
            let had : has s.now m ≡ true = one_low m l s m (omega arith) (below_low m (omega arith) (one m s) m (omega arith) here) in
            subst (λ (x : ℕ). Brings (line t x) (c x) x (eventuality t x) r) (sym e)
            (brings_grows (line t m) (c m) m (eventuality t m) (one m s) r (below_grows m (one m s)) (one_brings m s had))
        | inr e ↦ below_brings m (omega arith) (one m s) k (omega arith) h
      ]

pub closed : (t : Lines) → Ordered t → (n : Node) (c : Choice) (k : ℕ) → k < length t → has (unfolded t n c).now k ≡ true
    → Brings (line t k) (c k) k (eventuality t k) (unfolded t n c)
unfolding unfolded
closed t o n c k l h = below_brings t o c (length t) (omega arith) (opened t n) k l h

pub label_now : (t : Lines) → Ordered t → (n : Node) (c : Choice) (k : ℕ) → k < length t → has n.label k ≡ true → has (unfolded t n c).now k ≡ true
unfolding unfolded opened
label_now t o n c k l h =
    (below_grows t o c (length t) (opened t n)).now k
    (set_of_in (length t) (λ k. has n.label k || (is_eventuality (line t k) && has n.marks (eventuality t k))) k l (or_left (has n.label k) (is_eventuality (line t k) && has n.marks (eventuality t k)) h))

pub mark_now : (t : Lines) → Ordered t → (n : Node) (c : Choice) (k : ℕ) → k < length t → is_eventuality (line t k) ≡ true → has n.marks (eventuality t k) ≡ true → has (unfolded t n c).now k ≡ true
unfolding unfolded opened
mark_now t o n c k l v h =
    (below_grows t o c (length t) (opened t n)).now k
    (set_of_in (length t) (λ k. has n.label k || (is_eventuality (line t k) && has n.marks (eventuality t k))) k l
    (or_right (has n.label k) (is_eventuality (line t k) && has n.marks (eventuality t k)) (and_from (is_eventuality (line t k)) (has n.marks (eventuality t k)) v h)))

-- the same of the lines that are put into a label
abbrev pub Splits : Line → ℕ → Type 0
Splits Line.True m = Unit {0}
Splits Line.False m = Unit {0}
Splits (Line.Literal a b) m = Unit {0}
Splits (Line.And i j) m = (has m i ≡ true) × (has m j ≡ true)
Splits (Line.Or i j) m = Unit {0}
Splits (Line.Always i) m = Unit {0}
Splits (Line.Eventually i) m = Unit {0}
Splits (Line.Next i) m = Unit {0}

splits_grows : (l : Line) (m r : ℕ) → ((k : ℕ) → has m k ≡ true → has r k ≡ true) → Splits l m → Splits l r
splits_grows Line.True m r g b = b
splits_grows Line.False m r g b = b
splits_grows (Line.Literal x y) m r g b = b
splits_grows (Line.And i j) m r g b = (g i b.0, g j b.1)
splits_grows (Line.Or i j) m r g b = b
splits_grows (Line.Always i) m r g b = b
splits_grows (Line.Eventually i) m r g b = b
splits_grows (Line.Next i) m r g b = b

spread_splits : (l : Line) (m : ℕ) → Splits l (spread l m)
spread_splits Line.True m = tt
spread_splits Line.False m = tt
spread_splits (Line.Literal x y) m = tt
spread_splits (Line.And i j) m = (has_add_keep (add m i) j i (has_add_self m i), has_add_self (add m i) j)
spread_splits (Line.Or i j) m = tt
spread_splits (Line.Always i) m = tt
spread_splits (Line.Eventually i) m = tt
spread_splits (Line.Next i) m = tt

spread_grows : (l : Line) (m k : ℕ) → has m k ≡ true → has (spread l m) k ≡ true
spread_grows Line.True m k h = h
spread_grows Line.False m k h = h
spread_grows (Line.Literal x y) m k h = h
spread_grows (Line.And i j) m k h = has_add_keep (add m i) j k (has_add_keep m i k h)
spread_grows (Line.Or i j) m k h = h
spread_grows (Line.Always i) m k h = h
spread_grows (Line.Eventually i) m k h = h
spread_grows (Line.Next i) m k h = h

spread_low : (l : Line) (m k : ℕ) → Under l k → (a : ℕ) → k ≤ a → has (spread l m) a ≡ true → has m a ≡ true
spread_low Line.True m k u a g h = h
spread_low Line.False m k u a g h = h
spread_low (Line.Literal x y) m k u a g h = h
spread_low (Line.And i j) m k u a g h = add_low m i k a u.0 g (add_low (add m i) j k a u.1 g h)
spread_low (Line.Or i j) m k u a g h = h
spread_low (Line.Always i) m k u a g h = h
spread_low (Line.Eventually i) m k u a g h = h
spread_low (Line.Next i) m k u a g h = h

module _ (t : Lines) (o : Ordered t) where
  part : ℕ → ℕ → ℕ
  part k m = cond (has m k) (spread (line t k) m) m

  part_grows : (k m a : ℕ) → has m a ≡ true → has (part k m) a ≡ true
  unfolding part
  part_grows k m a h = elim (cases_Bool (has m k)) [ inl e ↦ rw e (spread_grows (line t k) m a h) | inr e ↦ rw e h ]

  part_low : (k : ℕ) → k < length t → (m a : ℕ) → k ≤ a → has (part k m) a ≡ true → has m a ≡ true
  unfolding part
  part_low k l m a g h =
      let P : Bool → Type 0 = λ b. has (cond b (spread (line t k) m) m) a ≡ true in
      elim (cases_Bool (has m k)) [
        | inl e ↦ spread_low (line t k) m k (o.earlier k l) a g (subst P e h)
        | inr e ↦ subst P e h
      ]

  part_splits : (k m : ℕ) → has m k ≡ true → Splits (line t k) (part k m)
  unfolding part
  part_splits k m e = rw e (spread_splits (line t k) m)

  pub parts_grow : (n m a : ℕ) → has m a ≡ true → has (spread_below t n m) a ≡ true
  unfolding spread_below part
  parts_grow zero m a h = h
  parts_grow (suc n) m a h = parts_grow n (part n m) a (part_grows n m a h)

  parts_low : (n : ℕ) → n ≤ length t → (m a : ℕ) → n ≤ a → has (spread_below t n m) a ≡ true → has m a ≡ true
  unfolding spread_below part
  parts_low zero l m a g h = h
  parts_low (suc n) l m a g h = part_low n l m a (omega arith) (parts_low n (omega arith) (part n m) a (omega arith) h)

  pub parts_split : (n : ℕ) → n ≤ length t → (m k : ℕ) → k < n → has (spread_below t n m) k ≡ true → Splits (line t k) (spread_below t n m)
  unfolding spread_below part
  parts_split zero l m k g h = absurd (omega arith)
  parts_split (suc n) l m k g h =
      elim (cases_eq k n) [
        | inl e ↦
            let r : ℕ = spread_below t n (part n m) in
            let here : has r n ≡ true = subst (λ (x : ℕ). has r x ≡ true) e h in
            let had : has m n ≡ true = part_low n l m n (omega arith) (parts_low n (omega arith) (part n m) n (omega arith) here) in
            subst (λ (x : ℕ). Splits (line t x) r) (sym e) (splits_grows (line t n) (part n m) r (parts_grow n (part n m)) (part_splits n m had))
        | inr e ↦ parts_split n (omega arith) (part n m) k (omega arith) h
      ]
