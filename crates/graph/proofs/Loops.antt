-- A way that passes ω-nodes again and again makes each line true that appears on it.
use Rattle.std.proofs.Common.{◌≡◌, ℕ, zero, suc, ◌+◌, ◌-◌, ◌<◌, ◌≤◌, Bool, true, false, cond, not, ◌&&◌, ◌||◌, ◌⊎◌, length, sym, refl, ap, ◌∙◌, subst, inl, inr, add-zero, add-suc, arith}
use Rattle.std.proofs.lemmas.Bool.{cases_eq, cases_Bool, both_ways, or_cases, and_from, and_parts, not-true, not_from_true, eqb-true}
use Rattle.graph.specs.Sets.{has, add, set_of}
use Rattle.rules.specs.Formula.{Formula}
use Rattle.rules.specs.Runs.{Holds}
use Rattle.tables.specs.Lines.{Lines, line, formula, is_eventuality, root}
use Rattle.graph.proofs.Ordered.{Under, Ordered, build, formula_line}
use Rattle.graph.specs.Numbers.{eventuality}
use Rattle.graph.specs.Unfolding.{Choice, stays}
use Rattle.graph.specs.Pass.{unfolded, sign, signals, sane, position, branch, spread_below, put, everything, is_omega, initial, successor}
use Rattle.tables.specs.declared.line.Line.{Line}
use Rattle.graph.specs.declared.node.Node.{Node}
use Rattle.graph.proofs.Masks.{has_add_self, has_add_keep, set_of_from, set_of_in, every_at}
use Rattle.graph.proofs.Numbers.{number_lt}
use Rattle.graph.proofs.Closed.{Brings, closed, label_now, mark_now, Splits, parts_grow, parts_split}

-- the literal s appears: the position has it
sign_grows : (l : Line) (m s : ℕ) → has m s ≡ true → has (sign l m) s ≡ true
sign_grows Line.True m s h = h
sign_grows Line.False m s h = h
sign_grows (Line.Literal a true) m s h = has_add_keep m a s h
sign_grows (Line.Literal a false) m s h = h
sign_grows (Line.And x y) m s h = h
sign_grows (Line.Or x y) m s h = h
sign_grows (Line.Always x) m s h = h
sign_grows (Line.Eventually x) m s h = h
sign_grows (Line.Next x) m s h = h

pub signals_in : (t : Lines) (now m k s : ℕ) → k < m → has now k ≡ true → line t k ≡ Line.Literal s true → has (signals t m now) s ≡ true
unfolding signals
signals_in t now zero k s l h e = absurd (omega arith)
signals_in t now (suc m) k s l h e =
    elim (cases_eq k m) [
      | inl q ↦
          let hm : has now m ≡ true = subst (λ (x : ℕ). has now x ≡ true) q h in
          let em : line t m ≡ Line.Literal s true = sym (ap (line t) q) ∙ e in
          rw (hm, em) (has_add_self (signals t m now) s)
      | inr q ↦
          let ih : has (signals t m now) s ≡ true = signals_in t now m k s (omega arith) h e in
          elim (cases_Bool (has now m)) [ inl b ↦ rw b (sign_grows (line t m) (signals t m now) s ih) | inr b ↦ rw b ih ]
    ]

module _ (t : Lines) (o : Ordered t) (N : ℕ → Node) (C : ℕ → Choice) (w : ℕ → ℕ)
    (follows : (i : ℕ) → N (suc i) ≡ successor t (N i) (C i))
    (branching : (i : ℕ) → branch t (N i) (C i) ≡ true)
    (asked : (i : ℕ) → w i ≡ position t (N i) (C i))
    (again : (i : ℕ) → (j : ℕ) × (i ≤ j) × (is_omega t (N j) ≡ true)) where
  Now : ℕ → ℕ → Type 0
  Now i k = has (unfolded t (N i) (C i)).now k ≡ true

  -- put next, ∧ taken apart
  Put : ℕ → ℕ → Type 0
  Put i k = has (spread_below t (length t) (unfolded t (N i) (C i)).next) k ≡ true

  brings : (i k : ℕ) → k < length t → Now i k → Brings (line t k) (C i k) k (eventuality t k) (unfolded t (N i) (C i))
  unfolding Now
  brings i k l h = closed t o (N i) (C i) k l h

  next_put : (i k : ℕ) → has (unfolded t (N i) (C i)).next k ≡ true → Put i k
  unfolding Put
  next_put i k h = parts_grow t o (length t) (unfolded t (N i) (C i)).next k h

  put_now : (i k : ℕ) → k < length t → stays (line t k) ≡ true → Put i k → Now (suc i) k
  unfolding Put Now successor put
  put_now i k l s h =
      label_now t o (N (suc i)) (C (suc i)) k l
      (subst (λ (n : Node). has n.label k ≡ true) (sym (follows i))
      (set_of_in (length t) (λ k. has (spread_below t (length t) (unfolded t (N i) (C i)).next) k && stays (line t k)) k l
      (and_from (has (spread_below t (length t) (unfolded t (N i) (C i)).next) k) (stays (line t k)) h s)))

  later_marks : (i e : ℕ) → has (unfolded t (N i) (C i)).later e ≡ true → has (N (suc i)).marks e ≡ true
  unfolding successor
  later_marks i e h = subst (λ (n : Node). has n.marks e ≡ true) (sym (follows i)) h

  later_now : (i k : ℕ) → k < length t → is_eventuality (line t k) ≡ true → has (unfolded t (N i) (C i)).later (eventuality t k) ≡ true → Now (suc i) k
  unfolding Now
  later_now i k l v h = mark_now t o (N (suc i)) (C (suc i)) k l v (later_marks i (eventuality t k) h)

  history_from : (i e : ℕ) → has (N (suc i)).history e ≡ true
      → (not (has (unfolded t (N i) (C i)).later e) || (has (N i).history e && not (is_omega t (N i)))) ≡ true
  unfolding successor
  history_from i e h =
      (set_of_from (eventuality t (length t)) (λ e. not (has (unfolded t (N i) (C i)).later e) || (has (N i).history e && not (is_omega t (N i)))) e
      (subst (λ (n : Node). has n.history e ≡ true) (follows i) h)).1

  -- put off at an ω-node, or absent from the history before: absent after
  absent : (i e : ℕ) → has (unfolded t (N i) (C i)).later e ≡ true → (is_omega t (N i) ≡ true) ⊎ (has (N i).history e ≡ false) → has (N (suc i)).history e ≡ false
  absent i e h a =
      elim (cases_Bool (has (N (suc i)).history e)) [
        | inr q ↦ q
        | inl q ↦ absurd (elim (or_cases (not (has (unfolded t (N i) (C i)).later e)) (has (N i).history e && not (is_omega t (N i))) (history_from i e q)) [
          | inl p ↦ both_ways (not (has (unfolded t (N i) (C i)).later e)) (not_from_true (has (unfolded t (N i) (C i)).later e) h) p
          | inr p ↦
              let r = and_parts (has (N i).history e) (not (is_omega t (N i))) p in
              elim a [
                | inl x ↦ both_ways (not (is_omega t (N i))) (not_from_true (is_omega t (N i)) x) r.1
                | inr x ↦ both_ways (has (N i).history e) x r.0
              ]
        ])
      ]

  -- an ω-node's history has each eventuality
  omega_has : (i e : ℕ) → e < eventuality t (length t) → is_omega t (N i) ≡ true → has (N i).history e ≡ true
  unfolding is_omega everything
  omega_has i e l h =
      subst (λ (x : ℕ). has x e ≡ true) (sym (eqb-true (N i).history (set_of (eventuality t (length t)) (λ e. true)) h))
      (set_of_in (eventuality t (length t)) (λ e. true) e l refl)

  -- the line ◇x at k
  module _ (k x : ℕ) (l : k < length t) (is : line t k ≡ Line.Eventually x) where
    ev : is_eventuality (line t k) ≡ true
    ev = ap is_eventuality is

    Comes : ℕ → Type 0
    Comes i = (j : ℕ) × (i ≤ j) × Now j x

    now_or_later : (i : ℕ) → Now i k → (Now i x) ⊎ (has (unfolded t (N i) (C i)).later (eventuality t k) ≡ true)
    unfolding Now
    now_or_later i h =
        let b : Brings (Line.Eventually x) (C i k) k (eventuality t k) (unfolded t (N i) (C i)) =
        subst (λ (y : Line). Brings y (C i k) k (eventuality t k) (unfolded t (N i) (C i))) is (brings i k l h) in
        elim (cases_Bool (C i k)) [
          | inl e ↦ inl (subst (λ (y : Bool). Brings (Line.Eventually x) y k (eventuality t k) (unfolded t (N i) (C i))) e b)
          | inr e ↦ inr (subst (λ (y : Bool). Brings (Line.Eventually x) y k (eventuality t k) (unfolded t (N i) (C i))) e b)
        ]

    -- it is waited for as long as it does not come
    waits : (i d : ℕ) → Now i k → Comes i ⊎ Now (i + d) k
    unfolding Comes
    waits i zero h = inr (rw add-zero h)
    waits i (suc d) h =
        elim (waits i d h) [
          | inl c ↦ inl c
          | inr c ↦ elim (now_or_later (i + d) c) [
            | inl y ↦ inl (i + d, omega arith, y)
            | inr y ↦ inr (rw add-suc (later_now (i + d) k l ev y))
          ]
        ]

    lacks : (i d : ℕ) → Now i k → is_omega t (N i) ≡ true → Comes i ⊎ (Now (suc (i + d)) k × (has (N (suc (i + d))).history (eventuality t k) ≡ false))
    unfolding Comes
    lacks i zero h q =
        elim (now_or_later i h) [
          | inl y ↦ inl (i, omega arith, y)
          | inr y ↦ inr (rw add-zero (later_now i k l ev y, absent i (eventuality t k) y (inl q)))
        ]
    lacks i (suc d) h q =
        elim (lacks i d h q) [
          | inl c ↦ inl c
          | inr c ↦ elim (now_or_later (suc (i + d)) c.0) [
            | inl y ↦ inl (suc (i + d), omega arith, y)
            | inr y ↦ inr (rw add-suc (later_now (suc (i + d)) k l ev y, absent (suc (i + d)) (eventuality t k) y (inr c.1)))
          ]
        ]

    comes : (i : ℕ) → Now i k → Comes i
    unfolding Comes
    comes i h =
        let a = again i in
        let j : ℕ = a.0 in
        let p : i ≤ j = a.1 in
        let a' = again (suc j) in
        let j' : ℕ = a'.0 in
        let p' : suc j ≤ j' = a'.1 in
        elim (waits i (j - i) h) [
          | inl c ↦ c
          | inr c ↦
              let there : Now j k = subst (λ (y : ℕ). Now y k) (omega arith) c in
              elim (lacks j (j' - suc j) there a.2) [
                | inl y ↦ let far : j ≤ y.0 = y.1 in (y.0, omega arith, y.2)
                | inr y ↦
                    let lack : has (N j').history (eventuality t k) ≡ false = subst (λ (z : ℕ). has (N z).history (eventuality t k) ≡ false) (omega arith) y.1 in
                    absurd (both_ways (has (N j').history (eventuality t k)) lack (omega_has j' (eventuality t k) (number_lt is_eventuality t k (length t) ev l) a'.2))
              ]
        ]

  -- a line that appears is true
  TrueBelow : ℕ → Type 0
  TrueBelow m = (k : ℕ) → k < m → k < length t → (i : ℕ) → Now i k → Holds (formula t k) w i

  -- lines put into the label at time i, of which those that are not ∧ or T are in it
  module _ (m₀ i : ℕ) (placed : (k : ℕ) → has (put t m₀) k ≡ true → has (N i).label k ≡ true) where
    -- a line that is not put itself
    taken_apart : (b : Line) (k : ℕ) → Under b k → stays b ≡ false → Splits b (spread_below t (length t) m₀)
        → ((x : ℕ) → x < k → has (spread_below t (length t) m₀) x ≡ true → Holds (formula t x) w i) → Holds (build b (formula t)) w i
    taken_apart Line.True k u q s h = tt
    taken_apart Line.False k u q s h = absurd (both_ways true q refl)
    taken_apart (Line.Literal x y) k u q s h = absurd (both_ways true q refl)
    taken_apart (Line.And x y) k u q s h = (h x u.0 s.0, h y u.1 s.1)
    taken_apart (Line.Or x y) k u q s h = absurd (both_ways true q refl)
    taken_apart (Line.Always x) k u q s h = absurd (both_ways true q refl)
    taken_apart (Line.Eventually x) k u q s h = absurd (both_ways true q refl)
    taken_apart (Line.Next x) k u q s h = absurd (both_ways true q refl)

    put_true : (m : ℕ) → TrueBelow m → (n k : ℕ) → k < n → k < m → k < length t → has (spread_below t (length t) m₀) k ≡ true → Holds (formula t k) w i
    unfolding TrueBelow Now put
    put_true m ih zero k g a l h = absurd (omega arith)
    put_true m ih (suc n) k g a l h =
        elim (cases_Bool (stays (line t k))) [
          | inl q ↦ ih k a l i (label_now t o (N i) (C i) k l (placed k
              (set_of_in (length t) (λ k. has (spread_below t (length t) m₀) k && stays (line t k)) k l
              (and_from (has (spread_below t (length t) m₀) k) (stays (line t k)) h q))))
          | inr q ↦
              subst (λ (f : Formula). Holds f w i) (sym (formula_line t o k l))
              (taken_apart (line t k) k (o.earlier k l) q (parts_split t o (length t) (omega arith) m₀ k l h)
              (λ x b c. put_true m ih n x (omega arith) (omega arith) (omega arith) c))
        ]

  successor_placed : (i k : ℕ) → has (put t (unfolded t (N i) (C i)).next) k ≡ true → has (N (suc i)).label k ≡ true
  unfolding successor
  successor_placed i k h = subst (λ (n : Node). has n.label k ≡ true) (sym (follows i)) h

  sane_at : (i k : ℕ) → k < length t → Now i k → sane (line t k) (w i) ≡ true
  unfolding branch Now
  sane_at i k l h =
      let U = (unfolded t (N i) (C i)).now in
      elim (or_cases (not (has U k)) (sane (line t k) (position t (N i) (C i)))
      (every_at (length t) (λ k. not (has U k) || sane (line t k) (position t (N i) (C i))) (branching i) k l)) [
        | inl e ↦ absurd (both_ways (not (has U k)) (not_from_true (has U k) h) e)
        | inr e ↦ rw (asked i) e
      ]

  always_on : (k x : ℕ) → k < length t → line t k ≡ Line.Always x → (i d : ℕ) → Now i k → Now (i + d) k
  unfolding Now
  always_on k x l e i zero h = rw add-zero h
  always_on k x l e i (suc d) h =
      let b : Brings (Line.Always x) (C (i + d) k) k (eventuality t k) (unfolded t (N (i + d)) (C (i + d))) =
      subst (λ (y : Line). Brings y (C (i + d) k) k (eventuality t k) (unfolded t (N (i + d)) (C (i + d)))) e (brings (i + d) k l (always_on k x l e i d h)) in
      rw add-suc (put_now (i + d) k l (ap stays e) (next_put (i + d) k b.1))

  -- what line k, of the kind b, brings at time i
  kind : (b : Line) (k : ℕ) → line t k ≡ b → k < length t → (i : ℕ) → Now i k → Brings b (C i k) k (eventuality t k) (unfolded t (N i) (C i))
  kind b k e l i h = subst (λ (y : Line). Brings y (C i k) k (eventuality t k) (unfolded t (N i) (C i))) e (brings i k l h)

  line_true : (b : Line) (k : ℕ) → line t k ≡ b → Under b k → k < length t → TrueBelow k → (i : ℕ) → Now i k → Holds (build b (formula t)) w i
  unfolding TrueBelow Now Comes Put position
  line_true Line.True k e u l ih i h = tt
  line_true Line.False k e u l ih i h = both_ways false refl (subst (λ (b : Line). sane b (w i) ≡ true) e (sane_at i k l h))
  line_true (Line.Literal s true) k e u l ih i h =
      subst (λ (x : ℕ). has x s ≡ true) (sym (asked i)) (signals_in t (unfolded t (N i) (C i)).now (length t) k s l h e)
  line_true (Line.Literal s false) k e u l ih i h =
      λ p. both_ways (has (w i) s) (not-true (has (w i) s) (subst (λ (b : Line). sane b (w i) ≡ true) e (sane_at i k l h))) p
  line_true (Line.And x y) k e u l ih i h =
      let b = kind (Line.And x y) k e l i h in
      (ih x u.0 (omega arith) i b.0, ih y u.1 (omega arith) i b.1)
  line_true (Line.Or x y) k e u l ih i h =
      let b = kind (Line.Or x y) k e l i h in
      elim (cases_Bool (C i k)) [
        | inl q ↦ inl (ih x u.0 (omega arith) i (subst (λ (c : Bool). has (unfolded t (N i) (C i)).now (cond c x y) ≡ true) q b))
        | inr q ↦ inr (ih y u.1 (omega arith) i (subst (λ (c : Bool). has (unfolded t (N i) (C i)).now (cond c x y) ≡ true) q b))
      ]
  line_true (Line.Always x) k e u l ih i h =
      λ j g.
      let there : Now j k = subst (λ (y : ℕ). Now y k) (omega arith) (always_on k x l e i (j - i) h) in
      ih x u (omega arith) j (kind (Line.Always x) k e l j there).0
  line_true (Line.Eventually x) k e u l ih i h = let c = comes k x l e i h in (c.0, c.1, ih x u (omega arith) c.0 c.2)
  line_true (Line.Next x) k e u l ih i h = put_true (unfolded t (N i) (C i)).next (suc i) (successor_placed i) k ih k x u u (omega arith) (next_put i x (kind (Line.Next x) k e l i h))

  true_below : (m : ℕ) → TrueBelow m
  unfolding TrueBelow
  true_below zero k a l i h = absurd (omega arith)
  true_below (suc m) k a l i h =
      subst (λ (f : Formula). Holds f w i) (sym (formula_line t o k l))
      (line_true (line t k) k refl (o.earlier k l) l (λ x b c j g. true_below m x (omega arith) c j g) i h)

  pub root_true : N 0 ≡ initial t → Holds (root t) w 0
  unfolding initial
  root_true e =
      put_true (add 0 (length t - 1)) 0 (λ k h. subst (λ (n : Node). has n.label k ≡ true) (sym e) h)
      (length t) (true_below (length t)) (length t) (length t - 1) (omega (arith, o.some)) (omega (arith, o.some)) (omega (arith, o.some))
      (parts_grow t o (length t) (add 0 (length t - 1)) (length t - 1) (has_add_self 0 (length t - 1)))
