-- The computed branches, positions, successors and initial node are those of the relations.
use Rattle.std.proofs.Common.{◌≡◌, ℕ, zero, suc, ◌+◌, ◌-◌, ◌^◌, ◌<◌, ◌≤◌, Bool, true, false, cond, not, ◌&&◌, ◌||◌, ◌⊎◌, ◌↔◌, length, sym, refl, ap, ◌∙◌, subst, inl, inr, pow-suc, arith}
use Rattle.std.proofs.lemmas.Bool.{cases_eq, cases_Bool, both_ways, or_cases, or_left, or_right, and_parts, and_from, not-true, not_from_true, not_from_false, eqb-true, eq-eqb}
use Rattle.std.proofs.lemmas.Nat.{pow_below}
use Rattle.tables.specs.declared.line.Line.{Line}
use Rattle.tables.specs.Lines.{Lines, line}
use Rattle.graph.specs.declared.node.Node.{Node}
use Rattle.graph.specs.Sets.{has, add, set_of}
use Rattle.graph.specs.Numbers.{eventuality}
use Rattle.graph.specs.Unfolding.{Choice, Appears, Next, Later, Needs, Branch, Asks, Omega, Initial, Successor}
use Rattle.graph.specs.Pass.{unfolded, sign, signals, sane, position, branch, everything, is_omega, initial, successor}
use Rattle.graph.proofs.Masks.{has_none, has_add_self, has_add_from, set_of_from, set_of_in, every_at, every_from}
use Rattle.graph.proofs.Words.{mask_ext}
use Rattle.graph.proofs.Ordered.{Ordered}
use Rattle.graph.proofs.Loops.{signals_in}
use Rattle.graph.proofs.Appear.{now_appears, appears_now, appears_within, next_is, later_is}
use Rattle.graph.proofs.Labels.{put_label}

above : (a : ℕ) → a < 2 ^ a
above zero = omega arith
above (suc a) = omega (arith, above a, pow-suc 2 a)

pow_le : (a b : ℕ) → 2 ^ a ≤ 2 ^ (a + b)
pow_le a b = elim (cases_eq b 0) [ inl e ↦ omega (arith, ap (λ (x : ℕ). 2 ^ (a + x)) e, ap (λ (x : ℕ). 2 ^ x) (native.Mathlib.Nat.add-zero a)) | inr h ↦ omega (arith, pow_below a (a + b) (omega arith)) ]

-- sets with the same members are equal
pub same_set : (a b : ℕ) → ((k : ℕ) → (has a k ≡ true) ↔ (has b k ≡ true)) → a ≡ b
same_set a b h =
    mask_ext (a + b) a b (omega (arith, above a, pow_le a b))
    (omega (arith, above b, pow_le b a, ap (λ (x : ℕ). 2 ^ x) (native.Mathlib.Nat.add_comm a b)))
    (λ k l. elim (cases_Bool (has a k)) [
      | inl e ↦ e ∙ sym ((h k).0 e)
      | inr e ↦ elim (cases_Bool (has b k)) [ inl d ↦ absurd (both_ways (has a k) e ((h k).1 d)) | inr d ↦ e ∙ sym d ]
    ])

pub same_parts : (x y : Node) → x.label ≡ y.label → x.marks ≡ y.marks → x.history ≡ y.history → x ≡ y
same_parts x y a b c = λ i. record { label = a i; marks = b i; history = c i }

-- two sets for one description are equal
pub one_set : (P : ℕ → Type 0) (a b : ℕ) → ((k : ℕ) → (has a k ≡ true) ↔ P k) → ((k : ℕ) → (has b k ≡ true) ↔ P k) → a ≡ b
one_set P a b f g = same_set a b (λ k. (λ h. (g k).1 ((f k).0 h), λ h. (f k).1 ((g k).0 h)))

-- a signal comes from a line that appears
Signed : Lines → ℕ → ℕ → ℕ → Type 0
Signed t now m s = (k : ℕ) × (k < m) × (has now k ≡ true) × (line t k ≡ Line.Literal s true)

sign_from : (t : Lines) (now m s : ℕ) (l : Line) (g : ℕ) → line t m ≡ l → has now m ≡ true → (has g s ≡ true → Signed t now (suc m) s) → has (sign l g) s ≡ true → Signed t now (suc m) s
unfolding Signed
sign_from t now m s Line.True g e a ih h = ih h
sign_from t now m s Line.False g e a ih h = ih h
sign_from t now m s (Line.Literal x true) g e a ih h =
    elim (has_add_from g x s h) [ inl q ↦ (m, omega arith, a, e ∙ ap (λ (y : ℕ). Line.Literal y true) (sym q)) | inr q ↦ ih q ]
sign_from t now m s (Line.Literal x false) g e a ih h = ih h
sign_from t now m s (Line.And i j) g e a ih h = ih h
sign_from t now m s (Line.Or i j) g e a ih h = ih h
sign_from t now m s (Line.Always i) g e a ih h = ih h
sign_from t now m s (Line.Eventually i) g e a ih h = ih h
sign_from t now m s (Line.Next i) g e a ih h = ih h

signals_from : (t : Lines) (now m s : ℕ) → has (signals t m now) s ≡ true → Signed t now m s
unfolding signals Signed
signals_from t now zero s h = absurd (both_ways (has 0 s) (has_none s) h)
signals_from t now (suc m) s h =
    let more : has (signals t m now) s ≡ true → Signed t now (suc m) s = λ g. let r = signals_from t now m s g in let l : r.0 < m = r.1 in (r.0, omega arith, r.2, r.3) in
    let P : Bool → Type 0 = λ b. has (cond b (sign (line t m) (signals t m now)) (signals t m now)) s ≡ true in
    elim (cases_Bool (has now m)) [
      | inl q ↦ sign_from t now m s (line t m) (signals t m now) refl q more (subst P q h)
      | inr q ↦ more (subst P q h)
    ]

module _ (t : Lines) (o : Ordered t) (n : Node) (c : Choice) where
  pub position_asks : Asks t n c true (position t n c)
  unfolding position Signed
  position_asks s = (
    λ h. let r = signals_from t (unfolded t n c).now (length t) s h in (r.0, now_appears t n c r.0 r.2, r.3),
    λ h. signals_in t (unfolded t n c).now (length t) h.0 s (appears_within t n c o h.0 h.1) (appears_now t n c o h.0 h.1) h.2,
  )

  pub asks_position : (p : ℕ) → Asks t n c true p → p ≡ position t n c
  asks_position p h = one_set (Needs t n c true) p (position t n c) h position_asks

  sane_here : branch t n c ≡ true → (k : ℕ) → Appears t n c k → sane (line t k) (position t n c) ≡ true
  unfolding branch
  sane_here b k a =
      let U = (unfolded t n c).now in
      elim (or_cases (not (has U k)) (sane (line t k) (position t n c))
      (every_at (length t) (λ k. not (has U k) || sane (line t k) (position t n c)) b k (appears_within t n c o k a))) [
        | inl e ↦ absurd (both_ways (not (has U k)) (not_from_true (has U k) (appears_now t n c o k a)) e)
        | inr e ↦ e
      ]

  sane_from : (l : Line) (on : ℕ) → (l ≡ Line.False → ⊥) → ((s : ℕ) → l ≡ Line.Literal s false → has on s ≡ true → ⊥) → sane l on ≡ true
  sane_from Line.True on f g = refl
  sane_from Line.False on f g = absurd (f refl)
  sane_from (Line.Literal s true) on f g = refl
  sane_from (Line.Literal s false) on f g = elim (cases_Bool (has on s)) [ inl e ↦ absurd (g s refl e) | inr e ↦ not_from_false (has on s) e ]
  sane_from (Line.And i j) on f g = refl
  sane_from (Line.Or i j) on f g = refl
  sane_from (Line.Always i) on f g = refl
  sane_from (Line.Eventually i) on f g = refl
  sane_from (Line.Next i) on f g = refl

  pub branch_is : (branch t n c ≡ true) ↔ Branch t n c
  unfolding branch
  branch_is = (
    λ b. record {
      no_false = λ k a e. both_ways false refl (subst (λ (l : Line). sane l (position t n c) ≡ true) e (sane_here b k a));
      no_clash = λ s p q.
          let z : not (has (position t n c) s) ≡ true = subst (λ (l : Line). sane l (position t n c) ≡ true) q.2 (sane_here b q.0 q.1) in
          both_ways (has (position t n c) s) (not-true (has (position t n c) s) z) ((position_asks s).1 p);
    },
    λ b. every_from (length t) (λ k. not (has (unfolded t n c).now k) || sane (line t k) (position t n c)) (λ k l.
        let U = (unfolded t n c).now in
        elim (cases_Bool (has U k)) [
          | inl e ↦ or_right (not (has U k)) (sane (line t k) (position t n c))
              (sane_from (line t k) (position t n c) (b.no_false k (now_appears t n c k e))
              (λ s q h. b.no_clash s ((position_asks s).0 h) (k, now_appears t n c k e, q)))
          | inr e ↦ or_left (not (has U k)) (sane (line t k) (position t n c)) (not_from_false (has U k) e)
        ]),
  )

all_has : (m e : ℕ) → (has (set_of m (λ k. true)) e ≡ true) ↔ (e < m)
all_has m e = (λ h. (set_of_from m (λ k. true) e h).0, λ h. set_of_in m (λ k. true) e h refl)

pub omega_is : (t : Lines) (n : Node) → (is_omega t n ≡ true) ↔ Omega t n
unfolding is_omega everything
omega_is t n =
    let V : ℕ = eventuality t (length t) in (
      λ h e. subst (λ (x : ℕ). (has x e ≡ true) ↔ (e < V)) (sym (eqb-true n.history (set_of V (λ k. true)) h)) (all_has V e),
      λ h. eq-eqb n.history (set_of V (λ k. true)) (one_set (λ e. e < V) n.history (set_of V (λ k. true)) h (all_has V)),
    )

none_left : (e : ℕ) → (has 0 e ≡ true) → ⊥
none_left e h = both_ways (has 0 e) (has_none e) h

pub initial_is : (t : Lines) → Ordered t → Initial t (initial t)
unfolding initial
initial_is t o =
    record {
      label = put_label t o (λ k. k ≡ length t - 1) (add 0 (length t - 1)) (λ k. (
        λ h. elim (has_add_from 0 (length t - 1) k h) [ inl e ↦ e | inr e ↦ absurd (none_left k e) ],
        λ e. subst (λ (x : ℕ). has (add 0 (length t - 1)) x ≡ true) (sym e) (has_add_self 0 (length t - 1)),
      ));
      marks = refl;
      history = refl;
    }

pub one_initial : (t : Lines) (m n : Node) → Initial t m → Initial t n → m ≡ n
one_initial t m n x y =
    same_parts m n (one_set _ m.label n.label x.label y.label) (x.marks ∙ sym y.marks) (x.history ∙ sym y.history)

-- what is not marked, and what the old history had unless the node is an ω-node
module _ (t : Lines) (o : Ordered t) (n : Node) (c : Choice) where
  abbrev Kept : ℕ → ℕ → Type 0
  Kept marks e = (e < eventuality t (length t)) × ((has marks e ≡ true → ⊥) ⊎ ((has n.history e ≡ true) × (Omega t n → ⊥)))

  history_is : (e : ℕ) → (has (successor t n c).history e ≡ true) ↔ Kept (successor t n c).marks e
  unfolding successor
  history_is e =
      let L : ℕ = (unfolded t n c).later in
      let f : ℕ → Bool = λ e. not (has L e) || (has n.history e && not (is_omega t n)) in (
        λ h.
            let p = set_of_from (eventuality t (length t)) f e h in (
              p.0,
              elim (or_cases (not (has L e)) (has n.history e && not (is_omega t n)) p.1) [
                | inl x ↦ inl (λ y. both_ways (has L e) (not-true (has L e) x) y)
                | inr x ↦
                    let q = and_parts (has n.history e) (not (is_omega t n)) x in
                    inr (q.0, λ y. both_ways (is_omega t n) (not-true (is_omega t n) q.1) ((omega_is t n).1 y))
              ],
            ),
        λ h. set_of_in (eventuality t (length t)) f e h.0 (elim h.1 [
          | inl x ↦ or_left (not (has L e)) (has n.history e && not (is_omega t n))
              (elim (cases_Bool (has L e)) [ inl y ↦ absurd (x y) | inr y ↦ not_from_false (has L e) y ])
          | inr x ↦ or_right (not (has L e)) (has n.history e && not (is_omega t n))
              (and_from (has n.history e) (not (is_omega t n)) x.0
              (elim (cases_Bool (is_omega t n)) [ inl y ↦ absurd (x.1 ((omega_is t n).0 y)) | inr y ↦ not_from_false (is_omega t n) y ]))
        ]),
      )

  pub successor_is : Successor t n c (successor t n c)
  unfolding successor
  successor_is =
      record {
        label = put_label t o (Next t n c) (unfolded t n c).next (next_is t n c o);
        marks = later_is t n c o;
        history = history_is;
      }

  pub one_successor : (l m : Node) → Successor t n c l → Successor t n c m → l ≡ m
  one_successor l m x y =
      let marks : l.marks ≡ m.marks = one_set (Later t n c) l.marks m.marks x.marks y.marks in
      same_parts l m (one_set _ l.label m.label x.label y.label) marks
      (one_set (Kept m.marks) l.history m.history
      (subst (λ (z : ℕ). (e : ℕ) → (has l.history e ≡ true) ↔ Kept z e) marks x.history) y.history)
