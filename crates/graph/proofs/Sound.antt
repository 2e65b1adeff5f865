-- No run meets a table that has a certificate. The run is followed through the listed nodes.
use Rattle.std.proofs.Common.{◌≡◌, ℕ, zero, suc, ◌+◌, ◌-◌, ◌<◌, ◌≤◌, Bool, true, false, not, ◌&&◌, ◌||◌, ◌⊎◌, List, length, sym, refl, ap, ◌∙◌, subst, inl, inr, add-zero, add-suc, arith}
use Rattle.std.proofs.lemmas.Bool.{cases_eq, cases_Bool, both_ways, or_left, or_right, and_from, not_from_false, eq-eqb}
use Rattle.graph.specs.Sets.{has, add, set_of}
use Rattle.rules.specs.Formula.{Formula}
use Rattle.rules.specs.Runs.{Holds, Run, at, Keeps}
use Rattle.tables.specs.Lines.{Lines, line, formula, is_eventuality, root}
use Rattle.graph.proofs.Ordered.{Ordered, build, formula_line}
use Rattle.graph.specs.Numbers.{eventuality}
use Rattle.graph.specs.Unfolding.{Choice}
use Rattle.graph.specs.Pass.{unfolded, everything, is_omega, initial, successor}
use Rattle.graph.specs.Graphs.{Ranked, entry}
use Rattle.graph.proofs.Ways.{Follows, Certificate}
use Rattle.tables.specs.declared.line.Line.{Line}
use Rattle.graph.specs.declared.node.Node.{Node}
use Rattle.graph.proofs.Masks.{has_none, has_add_from, set_of_from, set_of_in, set_of_same, set_of_none}
use Rattle.rules.proofs.Truth.{run_dec}
use Rattle.graph.proofs.Numbers.{number_inj}
use Rattle.graph.proofs.Unfolds.{first, Stands, Good, Sound, ByTruth, unfolded_good, put_good, branch_good}

-- a decision as a test
is_yes : {A : Type 0} → Dec A → Bool
is_yes (yes x) = true
is_yes (no h) = false

is_yes_true : {A : Type 0} (d : Dec A) → is_yes d ≡ true → A
unfolding is_yes
is_yes_true (yes x) e = x
is_yes_true (no h) e = absurd (both_ways false refl e)

is_yes_false : {A : Type 0} (d : Dec A) → is_yes d ≡ false → A → ⊥
unfolding is_yes
is_yes_false (yes x) e a = both_ways true e refl
is_yes_false (no h) e a = h a

-- an eventuality's line has an operand that comes true
ev_comes : (l : Line) (f : ℕ → Formula) (w : ℕ → ℕ) (i : ℕ) → is_eventuality l ≡ true → Holds (build l f) w i → (j : ℕ) × (i ≤ j) × Holds (f (first l)) w j
ev_comes Line.True f w i e h = absurd (both_ways false refl e)
ev_comes Line.False f w i e h = absurd (both_ways false refl e)
ev_comes (Line.Literal s b) f w i e h = absurd (both_ways false refl e)
ev_comes (Line.And x y) f w i e h = absurd (both_ways false refl e)
ev_comes (Line.Or x y) f w i e h = absurd (both_ways false refl e)
ev_comes (Line.Always x) f w i e h = absurd (both_ways false refl e)
ev_comes (Line.Eventually x) f w i e h = h
ev_comes (Line.Next x) f w i e h = absurd (both_ways false refl e)

-- a history of eventualities only
Tidy : Lines → Node → Type 0
Tidy t n = (f : ℕ → Bool) × (n.history ≡ set_of (eventuality t (length t)) f)

-- a listed node that is true at time i
record Stand (t : Lines) (l : List Ranked) (w : ℕ → ℕ) (i : ℕ) : Type 0 where
  place : ℕ
  within : place < length l
  sound : Sound t w i (entry l place).node
  tidy : Tidy t (entry l place).node

module _ (t : Lines) (o : Ordered t) (l : List Ranked) (z : Certificate t l) (w : ℕ → ℕ) (dec : (f : Formula) (i : ℕ) → Dec (Holds f w i)) where
  choose : ℕ → Choice
  choose i k = is_yes (dec (formula t (first (line t k))) i)

  by_truth : (i : ℕ) → ByTruth t w i (choose i)
  unfolding choose
  by_truth i =
      record {
        chosen = λ k e. is_yes_true (dec (formula t (first (line t k))) i) e;
        not_chosen = λ k e. is_yes_false (dec (formula t (first (line t k))) i) e;
      }

  good : (i : ℕ) (x : Stand t l w i) → Good t w (choose i) i (unfolded t (entry l x.place).node (choose i))
  good i x = unfolded_good t o w i (choose i) (entry l x.place).node x.sound (by_truth i)

  follow : (i : ℕ) (x : Stand t l w i) → Follows t l (entry l x.place) (choose i)
  follow i x = z.closed x.place x.within (choose i) (branch_good t o w i (entry l x.place).node (choose i) (good i x))

  next_sound : (i : ℕ) (n : Node) → Good t w (choose i) i (unfolded t n (choose i)) → Sound t w (suc i) (successor t n (choose i))
  unfolding successor
  next_sound i n g =
      record {
        label = put_good t o w (suc i) (unfolded t n (choose i)).next g.next;
        marks = λ e h. (g.later e h).awaits;
      }

  next_tidy : (n : Node) (c : Choice) → Tidy t (successor t n c)
  unfolding successor Tidy
  next_tidy n c = (λ e. not (has (unfolded t n c).later e) || (has n.history e && not (is_omega t n)), refl)

  move : (i : ℕ) → Stand t l w i → Stand t l w (suc i)
  move i x =
      record {
        place = (follow i x).place;
        within = (follow i x).within;
        sound = subst (Sound t w (suc i)) (sym (follow i x).same) (next_sound i (entry l x.place).node (good i x));
        tidy = subst (Tidy t) (sym (follow i x).same) (next_tidy (entry l x.place).node (choose i));
      }

  module _ (start : Stand t l w 0) where
    walk : (i : ℕ) → Stand t l w i
    walk zero = start
    walk (suc i) = move i (walk i)

    N : ℕ → Node
    N i = (entry l (walk i).place).node

    R : ℕ → ℕ
    R i = (entry l (walk i).place).rank

    N_next : (i : ℕ) → N (suc i) ≡ successor t (N i) (choose i)
    unfolding N walk move
    N_next i = (follow i (walk i)).same

    R_sinks : (i : ℕ) → R (suc i) ≤ R i
    unfolding R walk move
    R_sinks i = (follow i (walk i)).sinks

    R_falls : (i : ℕ) → is_omega t (N i) ≡ true → R (suc i) < R i
    unfolding R N walk move
    R_falls i e = (follow i (walk i)).falls e

    N_good : (i : ℕ) → Good t w (choose i) i (unfolded t (N i) (choose i))
    unfolding N
    N_good i = good i (walk i)

    N_sound : (i : ℕ) → Sound t w i (N i)
    unfolding N
    N_sound i = (walk i).sound

    N_tidy : (i : ℕ) → Tidy t (N i)
    unfolding N
    N_tidy i = (walk i).tidy

    -- what the successor's parts are
    marks_later : (i e : ℕ) → has (N (suc i)).marks e ≡ true → has (unfolded t (N i) (choose i)).later e ≡ true
    unfolding successor
    marks_later i e h = subst (λ (n : Node). has n.marks e ≡ true) (N_next i) h

    later_marks : (i e : ℕ) → has (N (suc i)).marks e ≡ false → has (unfolded t (N i) (choose i)).later e ≡ false
    unfolding successor
    later_marks i e h = subst (λ (n : Node). has n.marks e ≡ false) (N_next i) h

    history_in : (i e : ℕ) → e < eventuality t (length t)
        → (not (has (unfolded t (N i) (choose i)).later e) || (has (N i).history e && not (is_omega t (N i)))) ≡ true → has (N (suc i)).history e ≡ true
    unfolding successor
    history_in i e m h =
        subst (λ (n : Node). has n.history e ≡ true) (sym (N_next i))
        (set_of_in (eventuality t (length t)) (λ e. not (has (unfolded t (N i) (choose i)).later e) || (has (N i).history e && not (is_omega t (N i)))) e m h)

    -- an eventuality that is not marked next enters the history
    enters : (i e : ℕ) → e < eventuality t (length t) → has (N (suc i)).marks e ≡ false → has (N (suc i)).history e ≡ true
    enters i e m h = history_in i e m (or_left _ _ (not_from_false _ (later_marks i e h)))

    -- what is in the history stays, but at an ω-node
    remains : (i e : ℕ) → e < eventuality t (length t) → is_omega t (N i) ≡ false → has (N i).history e ≡ true → has (N (suc i)).history e ≡ true
    remains i e m q h = history_in i e m (or_right _ _ (and_from _ _ h (not_from_false _ q)))

    -- each eventuality is unmarked again and again
    served : (i e : ℕ) → (j : ℕ) × (i ≤ j) × (has (N (suc j)).marks e ≡ false)
    served i e =
        elim (cases_Bool (has (N (suc i)).marks e)) [
          | inr h ↦ (i, omega arith, h)
          | inl h ↦
              let a = (N_sound (suc i)).marks e h in
              let k : ℕ = a.at in
              let b = ev_comes (line t k) (formula t) w (suc i) a.is
              (subst (λ (f : Formula). Holds f w (suc i)) (formula_line t o k a.stands.within) a.stands.holds) in
              let j : ℕ = b.0 in
              let far : suc i ≤ j = b.1 in
              elim (cases_Bool (has (N (suc j)).marks e)) [
                | inr u ↦ (j, omega arith, u)
                | inl u ↦
                    let p = (N_good j).later e (marks_later j e u) in
                    let q = number_inj is_eventuality t p.awaits.at k p.awaits.is a.is (p.awaits.number ∙ sym a.number) in
                    absurd ((by_truth j).not_chosen k (sym (ap (choose j) q) ∙ p.chosen) b.2)
              ]
        ]

    OmegaFrom : ℕ → Type 0
    OmegaFrom i = (j : ℕ) × (i ≤ j) × (is_omega t (N j) ≡ true)

    keep : (i d : ℕ) → OmegaFrom i ⊎ ((e : ℕ) → e < eventuality t (length t) → has (N i).history e ≡ true → has (N (i + d)).history e ≡ true)
    unfolding OmegaFrom
    keep i zero = inr (λ e m h. rw add-zero h)
    keep i (suc d) =
        elim (keep i d) [
          | inl x ↦ inl x
          | inr f ↦ elim (cases_Bool (is_omega t (N (i + d)))) [
            | inl q ↦ inl (i + d, omega arith, q)
            | inr q ↦ inr (λ e m h. rw add-suc (remains (i + d) e m q (f e m h)))
          ]
        ]

    fill : (i m : ℕ) → m ≤ eventuality t (length t) → OmegaFrom i ⊎ ((j : ℕ) × (i ≤ j) × ((e : ℕ) → e < m → has (N j).history e ≡ true))
    unfolding OmegaFrom
    fill i zero b = inr (i, omega arith, λ e m. absurd (omega arith))
    fill i (suc m) b =
        elim (fill i m (omega arith)) [
          | inl x ↦ inl x
          | inr x ↦
              let j : ℕ = x.0 in
              let p : i ≤ j = x.1 in
              let y = served j m in
              let j' : ℕ = y.0 in
              let p' : j ≤ j' = y.1 in
              elim (keep j (j' - j)) [
                | inl u ↦ let v : j ≤ u.0 = u.1 in inl (u.0, omega arith, u.2)
                | inr f ↦ elim (cases_Bool (is_omega t (N j'))) [
                  | inl q ↦ inl (j', omega arith, q)
                  | inr q ↦ inr (
                    suc j',
                    omega arith,
                    λ e r.
                        elim (cases_eq e m) [
                          | inl s ↦ subst (λ (e : ℕ). has (N (suc j')).history e ≡ true) (sym s) (enters j' m (omega arith) y.2)
                          | inr s ↦ remains j' e (omega arith) q
                              (subst (λ (x : ℕ). has (N x).history e ≡ true) (omega arith) (f e (omega arith) (x.2 e (omega arith))))
                        ],
                  )
                ]
              ]
        ]

    full : (j : ℕ) → ((e : ℕ) → e < eventuality t (length t) → has (N j).history e ≡ true) → is_omega t (N j) ≡ true
    unfolding is_omega everything Tidy
    full j h =
        let f : ℕ → Bool = (N_tidy j).0 in
        let e : (N j).history ≡ set_of (eventuality t (length t)) f = (N_tidy j).1 in
        eq-eqb (N j).history (set_of (eventuality t (length t)) (λ e. true))
        (e ∙ set_of_same (eventuality t (length t)) f (λ e. true) (λ k m. (set_of_from (eventuality t (length t)) f k (subst (λ (x : ℕ). has x k ≡ true) e (h k m))).1))

    omega_again : (i : ℕ) → OmegaFrom i
    unfolding OmegaFrom
    omega_again i = elim (fill i (eventuality t (length t)) (omega arith)) [ inl x ↦ x | inr x ↦ (x.0, x.1, full x.0 x.2) ]

    sinks : (i d : ℕ) → R (i + d) ≤ R i
    sinks i zero = rw add-zero (omega arith)
    sinks i (suc d) = rw add-suc (omega (arith, sinks i d, R_sinks (i + d)))

    never : (r i : ℕ) → R i ≤ r → ⊥
    unfolding OmegaFrom
    never zero i h =
        let x = omega_again i in
        let j : ℕ = x.0 in
        let p : i ≤ j = x.1 in
        let e : i + (j - i) ≡ j = omega arith in
        omega (arith, R_falls j x.2, subst (λ (y : ℕ). R y ≤ R i) e (sinks i (j - i)))
    never (suc r) i h =
        let x = omega_again i in
        let j : ℕ = x.0 in
        let p : i ≤ j = x.1 in
        let e : i + (j - i) ≡ j = omega arith in
        never r (suc j) (omega (arith, R_falls j x.2, subst (λ (y : ℕ). R y ≤ R i) e (sinks i (j - i))))

  initial_sound : Holds (root t) w 0 → Sound t w 0 (initial t)
  unfolding initial
  initial_sound h =
      record {
        label = put_good t o w 0 (add 0 (length t - 1)) (λ k e.
            elim (has_add_from 0 (length t - 1) k e) [
              | inl q ↦ subst (Stands t w 0) (sym q) (record { within = omega (arith, o.some); holds = h })
              | inr q ↦ absurd (both_ways (has 0 k) (has_none k) q)
            ]);
        marks = λ e h. absurd (both_ways (has 0 e) (has_none e) h);
      }

  initial_tidy : Tidy t (initial t)
  unfolding initial Tidy
  initial_tidy = (λ e. false, sym (set_of_none (eventuality t (length t))))

  pub refuted : Holds (root t) w 0 → ⊥
  refuted h =
      let start : Stand t l w 0 =
      record {
        place = 0;
        within = z.some;
        sound = subst (Sound t w 0) (sym z.first) (initial_sound h);
        tidy = subst (Tidy t) (sym z.first) initial_tidy;
      } in
      never start (R start 0) 0 (omega arith)

pub certificate_sound : (t : Lines) → Ordered t → (l : List Ranked) → Certificate t l → (r : Run) → Keeps (root t) r → ⊥
certificate_sound t o l z r h = refuted t o l z (at r) (λ f i. run_dec f r i) h
