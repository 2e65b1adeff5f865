-- A choice matters only at the choice lines, so finitely many choices stand for all.
use Rattle.std.proofs.Common.{◌≡◌, ℕ, zero, suc, ◌^◌, ◌<◌, Bool, true, false, cond, not, ◌&&◌, ◌||◌, eqb, ltb, leb, ◌↔◌, List, length, sym, refl, ap, ◌∙◌, inl, inr, arith}
use native.Mathlib.Decide.{dec_lt}
use Rattle.std.proofs.lemmas.Bool.{cases_Bool, both_ways, or_cases, or_left, or_right, and_parts, and_from, not-true, not-false, not_from_false, not_from_true, eqb-true, eq-eqb, leb-true, le-leb, ltb-true, lt-ltb}
use Rattle.graph.specs.Sets.{has, set_of, every, any}
use Rattle.tables.specs.declared.line.Line.{Line}
use Rattle.tables.specs.Lines.{Lines, line, is_choice}
use Rattle.graph.specs.Numbers.{eventuality, choice_of}
use Rattle.graph.specs.Unfolding.{Choice}
use Rattle.graph.specs.Pass.{Unfolded, visit, unfold_below, opened, unfolded, position, branch, is_omega, initial, successor}
use Rattle.graph.specs.Graphs.{Ranked, entry}
use Rattle.graph.proofs.Ways.{Follows, Certificate}
use Rattle.graph.specs.Moves.{by_mask}
use Rattle.graph.specs.Tests.{same_node, follows, certified}
use Rattle.graph.specs.declared.node.Node.{Node}
use Rattle.graph.proofs.Masks.{every_at, every_from, every_fails, set_of_lt, set_of_has}
use Rattle.graph.proofs.Numbers.{number_inj, number_lt, number_line}

pub any_from : (n : ℕ) (f : ℕ → Bool) (k : ℕ) → k < n → f k ≡ true → any n f ≡ true
unfolding any
any_from n f k l e =
    elim (cases_Bool (every n (λ k. not (f k)))) [
      | inl h ↦ absurd (both_ways (f k) (not-true (f k) (every_at n (λ k. not (f k)) h k l)) e)
      | inr h ↦ not_from_false (every n (λ k. not (f k))) h
    ]

pub any_at : (n : ℕ) (f : ℕ → Bool) → any n f ≡ true → (k : ℕ) × (k < n) × (f k ≡ true)
unfolding any
any_at n f h =
    let x = every_fails n (λ k. not (f k)) (not-true (every n (λ k. not (f k))) h) in
    (x.0, x.1, not-false (f x.0) x.2)

-- two choices that agree at a choice line visit it alike
visit_same : (l : Line) (b d : Bool) (k e : ℕ) (s : Unfolded) → (is_choice l ≡ true → b ≡ d) → visit l b k e s ≡ visit l d k e s
unfolding visit
visit_same Line.True b d k e s h = refl
visit_same Line.False b d k e s h = refl
visit_same (Line.Literal x y) b d k e s h = refl
visit_same (Line.And x y) b d k e s h = refl
visit_same (Line.Or x y) b d k e s h = ap (λ (v : Bool). visit (Line.Or x y) v k e s) (h refl)
visit_same (Line.Always x) b d k e s h = refl
visit_same (Line.Eventually x) b d k e s h = ap (λ (v : Bool). visit (Line.Eventually x) v k e s) (h refl)
visit_same (Line.Next x) b d k e s h = refl

below_same : (t : Lines) (c d : Choice) (m : ℕ) → ((k : ℕ) → k < m → is_choice (line t k) ≡ true → c k ≡ d k) → (s : Unfolded) → unfold_below t c m s ≡ unfold_below t d m s
unfolding unfold_below
below_same t c d zero h s = refl
below_same t c d (suc m) h s =
    ap (λ (v : Unfolded). unfold_below t c m (cond (has s.now m) v s)) (visit_same (line t m) (c m) (d m) m (eventuality t m) s (h m (omega arith)))
    ∙ below_same t c d m (λ k l. h k (omega arith)) (cond (has s.now m) (visit (line t m) (d m) m (eventuality t m) s) s)

abbrev pub Alike : Lines → Choice → Choice → Type 0
Alike t c d = (k : ℕ) → k < length t → is_choice (line t k) ≡ true → c k ≡ d k

pub unfolded_same : (t : Lines) (c d : Choice) → Alike t c d → (n : Node) → unfolded t n c ≡ unfolded t n d
unfolding unfolded
unfolded_same t c d h n = below_same t c d (length t) h (opened t n)

pub branch_same : (t : Lines) (c d : Choice) → Alike t c d → (n : Node) → branch t n c ≡ branch t n d
unfolding branch position
branch_same t c d h n = let e = unfolded_same t c d h n in rw e

pub successor_same : (t : Lines) (c d : Choice) → Alike t c d → (n : Node) → successor t n c ≡ successor t n d
unfolding successor
successor_same t c d h n = let e = unfolded_same t c d h n in rw e

-- the number of a choice: bit e is the choice at the choice line e
at_choice : (t : Lines) (c : Choice) (e : ℕ) → Dec (e < choice_of t (length t)) → Bool
at_choice t c e (yes l) = c (number_line is_choice t e (length t) l).at
at_choice t c e (no n) = false

pub mask_of : Lines → Choice → ℕ
mask_of t c = set_of (choice_of t (length t)) (λ e. at_choice t c e (dec_lt e (choice_of t (length t))))

at_choice_is : (t : Lines) (c : Choice) (k : ℕ) → k < length t → is_choice (line t k) ≡ true → (d : Dec (choice_of t k < choice_of t (length t))) → at_choice t c (choice_of t k) d ≡ c k
unfolding at_choice
at_choice_is t c k l h (yes b) =
    let r = number_line is_choice t (choice_of t k) (length t) b in
    ap c (number_inj is_choice t r.at k r.is h r.counted)
at_choice_is t c k l h (no n) = absurd (n (number_lt is_choice t k (length t) h l))

pub mask_alike : (t : Lines) (c : Choice) → Alike t c (by_mask t (mask_of t c))
unfolding by_mask mask_of
mask_alike t c k l h =
    sym (set_of_has (choice_of t (length t)) (λ e. at_choice t c e (dec_lt e (choice_of t (length t)))) (choice_of t k) (number_lt is_choice t k (length t) h l)
    ∙ at_choice_is t c k l h (dec_lt (choice_of t k) (choice_of t (length t))))

pub mask_lt : (t : Lines) (c : Choice) → mask_of t c < 2 ^ choice_of t (length t)
unfolding mask_of
mask_lt t c = set_of_lt (choice_of t (length t)) (λ e. at_choice t c e (dec_lt e (choice_of t (length t))))

pub same_node_true : (x y : Node) → same_node x y ≡ true → x ≡ y
unfolding same_node
same_node_true x y h =
    let p = and_parts (eqb x.label y.label) (eqb x.marks y.marks && eqb x.history y.history) h in
    let q = and_parts (eqb x.marks y.marks) (eqb x.history y.history) p.1 in
    let a = eqb-true x.label y.label p.0 in
    let b = eqb-true x.marks y.marks q.0 in
    let c = eqb-true x.history y.history q.1 in
    λ i. record { label = a i; marks = b i; history = c i }

pub same_node_refl : (x y : Node) → x ≡ y → same_node x y ≡ true
unfolding same_node
same_node_refl x y e =
    and_from (eqb x.label y.label) (eqb x.marks y.marks && eqb x.history y.history) (eq-eqb x.label y.label (ap (λ (n : Node). n.label) e))
    (and_from (eqb x.marks y.marks) (eqb x.history y.history) (eq-eqb x.marks y.marks (ap (λ (n : Node). n.marks) e)) (eq-eqb x.history y.history (ap (λ (n : Node). n.history) e)))

module _ (t : Lines) (l : List Ranked) where
  abbrev ok : ℕ → ℕ → Bool
  ok a m = not (branch t (entry l a).node (by_mask t m)) || any (length l) (follows t l (entry l a) (by_mask t m))

  abbrev rows : ℕ → Bool
  rows a = every (2 ^ choice_of t (length t)) (ok a)

  abbrev drops : Ranked → ℕ → Bool
  drops r b = not (is_omega t r.node) || ltb (entry l b).rank r.rank

  follows_true : (r : Ranked) (c : Choice) (b : ℕ) → b < length l → follows t l r c b ≡ true → Follows t l r c
  unfolding follows
  follows_true r c b g h =
      let p = and_parts (same_node (entry l b).node (successor t r.node c)) (leb (entry l b).rank r.rank && drops r b) h in
      let q = and_parts (leb (entry l b).rank r.rank) (drops r b) p.1 in
      record {
        place = b;
        within = g;
        same = same_node_true (entry l b).node (successor t r.node c) p.0;
        sinks = leb-true (entry l b).rank r.rank q.0;
        falls = λ e. elim (or_cases (not (is_omega t r.node)) (ltb (entry l b).rank r.rank) q.1) [
          | inl x ↦ absurd (both_ways (not (is_omega t r.node)) (not_from_true (is_omega t r.node) e) x)
          | inr x ↦ ltb-true (entry l b).rank r.rank x
        ];
      }

  follows_from : (r : Ranked) (c : Choice) (z : Follows t l r c) → follows t l r c z.place ≡ true
  unfolding follows
  follows_from r c z =
      and_from (same_node (entry l z.place).node (successor t r.node c)) (leb (entry l z.place).rank r.rank && drops r z.place)
      (same_node_refl (entry l z.place).node (successor t r.node c) z.same)
      (and_from (leb (entry l z.place).rank r.rank) (drops r z.place) (le-leb (entry l z.place).rank r.rank z.sinks)
      (elim (cases_Bool (is_omega t r.node)) [
        | inl e ↦ or_right (not (is_omega t r.node)) (ltb (entry l z.place).rank r.rank) (lt-ltb (entry l z.place).rank r.rank (z.falls e))
        | inr e ↦ or_left (not (is_omega t r.node)) (ltb (entry l z.place).rank r.rank) (not_from_false (is_omega t r.node) e)
      ]))

  moved : (r : Ranked) (c d : Choice) → Alike t d c → Follows t l r c → Follows t l r d
  moved r c d h z =
      record { place = z.place; within = z.within; same = z.same ∙ sym (successor_same t d c h r.node); sinks = z.sinks; falls = z.falls }

  accepted : certified t l ≡ true → Certificate t l
  unfolding certified
  accepted h =
      let p = and_parts (ltb 0 (length l) && same_node (entry l 0).node (initial t)) (every (length l) rows) h in
      let q = and_parts (ltb 0 (length l)) (same_node (entry l 0).node (initial t)) p.0 in
      record {
        some = ltb-true 0 (length l) q.0;
        first = same_node_true (entry l 0).node (initial t) q.1;
        closed = λ a g c b.
            let m : ℕ = mask_of t c in
            let alike = mask_alike t c in
            elim (or_cases (not (branch t (entry l a).node (by_mask t m))) (any (length l) (follows t l (entry l a) (by_mask t m)))
            (every_at (2 ^ choice_of t (length t)) (ok a) (every_at (length l) rows p.1 a g) m (mask_lt t c))) [
              | inl x ↦ absurd (both_ways (branch t (entry l a).node (by_mask t m)) (not-true (branch t (entry l a).node (by_mask t m)) x)
                  (sym (branch_same t c (by_mask t m) alike (entry l a).node) ∙ b))
              | inr x ↦
                  let y = any_at (length l) (follows t l (entry l a) (by_mask t m)) x in
                  moved (entry l a) (by_mask t m) c alike (follows_true (entry l a) (by_mask t m) y.0 y.1 y.2)
            ];
      }

  accepts : Certificate t l → certified t l ≡ true
  unfolding certified
  accepts z =
      and_from (ltb 0 (length l) && same_node (entry l 0).node (initial t)) (every (length l) rows)
      (and_from (ltb 0 (length l)) (same_node (entry l 0).node (initial t)) (lt-ltb 0 (length l) z.some) (same_node_refl (entry l 0).node (initial t) z.first))
      (every_from (length l) rows (λ a g. every_from (2 ^ choice_of t (length t)) (ok a) (λ m g'.
      elim (cases_Bool (branch t (entry l a).node (by_mask t m))) [
        | inr e ↦ or_left (not (branch t (entry l a).node (by_mask t m))) (any (length l) (follows t l (entry l a) (by_mask t m))) (not_from_false (branch t (entry l a).node (by_mask t m)) e)
        | inl e ↦
            let y = z.closed a g (by_mask t m) e in
            or_right (not (branch t (entry l a).node (by_mask t m))) (any (length l) (follows t l (entry l a) (by_mask t m)))
            (any_from (length l) (follows t l (entry l a) (by_mask t m)) y.place y.within (follows_from (entry l a) (by_mask t m) y))
      ])))

pub certified_exact : (t : Lines) (l : List Ranked) → (certified t l ≡ true) ↔ Certificate t l
certified_exact t l = (accepted t l, accepts t l)
