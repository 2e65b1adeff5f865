-- A pass of one line over the rows, from the last position to the first.
use Rattle.std.proofs.Common.{◌≡◌, ℕ, suc, ◌+◌, ◌-◌, ◌<◌, ◌≤◌, Bool, true, false, ◌↔◌, List, length, get_or, take, drop, set, sym, refl, ap, ◌∙◌, subst, inl, inr, arith}
use Rattle.std.proofs.lemmas.List.{get_or-set_same, get_or-set_other, get_or-drop, length-drop, take_rest}
use Rattle.std.proofs.lemmas.Bool.{cases_Bool, cases_eq, both_ways}
use Rattle.rules.specs.Runs.{Holds, Run, at}
use Rattle.tables.specs.Lines.{Lines, line, formula}
use Rattle.graph.specs.Sets.{has}
use Rattle.graph.specs.Truths.{span}
use Rattle.graph.proofs.Masks.{has_add_self, has_add_other}
use Rattle.graph.proofs.Ordered.{Ordered, formula_line}
use Rattle.truth.specs.Passes.{Judged, told, Begins, marked}
use Rattle.truth.proofs.Told.{lasting, told_iff}
use Rattle.truth.proofs.Turning.{turned, begins_iff}

marked_own : (row k : ℕ) (b : Bool) → has row k ≡ false → (has (marked row k b) k ≡ true) ↔ (b ≡ true)
marked_own row k true e = (λ h. refl, λ h. has_add_self row k)
marked_own row k false e = (λ h. absurd (both_ways (has row k) e h), λ h. absurd (both_ways false refl h))

marked_other : (row k x : ℕ) (b : Bool) → (x ≡ k → ⊥) → has (marked row k b) x ≡ has row x
marked_other row k x true n = has_add_other row k x n
marked_other row k x false n = refl

module _ (t : Lines) (r : Run) (k : ℕ) where
  -- the row after, at time i: the earlier lines, and line k where it is told by itself
  pub record After (i row : ℕ) : Type 0 where
    pub earlier : (x : ℕ) → x < k → (has row x ≡ true) ↔ Holds (formula t x) (at r) i
    pub own : lasting (line t k) ≡ true → (has row k ≡ true) ↔ Holds (formula t k) (at r) i

  -- the rows from i on are judged for line k too, and those before for the earlier lines only
  pub record Swept (rows : List ℕ) (after i : ℕ) : Type 0 where
    pub before : (j : ℕ) → j < i → Judged t r k j (get_or rows j 0)
    pub behind : (j : ℕ) → i ≤ j → j < span r → Judged t r (k + 1) j (get_or rows j 0)
    pub next : After i after

  not_yet : (i row : ℕ) → Judged t r k i row → has row k ≡ false
  not_yet i row h = elim (cases_Bool (has row k)) [ inr e ↦ e | inl e ↦ let l : k < k = ((h k).0 e).0 in absurd (omega arith) ]

  earlier_of : (i row : ℕ) → Judged t r k i row → (x : ℕ) → x < k → (has row x ≡ true) ↔ Holds (formula t x) (at r) i
  earlier_of i row h x l = (λ e. ((h x).0 e).1, λ e. (h x).1 (l, e))

  judged_more : (i row : ℕ) (b : Bool) → Judged t r k i row → (b ≡ true) ↔ Holds (formula t k) (at r) i → Judged t r (k + 1) i (marked row k b)
  judged_more i row b h e x =
      elim (cases_eq x k) [
        | inl q ↦
            let m = marked_own row k b (not_yet i row h) in
            subst (λ (z : ℕ). (has (marked row k b) z ≡ true) ↔ ((z < k + 1) × Holds (formula t z) (at r) i)) (sym q)
            (λ s. (omega arith, e.0 (m.0 s)), λ s. m.1 (e.1 s.1))
        | inr q ↦
            let m = marked_other row k x b q in (
              λ s. let y = (h x).0 (sym m ∙ s) in let l : x < k = y.0 in (omega arith, y.1),
              λ s. let l : x < k + 1 = s.0 in m ∙ (h x).1 (omega arith, s.1),
            )
      ]

  after_judged : (i row : ℕ) → Judged t r (k + 1) i row → After i row
  after_judged i row h = record {
    earlier = λ x l. (λ e. ((h x).0 e).1, λ e. (h x).1 (omega arith, e));
    own = λ s. (λ e. ((h k).0 e).1, λ e. (h k).1 (omega arith, e));
  }

  module _ (o : Ordered t) (kl : k < length t) where
    told_true : (i row after : ℕ) → Judged t r k i row → After (suc i) after → (told (line t k) k row after (at r i) ≡ true) ↔ Holds (formula t k) (at r) i
    told_true i row after h n =
        rw (formula_line t o k kl)
        (told_iff k (formula t) (at r) i row after (line t k) (o.earlier k kl) (earlier_of i row h) n.earlier (λ s. rw (formula_line t o k kl) at (n.own s)))

    -- the row after the last is the cycle's first
    after_last : (rows : List ℕ) (b : Bool) → length rows ≡ span r → ((j : ℕ) → j < span r → Judged t r k j (get_or rows j 0))
        → Begins (line t k) (drop (length r.lead) rows) b → After (span r) (marked (get_or rows (length r.lead) 0) k b)
    after_last rows b e h d =
        let pos : 0 < length r.cycle = r.lasts in
        let a : ℕ = length r.lead in
        let first : Judged t r k a (get_or rows a 0) = h a (omega arith) in
        let m = marked_own (get_or rows a 0) k b (not_yet a (get_or rows a 0) first) in
        record {
          earlier = λ x l.
              let q = marked_other (get_or rows a 0) k x b (λ z. omega arith) in
              let y = earlier_of a (get_or rows a 0) first x l in
              let z = turned r (formula t x) in
              (λ s. z.0 (y.0 (sym q ∙ s)), λ s. q ∙ y.1 (z.1 s));
          own = λ s.
              let n : length (drop a rows) ≡ length r.cycle = simp length-drop (omega arith) in
              let g : (j : ℕ) → j < length r.cycle → (x : ℕ) → x < k → (has (get_or (drop a rows) j 0) x ≡ true) ↔ Holds (formula t x) (at r) (a + j) =
              λ j l x xl. rw (get_or-drop a rows j 0) (earlier_of (a + j) (get_or rows (a + j) 0) (h (a + j) (omega arith)) x xl) in
              let y : (b ≡ true) ↔ Holds (formula t k) (at r) (span r) =
              rw (formula_line t o k kl) (begins_iff r k (formula t) (drop a rows) b (line t k) (o.earlier k kl) n g d s) in
              (λ z. y.0 (m.0 z), λ z. m.1 (y.1 z));
        }

    pub swept_none : (rows : List ℕ) (after : ℕ) (b : Bool) → length rows ≡ span r → ((j : ℕ) → j < span r → Judged t r k j (get_or rows j 0))
        → Begins (line t k) (take (length rows - length r.lead) (drop (length r.lead) rows)) b
        → after ≡ marked (get_or rows (length r.lead) 0) k b → Swept rows after (length rows)
    swept_none rows after b e h d q = record {
      before = λ j l. h j (omega arith);
      behind = λ j g l. absurd (omega arith);
      next = rw (e, q) (after_last rows b e h (rw (take_rest rows (length r.lead)) at d));
    }

    pub swept_more : (rows : List ℕ) (after i p fresh : ℕ) (b : Bool) → 0 < i → i ≤ span r → length rows ≡ span r → Swept rows after i
        → p ≡ at r (i - 1) → b ≡ told (line t k) k (get_or rows (i - 1) 0) after p → fresh ≡ marked (get_or rows (i - 1) 0) k b
        → Swept (set rows (i - 1) fresh) fresh (i - 1)
    swept_more rows after i p fresh b pos il e s ep eb ef =
        let n : suc (i - 1) ≡ i = omega arith in
        let row : ℕ = get_or rows (i - 1) 0 in
        let old : Judged t r k (i - 1) row = s.before (i - 1) (omega arith) in
        let iff = told_true (i - 1) row after old (subst (λ (z : ℕ). After z after) (sym n) s.next) in
        let d : b ≡ told (line t k) k row after (at r (i - 1)) = eb ∙ ap (told (line t k) k row after) ep in
        let here : Judged t r (k + 1) (i - 1) fresh = subst (Judged t r (k + 1) (i - 1)) (sym ef) (judged_more (i - 1) row b old (λ z. iff.0 (sym d ∙ z), λ z. d ∙ iff.1 z)) in
        let same : get_or (set rows (i - 1) fresh) (i - 1) 0 ≡ fresh = get_or-set_same rows (i - 1) fresh 0 (omega arith) in
        record {
          before = λ j l. subst (Judged t r k j) (sym (get_or-set_other rows (i - 1) j fresh 0 (λ q. omega arith))) (s.before j (omega arith));
          behind = λ j g l.
              elim (cases_eq j (i - 1)) [
                | inl q ↦ rw (q, same) here
                | inr q ↦ subst (Judged t r (k + 1) j) (sym (get_or-set_other rows (i - 1) j fresh 0 q)) (s.behind j (omega arith) l)
              ];
          next = after_judged (i - 1) fresh here;
        }
