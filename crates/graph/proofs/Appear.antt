-- The pass computes just what appears, what is put next and what is put off.
use Rattle.std.proofs.Common.{◌≡◌, ℕ, ◌<◌, Bool, true, false, cond, ◌&&◌, ◌||◌, ◌↔◌, length, sym, refl, ap, ◌∙◌, subst, inl, inr, arith}
use Rattle.std.proofs.lemmas.Bool.{both_ways, or_cases, and_parts}
use Rattle.tables.specs.declared.line.Line.{Line}
use Rattle.tables.specs.Lines.{Lines, line, is_eventuality}
use Rattle.graph.specs.declared.node.Node.{Node}
use Rattle.graph.specs.Sets.{has, add}
use Rattle.graph.specs.Numbers.{eventuality}
use Rattle.graph.specs.Unfolding.{Choice, Brings, Appears, given, brought, Puts, Next, Later}
use Rattle.graph.specs.Pass.{Unfolded, visit, opened, unfolded}
use Rattle.graph.proofs.Masks.{has_none, all_add, set_of_from}
use Rattle.graph.proofs.Ordered.{Under, Ordered}
use Rattle.graph.proofs.Unfolds.{unfold_keeps}
use Rattle.graph.proofs.Closed.{Brings as Has, closed, label_now, mark_now}

-- what a pass has found so far is there
record Found (t : Lines) (n : Node) (c : Choice) (s : Unfolded) : Type 0 where
  now : (k : ℕ) → has s.now k ≡ true → Appears t n c k
  next : (k : ℕ) → has s.next k ≡ true → Next t n c k
  later : (e : ℕ) → has s.later e ≡ true → Later t n c e

module _ (t : Lines) (n : Node) (c : Choice) where
  visit_found : (l : Line) (b : Bool) (k : ℕ) → line t k ≡ l → c k ≡ b → Appears t n c k → (s : Unfolded) → Found t n c s → Found t n c (visit l b k (eventuality t k) s)
  unfolding visit
  visit_found Line.True b k e d a s f = f
  visit_found Line.False b k e d a s f = f
  visit_found (Line.Literal x y) b k e d a s f = f
  visit_found (Line.And i j) b k e d a s f =
      let one : (x : ℕ) → Brings (Line.And i j) (c k) x → Appears t n c x = λ x h. brought k x a (subst (λ (y : Line). Brings y (c k) x) (sym e) h) in
      record {
        now = all_add (Appears t n c) (add s.now i) j (one j (inr refl)) (all_add (Appears t n c) s.now i (one i (inl refl)) f.now);
        next = f.next;
        later = f.later;
      }
  visit_found (Line.Or i j) b k e d a s f =
      record {
        now = all_add (Appears t n c) s.now (cond b i j)
            (brought k (cond b i j) a (subst (λ (y : Line). Brings y (c k) (cond b i j)) (sym e) (ap (λ (z : Bool). cond z i j) (sym d)))) f.now;
        next = f.next;
        later = f.later;
      }
  visit_found (Line.Always i) b k e d a s f =
      record {
        now = all_add (Appears t n c) s.now i (brought k i a (subst (λ (y : Line). Brings y (c k) i) (sym e) refl)) f.now;
        next = all_add (Next t n c) s.next k (k, a, subst (λ (y : Line). Puts y k k) (sym e) refl) f.next;
        later = f.later;
      }
  visit_found (Line.Eventually i) true k e d a s f =
      let q : Brings (Line.Eventually i) (c k) i = subst (λ (z : Bool). Brings (Line.Eventually i) z i) (sym d) refl in
      record {
        now = all_add (Appears t n c) s.now i (brought k i a (subst (λ (y : Line). Brings y (c k) i) (sym e) q)) f.now;
        next = f.next;
        later = f.later;
      }
  visit_found (Line.Eventually i) false k e d a s f =
      record {
        now = f.now;
        next = f.next;
        later = all_add (Later t n c) s.later (eventuality t k) (k, a, ap is_eventuality e, d, refl) f.later;
      }
  visit_found (Line.Next i) b k e d a s f =
      record {
        now = f.now;
        next = all_add (Next t n c) s.next i (k, a, subst (λ (y : Line). Puts y k i) (sym e) refl) f.next;
        later = f.later;
      }

  opened_found : Found t n c (opened t n)
  unfolding opened
  opened_found =
      record {
        now = λ k h.
            let f : ℕ → Bool = λ k. has n.label k || (is_eventuality (line t k) && has n.marks (eventuality t k)) in
            let p = set_of_from (length t) f k h in
            given k (
              p.0,
              elim (or_cases (has n.label k) (is_eventuality (line t k) && has n.marks (eventuality t k)) p.1) [
                | inl x ↦ inl x
                | inr x ↦ inr (and_parts (is_eventuality (line t k)) (has n.marks (eventuality t k)) x)
              ],
            );
        next = λ k h. absurd (both_ways (has 0 k) (has_none k) h);
        later = λ k h. absurd (both_ways (has 0 k) (has_none k) h);
      }

  found : Found t n c (unfolded t n c)
  unfolding unfolded
  found =
      unfold_keeps t c (Found t n c) (length t)
      (λ k s l e g. visit_found (line t k) (c k) k refl refl (g.now k e) s g)
      (opened t n) opened_found

  pub now_appears : (k : ℕ) → has (unfolded t n c).now k ≡ true → Appears t n c k
  now_appears k h = found.now k h

  module _ (o : Ordered t) where
    brings_within : (l : Line) (b : Bool) (k x : ℕ) → Under l k → Brings l b x → x < k
    brings_within Line.True b k x u h = absurd h
    brings_within Line.False b k x u h = absurd h
    brings_within (Line.Literal s y) b k x u h = absurd h
    brings_within (Line.And i j) b k x u h = elim h [ inl e ↦ omega arith | inr e ↦ omega arith ]
    brings_within (Line.Or i j) true k x u h = omega arith
    brings_within (Line.Or i j) false k x u h = omega arith
    brings_within (Line.Always i) b k x u h = omega arith
    brings_within (Line.Eventually i) true k x u h = omega arith
    brings_within (Line.Eventually i) false k x u h = absurd h
    brings_within (Line.Next i) b k x u h = absurd h

    brings_has : (l : Line) (b : Bool) (k e x : ℕ) (s : Unfolded) → Has l b k e s → Brings l b x → has s.now x ≡ true
    brings_has Line.True b k e x s g h = absurd h
    brings_has Line.False b k e x s g h = absurd h
    brings_has (Line.Literal a y) b k e x s g h = absurd h
    brings_has (Line.And i j) b k e x s g h = elim h [ inl q ↦ ap (has s.now) q ∙ g.0 | inr q ↦ ap (has s.now) q ∙ g.1 ]
    brings_has (Line.Or i j) b k e x s g h = ap (has s.now) h ∙ g
    brings_has (Line.Always i) b k e x s g h = ap (has s.now) h ∙ g.0
    brings_has (Line.Eventually i) true k e x s g h = ap (has s.now) h ∙ g
    brings_has (Line.Eventually i) false k e x s g h = absurd h
    brings_has (Line.Next i) b k e x s g h = absurd h

    appears_both : (k : ℕ) → Appears t n c k → (k < length t) × (has (unfolded t n c).now k ≡ true)
    appears_both k (given _ g) =
        (g.0, elim g.1 [ inl h ↦ label_now t o n c k g.0 h | inr h ↦ mark_now t o n c k g.0 h.0 h.1 ])
    appears_both x (brought k _ a b) =
        let r = appears_both k a in
        let l : k < length t = r.0 in
        let s : x < k = brings_within (line t k) (c k) k x (o.earlier k l) b in
        (omega arith, brings_has (line t k) (c k) k (eventuality t k) x (unfolded t n c) (closed t o n c k l r.1) b)

    pub appears_within : (k : ℕ) → Appears t n c k → k < length t
    appears_within k a = (appears_both k a).0

    pub appears_now : (k : ℕ) → Appears t n c k → has (unfolded t n c).now k ≡ true
    appears_now k a = (appears_both k a).1

    puts_has : (l : Line) (b : Bool) (k e x : ℕ) (s : Unfolded) → Has l b k e s → Puts l k x → has s.next x ≡ true
    puts_has Line.True b k e x s g h = absurd h
    puts_has Line.False b k e x s g h = absurd h
    puts_has (Line.Literal a y) b k e x s g h = absurd h
    puts_has (Line.And i j) b k e x s g h = absurd h
    puts_has (Line.Or i j) b k e x s g h = absurd h
    puts_has (Line.Always i) b k e x s g h = ap (has s.next) h ∙ g.1
    puts_has (Line.Eventually i) b k e x s g h = absurd h
    puts_has (Line.Next i) b k e x s g h = ap (has s.next) h ∙ g

    later_has : (l : Line) (b : Bool) (k e : ℕ) (s : Unfolded) → is_eventuality l ≡ true → b ≡ false → Has l b k e s → has s.later e ≡ true
    later_has Line.True b k e s v d g = absurd (both_ways false refl v)
    later_has Line.False b k e s v d g = absurd (both_ways false refl v)
    later_has (Line.Literal a y) b k e s v d g = absurd (both_ways false refl v)
    later_has (Line.And i j) b k e s v d g = absurd (both_ways false refl v)
    later_has (Line.Or i j) b k e s v d g = absurd (both_ways false refl v)
    later_has (Line.Always i) b k e s v d g = absurd (both_ways false refl v)
    later_has (Line.Eventually i) true k e s v d g = absurd (both_ways true d refl)
    later_has (Line.Eventually i) false k e s v d g = g
    later_has (Line.Next i) b k e s v d g = absurd (both_ways false refl v)

    brings_here : (k : ℕ) → Appears t n c k → Has (line t k) (c k) k (eventuality t k) (unfolded t n c)
    brings_here k a = closed t o n c k (appears_within k a) (appears_now k a)

    pub appears : (k : ℕ) → (has (unfolded t n c).now k ≡ true) ↔ Appears t n c k
    appears k = (now_appears k, appears_now k)

    pub next_is : (x : ℕ) → (has (unfolded t n c).next x ≡ true) ↔ Next t n c x
    next_is x =
        (λ h. found.next x h, λ h. puts_has (line t h.0) (c h.0) h.0 (eventuality t h.0) x (unfolded t n c) (brings_here h.0 h.1) h.2)

    pub later_is : (e : ℕ) → (has (unfolded t n c).later e ≡ true) ↔ Later t n c e
    later_is e = (
      λ h. found.later e h,
      λ h.
          subst (λ (x : ℕ). has (unfolded t n c).later x ≡ true) h.4
          (later_has (line t h.0) (c h.0) h.0 (eventuality t h.0) (unfolded t n c) h.2 h.3 (brings_here h.0 h.1)),
    )
