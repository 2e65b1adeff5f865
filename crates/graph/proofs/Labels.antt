-- Putting, computed, puts just what is put.
use Rattle.std.proofs.Common.{◌≡◌, ℕ, ◌<◌, ◌≤◌, true, ◌&&◌, ◌↔◌, length, sym, refl, ap, ◌∙◌, subst, inl, inr, arith}
use Rattle.std.proofs.lemmas.Bool.{cases_lt, both_ways, and_parts, and_from}
use Rattle.std.proofs.lemmas.List.{get_or_past}
use Rattle.tables.specs.declared.line.Line.{Line}
use Rattle.tables.specs.Lines.{Lines, line}
use Rattle.graph.specs.Sets.{has, add}
use Rattle.graph.specs.Unfolding.{Side, Put, itself, side, stays, Label}
use Rattle.graph.specs.Pass.{spread, spread_below, put}
use Rattle.graph.proofs.Masks.{all_add, set_of_from, set_of_in}
use Rattle.graph.proofs.Ordered.{Ordered}
use Rattle.graph.proofs.Unfolds.{spread_keeps}
use Rattle.graph.proofs.Closed.{Splits, parts_grow, parts_split}

-- past the last line there is T, which nothing is put for
pub line_past : (t : Lines) (k : ℕ) → length t ≤ k → line t k ≡ Line.True
line_past t k h = get_or_past t k Line.True h

pub stays_within : (t : Lines) (k : ℕ) → stays (line t k) ≡ true → k < length t
stays_within t k s =
    elim (cases_lt k (length t)) [ inl l ↦ l | inr g ↦ absurd (both_ways (stays (line t k)) (ap stays (line_past t k g)) s) ]

module _ (t : Lines) (S : ℕ → Type 0) (m : ℕ) (from : (k : ℕ) → has m k ≡ true → S k) where
  spread_put : (l : Line) (k : ℕ) → line t k ≡ l → Put t S k → (s : ℕ) → ((k : ℕ) → has s k ≡ true → Put t S k) → (k : ℕ) → has (spread l s) k ≡ true → Put t S k
  spread_put Line.True k e p s g = g
  spread_put Line.False k e p s g = g
  spread_put (Line.Literal a b) k e p s g = g
  spread_put (Line.And i j) k e p s g =
      let one : (x : ℕ) → Side (Line.And i j) x → Put t S x = λ x h. side k x p (subst (λ (y : Line). Side y x) (sym e) h) in
      all_add (Put t S) (add s i) j (one j (inr refl)) (all_add (Put t S) s i (one i (inl refl)) g)
  spread_put (Line.Or i j) k e p s g = g
  spread_put (Line.Always i) k e p s g = g
  spread_put (Line.Eventually i) k e p s g = g
  spread_put (Line.Next i) k e p s g = g

  spread_from : (k : ℕ) → has (spread_below t (length t) m) k ≡ true → Put t S k
  spread_from =
      spread_keeps t (λ s. (k : ℕ) → has s k ≡ true → Put t S k) (length t)
      (λ k s l e g. spread_put (line t k) k refl (g k e) s g) m (λ k h. itself k (from k h))

  pub put_from : (k : ℕ) → has (put t m) k ≡ true → Put t S k × (stays (line t k) ≡ true)
  unfolding put
  put_from k h =
      let r = set_of_from (length t) (λ k. has (spread_below t (length t) m) k && stays (line t k)) k h in
      let p = and_parts (has (spread_below t (length t) m) k) (stays (line t k)) r.1 in
      (spread_from k p.0, p.1)

side_has : (l : Line) (x s : ℕ) → Splits l s → Side l x → has s x ≡ true
side_has Line.True x s g h = absurd h
side_has Line.False x s g h = absurd h
side_has (Line.Literal a b) x s g h = absurd h
side_has (Line.And i j) x s g h = elim h [ inl e ↦ ap (has s) e ∙ g.0 | inr e ↦ ap (has s) e ∙ g.1 ]
side_has (Line.Or i j) x s g h = absurd h
side_has (Line.Always i) x s g h = absurd h
side_has (Line.Eventually i) x s g h = absurd h
side_has (Line.Next i) x s g h = absurd h

module _ (t : Lines) (o : Ordered t) (S : ℕ → Type 0) (m : ℕ) (into : (k : ℕ) → S k → has m k ≡ true) where
  put_spread : (k : ℕ) → Put t S k → has (spread_below t (length t) m) k ≡ true
  put_spread k (itself _ s) = parts_grow t o (length t) m k (into k s)
  put_spread x (side k _ p h) =
      elim (cases_lt k (length t)) [
        | inl l ↦ side_has (line t k) x (spread_below t (length t) m) (parts_split t o (length t) (omega arith) m k l (put_spread k p)) h
        | inr g ↦ absurd (subst (λ (y : Line). Side y x) (line_past t k g) h)
      ]

  pub put_in : (k : ℕ) → Put t S k → stays (line t k) ≡ true → has (put t m) k ≡ true
  unfolding put
  put_in k p s =
      set_of_in (length t) (λ k. has (spread_below t (length t) m) k && stays (line t k)) k (stays_within t k s)
      (and_from (has (spread_below t (length t) m) k) (stays (line t k)) (put_spread k p) s)

pub put_label : (t : Lines) → Ordered t → (S : ℕ → Type 0) (m : ℕ) → ((k : ℕ) → (has m k ≡ true) ↔ S k) → Label t S (put t m)
put_label t o S m h k = (put_from t S m (λ j. (h j).0) k, λ p. put_in t o S m (λ j. (h j).1) k p.0 p.1)
