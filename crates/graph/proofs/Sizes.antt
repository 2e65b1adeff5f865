-- Pigeons, and what a way stays among.
use Rattle.std.proofs.Common.{◌≡◌, ℕ, zero, suc, ◌<◌, ◌≤◌, true, cond, eqb, List, [], ◌∷◌, length, sym, ap, ◌∙◌, subst, inl, inr, arith}
use Rattle.std.proofs.lemmas.Bool.{cases_eq, and_parts, cond-true, cond-false, eq-eqb, ne_eqb}
use Rattle.tables.specs.Lines.{Lines}
use Rattle.graph.specs.Unfolding.{Choice}
use Rattle.graph.specs.Pass.{branch, initial, successor}
use Rattle.graph.proofs.Ways.{reach, branches, Leads, Graph}
use Rattle.graph.specs.Graphs.{node_of}
use Rattle.graph.specs.declared.node.Node.{Node}

-- k goes where n went if it went to m, and else where it went
swapped : (ℕ → ℕ) → ℕ → ℕ → ℕ → ℕ
swapped f m n k = cond (eqb (f k) m) (f n) (f k)

swap_at : (f : ℕ → ℕ) (m n k : ℕ) → f k ≡ m → swapped f m n k ≡ f n
unfolding swapped
swap_at f m n k e = cond-true (eqb (f k) m) (f n) (f k) (eq-eqb (f k) m e)

swap_off : (f : ℕ → ℕ) (m n k : ℕ) → (f k ≡ m → ⊥) → swapped f m n k ≡ f k
unfolding swapped
swap_off f m n k e = cond-false (eqb (f k) m) (f n) (f k) (ne_eqb (f k) m e)

abbrev Apart : ℕ → (ℕ → ℕ) → Type 0
Apart n f = (a b : ℕ) → a < n → b < n → f a ≡ f b → a ≡ b

pub pigeons : (m n : ℕ) (f : ℕ → ℕ) → ((k : ℕ) → k < n → f k < m) → Apart n f → n ≤ m
pigeons m zero f h i = omega arith
pigeons zero (suc n) f h i = absurd (omega (arith, h n (omega arith)))
pigeons (suc m) (suc n) f h i =
    let g : ℕ → ℕ = swapped f m n in
    let low : (k : ℕ) → k < n → g k < m = λ k l.
    elim (cases_eq (f k) m) [
      | inl e ↦
          elim (cases_eq (f n) m) [
            | inl d ↦ absurd (omega (arith, i k n (omega arith) (omega arith) (e ∙ sym d)))
            | inr d ↦ omega (arith, swap_at f m n k e, h n (omega arith))
          ]
      | inr e ↦ omega (arith, swap_off f m n k e, h k (omega arith))
    ] in
    let apart : Apart n g = λ a b p q e.
    elim (cases_eq (f a) m) [
      | inl x ↦ elim (cases_eq (f b) m) [
        | inl y ↦ i a b (omega arith) (omega arith) (x ∙ sym y)
        | inr y ↦ absurd (omega (arith, i n b (omega arith) (omega arith) (sym (swap_at f m n a x) ∙ e ∙ swap_off f m n b y)))
      ]
      | inr x ↦ elim (cases_eq (f b) m) [
        | inl y ↦ absurd (omega (arith, i a n (omega arith) (omega arith) (sym (swap_off f m n a x) ∙ e ∙ swap_at f m n b y)))
        | inr y ↦ i a b (omega arith) (omega arith) (sym (swap_off f m n a x) ∙ e ∙ swap_off f m n b y)
      ]
    ] in
    omega (arith, pigeons m n g low apart)

-- what the initial node reaches is listed
abbrev Listed : List Node → Node → Type 0
Listed l n = (b : ℕ) × (b < length l) × (node_of l b ≡ n)

way_listed : (t : Lines) (l : List Node) → Graph t l → (cs : List Choice) (n : Node) → Listed l n → branches t n cs ≡ true → Listed l (reach t n cs)
unfolding branches reach
way_listed t l g [] n x b = x
way_listed t l g (c ∷ cs) n x b =
    let p = and_parts (branch t n c) (branches t (successor t n c) cs) b in
    let y = g.closed x.0 x.1 c (subst (λ (m : Node). branch t m c ≡ true) (sym x.2) p.0) in
    way_listed t l g cs (successor t n c) (y.0, y.1, y.2 ∙ ap (λ (m : Node). successor t m c) x.2) p.1

pub listed : (t : Lines) (l : List Node) → Graph t l → (n : Node) → Leads t (initial t) n → Listed l n
listed t l g n w =
    subst (Listed l) w.arrives (way_listed t l g w.by (initial t) (0, g.some, g.first) w.lawful)
