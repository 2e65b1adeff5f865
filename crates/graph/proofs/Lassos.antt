-- An ω-loop, repeated for ever, gives a run.
use Rattle.std.proofs.Common.{◌≡◌, ℕ, zero, suc, ◌+◌, ◌-◌, ◌*◌, ◌%◌, ◌<◌, ◌≤◌, true, false, cond, ltb, List, [], ◌∷◌, length, get_or, sym, refl, ap, ◌∙◌, subst, inl, inr, mod-lt, mod-eq_of_lt, arith}
use native.Mathlib.Nat.{suc-mod, mod_self, zero-mod, mul-mod_left}
use Rattle.std.proofs.lemmas.Nat.{mul-le}
use Rattle.std.proofs.lemmas.Bool.{and_parts, cases_lt, cond-true, cond-false, lt-ltb, le-ltb}
use Rattle.rules.specs.Runs.{Run, at, Keeps}
use Rattle.tables.specs.Lines.{Lines, root}
use Rattle.graph.proofs.Ordered.{Ordered}
use Rattle.graph.specs.Unfolding.{Choice}
use Rattle.graph.specs.Pass.{position, branch, is_omega, initial, successor}
use Rattle.graph.proofs.Ways.{reach, branches, positions, OmegaLoop}
use Rattle.graph.specs.declared.node.Node.{Node}
use Rattle.graph.proofs.Loops.{root_true}

-- the nodes on a way
node_at : Lines → Node → List Choice → ℕ → Node
node_at t n [] i = n
node_at t n (c ∷ cs) zero = n
node_at t n (c ∷ cs) (suc i) = node_at t (successor t n c) cs i

abbrev choice_at : List Choice → ℕ → Choice
choice_at cs i = get_or cs i (λ k. false)

node_start : (t : Lines) (n : Node) (cs : List Choice) → node_at t n cs 0 ≡ n
unfolding node_at
node_start t n [] = refl
node_start t n (c ∷ cs) = refl

node_end : (t : Lines) (n : Node) (cs : List Choice) → node_at t n cs (length cs) ≡ reach t n cs
unfolding node_at reach
node_end t n [] = refl
node_end t n (c ∷ cs) = node_end t (successor t n c) cs

node_step : (t : Lines) (n : Node) (cs : List Choice) (i : ℕ) → i < length cs → node_at t n cs (suc i) ≡ successor t (node_at t n cs i) (choice_at cs i)
unfolding node_at
node_step t n [] i l = absurd (omega arith)
node_step t n (c ∷ cs) zero l = node_start t (successor t n c) cs
node_step t n (c ∷ cs) (suc i) l = node_step t (successor t n c) cs i (omega arith)

node_branch : (t : Lines) (n : Node) (cs : List Choice) (i : ℕ) → branches t n cs ≡ true → i < length cs → branch t (node_at t n cs i) (choice_at cs i) ≡ true
unfolding node_at branches
node_branch t n [] i b l = absurd (omega arith)
node_branch t n (c ∷ cs) zero b l = (and_parts (branch t n c) (branches t (successor t n c) cs) b).0
node_branch t n (c ∷ cs) (suc i) b l = node_branch t (successor t n c) cs i (and_parts (branch t n c) (branches t (successor t n c) cs) b).1 (omega arith)

node_position : (t : Lines) (n : Node) (cs : List Choice) (i : ℕ) → i < length cs → get_or (positions t n cs) i 0 ≡ position t (node_at t n cs i) (choice_at cs i)
unfolding node_at positions
node_position t n [] i l = absurd (omega arith)
node_position t n (c ∷ cs) zero l = refl
node_position t n (c ∷ cs) (suc i) l = node_position t (successor t n c) cs i (omega arith)

pub length_positions : (t : Lines) (n : Node) (cs : List Choice) → length (positions t n cs) ≡ length cs
unfolding positions
length_positions t n [] = refl
length_positions t n (c ∷ cs) = ap suc (length_positions t (successor t n c) cs)

-- first a way, then a loop for ever
lasso : {A : Type 0} → ℕ → ℕ → (ℕ → A) → (ℕ → A) → ℕ → A
lasso a b f g i = cond (ltb i a) (f i) (g ((i - a) % b))

lasso_early : {A : Type 0} (a b : ℕ) (f g : ℕ → A) (i : ℕ) → i < a → lasso a b f g i ≡ f i
unfolding lasso
lasso_early a b f g i l = cond-true (ltb i a) (f i) (g ((i - a) % b)) (lt-ltb i a l)

lasso_late : {A : Type 0} (a b : ℕ) (f g : ℕ → A) (i : ℕ) → a ≤ i → lasso a b f g i ≡ g ((i - a) % b)
unfolding lasso
lasso_late a b f g i l = cond-false (ltb i a) (f i) (g ((i - a) % b)) (le-ltb i a l)

module _ (t : Lines) (o : Ordered t) (to round : List Choice) (z : OmegaLoop t to round) where
  abbrev Ω : Node
  Ω = reach t (initial t) to

  abbrev a : ℕ
  a = length to

  abbrev b : ℕ
  b = length round

  abbrev first_way : ℕ → Node
  first_way = node_at t (initial t) to

  abbrev loop_way : ℕ → Node
  loop_way = node_at t Ω round

  M : ℕ → Node
  M = lasso a b first_way loop_way

  D : ℕ → Choice
  D = lasso a b (choice_at to) (choice_at round)

  M_early : (i : ℕ) → i < a → M i ≡ first_way i
  unfolding M
  M_early i l = lasso_early a b first_way loop_way i l

  M_late : (i : ℕ) → a ≤ i → M i ≡ loop_way ((i - a) % b)
  unfolding M
  M_late i l = lasso_late a b first_way loop_way i l

  D_early : (i : ℕ) → i < a → D i ≡ choice_at to i
  unfolding D
  D_early i l = lasso_early a b (choice_at to) (choice_at round) i l

  D_late : (i : ℕ) → a ≤ i → D i ≡ choice_at round ((i - a) % b)
  unfolding D
  D_late i l = lasso_late a b (choice_at to) (choice_at round) i l

  enters : loop_way 0 ≡ first_way a
  enters = node_start t Ω round ∙ sym (node_end t (initial t) to)

  turns : (x : ℕ) → x < b → loop_way (suc x % b) ≡ loop_way (suc x)
  turns x l =
      elim (cases_lt (suc x) b) [
        | inl h ↦ ap loop_way (mod-eq_of_lt h)
        | inr h ↦
            let e : suc x ≡ b = omega arith in
            ap (λ (y : ℕ). loop_way (y % b)) e ∙ ap loop_way (mod_self b) ∙ node_start t Ω round
            ∙ sym z.back ∙ sym (node_end t Ω round) ∙ sym (ap loop_way e)
      ]

  M_start : M 0 ≡ initial t
  M_start =
      elim (cases_lt 0 a) [
        | inl l ↦ M_early 0 l ∙ node_start t (initial t) to
        | inr l ↦
            let e : 0 - a ≡ 0 = omega arith in
            let f : a ≡ 0 = omega arith in
            M_late 0 l ∙ ap (λ (y : ℕ). loop_way (y % b)) e ∙ ap loop_way (zero-mod b) ∙ enters ∙ ap first_way f ∙ node_start t (initial t) to
      ]

  M_next : (i : ℕ) → M (suc i) ≡ successor t (M i) (D i)
  M_next i =
      elim (cases_lt i a) [
        | inl l ↦
            let step : first_way (suc i) ≡ successor t (M i) (D i) =
            rw (M_early i l, D_early i l) (node_step t (initial t) to i l) in
            elim (cases_lt (suc i) a) [
              | inl m ↦ M_early (suc i) m ∙ step
              | inr m ↦
                  let e : suc i - a ≡ 0 = omega arith in
                  let f : a ≡ suc i = omega arith in
                  M_late (suc i) m ∙ ap (λ (y : ℕ). loop_way (y % b)) e ∙ ap loop_way (zero-mod b) ∙ enters ∙ ap first_way f ∙ step
            ]
        | inr l ↦
            let x : ℕ = (i - a) % b in
            let small : x < b = mod-lt (i - a) z.steps in
            let e : suc i - a ≡ suc (i - a) = omega arith in
            let step : loop_way (suc x) ≡ successor t (M i) (D i) = rw (M_late i l, D_late i l) (node_step t Ω round x small) in
            M_late (suc i) (omega arith) ∙ ap (λ (y : ℕ). loop_way (y % b)) e ∙ ap loop_way (suc-mod (i - a) b) ∙ turns x small ∙ step
      ]

  M_branch : (i : ℕ) → branch t (M i) (D i) ≡ true
  M_branch i =
      elim (cases_lt i a) [
        | inl l ↦ rw (M_early i l, D_early i l) (node_branch t (initial t) to i z.leads l)
        | inr l ↦ rw (M_late i l, D_late i l) (node_branch t Ω round ((i - a) % b) z.turns (mod-lt (i - a) z.steps))
      ]

  M_again : (i : ℕ) → (j : ℕ) × (i ≤ j) × (is_omega t (M j) ≡ true)
  M_again i =
      let e : i * b + a - a ≡ i * b = omega arith in
      let f : M (i * b + a) ≡ Ω =
      M_late (i * b + a) (omega arith) ∙ ap (λ (y : ℕ). loop_way (y % b)) e ∙ ap loop_way (mul-mod_left i b) ∙ node_start t Ω round in
      (i * b + a, omega (arith, mul-le i 1 i b (omega arith) z.steps), subst (λ (n : Node). is_omega t n ≡ true) (sym f) z.at_omega)

  module _ (r : Run) (lead : r.lead ≡ positions t (initial t) to) (loop : r.cycle ≡ positions t Ω round) where
    lead_length : length r.lead ≡ a
    lead_length = ap length lead ∙ length_positions t (initial t) to

    loop_length : length r.cycle ≡ b
    loop_length = ap length loop ∙ length_positions t Ω round

    at_lasso : (i : ℕ) → at r i ≡ lasso a b (λ j. get_or (positions t (initial t) to) j 0) (λ j. get_or (positions t Ω round) j 0) i
    unfolding at lasso
    at_lasso i = rw (lead_length, loop_length, lead, loop)

    M_position : (i : ℕ) → at r i ≡ position t (M i) (D i)
    M_position i =
        elim (cases_lt i a) [
          | inl l ↦ at_lasso i ∙ lasso_early a b (λ j. get_or (positions t (initial t) to) j 0) (λ j. get_or (positions t Ω round) j 0) i l
              ∙ node_position t (initial t) to i l ∙ rw (M_early i l, D_early i l)
          | inr l ↦ at_lasso i ∙ lasso_late a b (λ j. get_or (positions t (initial t) to) j 0) (λ j. get_or (positions t Ω round) j 0) i l
              ∙ node_position t Ω round ((i - a) % b) (mod-lt (i - a) z.steps) ∙ rw (M_late i l, D_late i l)
        ]

    pub loop_keeps : Keeps (root t) r
    loop_keeps = root_true t o M D (at r) M_next M_branch M_position M_again M_start
