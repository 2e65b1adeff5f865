-- Eventualities are few.
use Rattle.std.proofs.Common.{◌≡◌, ℕ, zero, suc, ◌+◌, ◌<◌, ◌≤◌, Bool, true, cond, refl, inl, inr, arith}
use Rattle.std.proofs.lemmas.Bool.{cases_Bool}
use Rattle.tables.specs.declared.line.Line.{Line}
use Rattle.tables.specs.Lines.{Lines, line, is_eventuality, is_choice, number}
use Rattle.graph.specs.Numbers.{eventuality, choice_of}
use Rattle.graph.proofs.Numbers.{number_lt}

pub ev_choice : (l : Line) → is_eventuality l ≡ true → is_choice l ≡ true
ev_choice Line.True h = h
ev_choice Line.False h = h
ev_choice (Line.Literal s b) h = h
ev_choice (Line.And i j) h = h
ev_choice (Line.Or i j) h = refl
ev_choice (Line.Always i) h = h
ev_choice (Line.Eventually i) h = refl
ev_choice (Line.Next i) h = h

more : (a b : ℕ) (x y : Bool) → (x ≡ true → y ≡ true) → a ≤ b → cond x (suc a) a ≤ cond y (suc b) b
more a b x y h l =
    elim (cases_Bool x) [
      | inl e ↦ let q = h e in rw (e, q) (omega arith)
      | inr e ↦ rw e (elim (cases_Bool y) [ inl q ↦ rw q (omega arith) | inr q ↦ rw q l ])
    ]

pub ev_le : (t : Lines) (k : ℕ) → eventuality t k ≤ choice_of t k
unfolding number
ev_le t zero = omega arith
ev_le t (suc k) = more (eventuality t k) (choice_of t k) (is_eventuality (line t k)) (is_choice (line t k)) (ev_choice (line t k)) (ev_le t k)

pub ev_small : (t : Lines) (k n : ℕ) → k < n → choice_of t n ≤ 16 → is_eventuality (line t k) ≡ true → eventuality t k < 16
ev_small t k n l h e =
    let p : eventuality t k ≤ choice_of t k = ev_le t k in
    let q : choice_of t k < choice_of t n = number_lt is_choice t k n (ev_choice (line t k) e) l in
    omega arith

pub chs_choice : (t : Lines) (k : ℕ) → is_choice (line t k) ≡ true → choice_of t (suc k) ≡ suc (choice_of t k)
unfolding number
chs_choice t k e = rw e

-- one more line, and perhaps one more eventuality
pub ev_next : (t : Lines) (k : ℕ) → eventuality t (suc k) ≡ eventuality t k + cond (is_eventuality (line t k)) 1 0
unfolding number
ev_next t k = elim (cases_Bool (is_eventuality (line t k))) [ inl e ↦ rw e (omega arith) | inr e ↦ rw e (omega arith) ]

pub chs_more : (t : Lines) (k : ℕ) → choice_of t k ≤ choice_of t (suc k)
unfolding number
chs_more t k = elim (cases_Bool (is_choice (line t k))) [ inl e ↦ rw e (omega arith) | inr e ↦ rw e (omega arith) ]
