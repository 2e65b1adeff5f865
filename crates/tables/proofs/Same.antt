-- The first equal of a line, where lines are compared by kind and operands.
use Rattle.std.proofs.Common.{◌≡◌, ℕ, zero, suc, ◌<◌, ◌≤◌, Bool, true, false, cond, ◌&&◌, eqb, [], ◌∷◌, length, sym, refl, ap, ◌∙◌, ap₂, arith}
use Rattle.std.proofs.lemmas.Bool.{both_ways, and_parts, and_from, eqb-true, eq-eqb}
use Rattle.tables.specs.declared.line.Line.{Line}
use Rattle.tables.specs.Lines.{Lines, line}
use Rattle.tables.specs.Numbering.{kind, left, right, same, find}

-- a line from its kind and operands
unfoldable pub rebuild : ℕ → ℕ → ℕ → Line
rebuild zero a b = Line.True
rebuild (suc zero) a b = Line.False
rebuild (suc (suc zero)) a b = Line.Literal a true
rebuild (suc (suc (suc zero))) a b = Line.Literal a false
rebuild (suc (suc (suc (suc zero)))) a b = Line.And a b
rebuild (suc (suc (suc (suc (suc zero))))) a b = Line.Or a b
rebuild (suc (suc (suc (suc (suc (suc zero)))))) a b = Line.Always a
rebuild (suc (suc (suc (suc (suc (suc (suc zero))))))) a b = Line.Eventually a
rebuild (suc (suc (suc (suc (suc (suc (suc (suc n)))))))) a b = Line.Next a

rebuilt : (l : Line) → rebuild (kind l) (left l) (right l) ≡ l
unfolding rebuild
rebuilt Line.True = refl
rebuilt Line.False = refl
rebuilt (Line.Literal s true) = refl
rebuilt (Line.Literal s false) = refl
rebuilt (Line.And i j) = refl
rebuilt (Line.Or i j) = refl
rebuilt (Line.Always i) = refl
rebuilt (Line.Eventually i) = refl
rebuilt (Line.Next i) = refl

-- what has a kind is a line of that kind
pub of_kind : (l : Line) (n : ℕ) → kind l ≡ n → l ≡ rebuild n (left l) (right l)
of_kind l n e = sym (rebuilt l) ∙ ap (λ (k : ℕ). rebuild k (left l) (right l)) e

pub same_true : (x y : Line) → same x y ≡ true → x ≡ y
unfolding same
same_true x y h =
    let p = and_parts (eqb (kind x) (kind y)) (eqb (left x) (left y) && eqb (right x) (right y)) h in
    let q = and_parts (eqb (left x) (left y)) (eqb (right x) (right y)) p.1 in
    let a = eqb-true (kind x) (kind y) p.0 in
    let b = eqb-true (left x) (left y) q.0 in
    let c = eqb-true (right x) (right y) q.1 in
    of_kind x (kind y) a ∙ ap₂ (rebuild (kind y)) b c ∙ rebuilt y

pub same_from : (x y : Line) → x ≡ y → same x y ≡ true
unfolding same
same_from x y e =
    and_from (eqb (kind x) (kind y)) (eqb (left x) (left y) && eqb (right x) (right y)) (eq-eqb (kind x) (kind y) (ap kind e))
    (and_from (eqb (left x) (left y)) (eqb (right x) (right y)) (eq-eqb (left x) (left y) (ap left e)) (eq-eqb (right x) (right y) (ap right e)))

found_step : (l x : Line) (t : Lines) (n : ℕ) (b : Bool) → same l x ≡ b → (n < length t → line t n ≡ l)
    → cond b 0 (suc n) < suc (length t) → line (x ∷ t) (cond b 0 (suc n)) ≡ l
found_step l x t n true e ih h = sym (same_true l x e)
found_step l x t n false e ih h = ih (omega arith)

pub found : (l : Line) (t : Lines) → find l t < length t → line t (find l t) ≡ l
unfolding find
found l [] h = absurd (omega arith)
found l (x ∷ t) h = found_step l x t (find l t) (same l x) refl (found l t) h

find_step : (n m : ℕ) (b : Bool) → n ≤ m → cond b 0 (suc n) ≤ suc m
find_step n m true h = omega arith
find_step n m false h = omega arith

pub find_le : (l : Line) (t : Lines) → find l t ≤ length t
unfolding find
find_le l [] = omega arith
find_le l (x ∷ t) = find_step (find l t) (length t) (same l x) (find_le l t)

miss_step : (l x : Line) (t : Lines) (n : ℕ) (b : Bool) → same l x ≡ b → ((k : ℕ) → k < length t → line t k ≡ l → n ≤ k)
    → (k : ℕ) → k < suc (length t) → line (x ∷ t) k ≡ l → cond b 0 (suc n) ≤ k
miss_step l x t n true e ih k h q = omega arith
miss_step l x t n false e ih zero h q = absurd (both_ways (same l x) e (same_from l x (sym q)))
miss_step l x t n false e ih (suc k) h q = omega (arith, ih k (omega arith) q)

-- no equal stands before the first
pub find_first : (l : Line) (t : Lines) (k : ℕ) → k < length t → line t k ≡ l → find l t ≤ k
unfolding find
find_first l [] k h q = absurd (omega arith)
find_first l (x ∷ t) k h q = miss_step l x t (find l t) (same l x) refl (find_first l t) k h q
