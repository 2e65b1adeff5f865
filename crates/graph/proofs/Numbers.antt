-- The numbers of the lines that pass a test: each has one of its own, and each number below the count has its line.
use Rattle.std.proofs.Common.{◌≡◌, ℕ, zero, suc, ◌+◌, ◌-◌, ◌<◌, ◌≤◌, Bool, true, false, cond, sym, refl, ap, subst, inl, inr, arith}
use Rattle.std.proofs.lemmas.Bool.{cases_order, cases_eq}
use Rattle.tables.specs.declared.line.Line.{Line}
use Rattle.tables.specs.Lines.{Lines, line, number}

cond_up : (b : Bool) (n : ℕ) → n ≤ cond b (suc n) n
cond_up true n = omega arith
cond_up false n = omega arith

number_up : (q : Line → Bool) (t : Lines) (k : ℕ) → number q t k ≤ number q t (suc k)
unfolding number
number_up q t k = cond_up (q (line t k)) (number q t k)

number_next : (q : Line → Bool) (t : Lines) (k : ℕ) → q (line t k) ≡ true → number q t (suc k) ≡ suc (number q t k)
unfolding number
number_next q t k h = ap (λ (b : Bool). cond b (suc (number q t k)) (number q t k)) h

number_mono : (q : Line → Bool) (t : Lines) (k d : ℕ) → number q t k ≤ number q t (d + k)
number_mono q t k zero = let e : k ≡ zero + k = omega arith in subst (λ (x : ℕ). number q t k ≤ number q t x) e (omega arith)
number_mono q t k (suc d) =
    let e : suc (d + k) ≡ suc d + k = omega arith in
    subst (λ (x : ℕ). number q t k ≤ number q t x) e (omega (arith, number_mono q t k d, number_up q t (d + k)))

pub number_lt : (q : Line → Bool) (t : Lines) (k m : ℕ) → q (line t k) ≡ true → k < m → number q t k < number q t m
number_lt q t k m h l =
    let d : (d : ℕ) × (m ≡ d + suc k) = (m - suc k, omega arith) in
    subst (λ (x : ℕ). number q t k < number q t x) (sym d.1) (omega (arith, number_next q t k h, number_mono q t (suc k) d.0))

pub number_inj : (q : Line → Bool) (t : Lines) (k m : ℕ) → q (line t k) ≡ true → q (line t m) ≡ true → number q t k ≡ number q t m → k ≡ m
number_inj q t k m a b e =
    elim (cases_order k m) [
      | inl r ↦ r
      | inr (inl l) ↦ absurd (omega (arith, number_lt q t k m a l))
      | inr (inr l) ↦ absurd (omega (arith, number_lt q t m k b l))
    ]

-- the line with the number e
pub record LineOf (q : Line → Bool) (t : Lines) (e m : ℕ) : Type 0 where
  pub at : ℕ
  pub within : at < m
  pub is : q (line t at) ≡ true
  pub counted : number q t at ≡ e

find_step : (q : Line → Bool) (t : Lines) (e m : ℕ) (b : Bool) → q (line t m) ≡ b → (e < number q t m → LineOf q t e m) → e < cond b (suc (number q t m)) (number q t m) → LineOf q t e (suc m)
find_step q t e m true v ih l =
    elim (cases_eq e (number q t m)) [
      | inl p ↦ record { at = m; within = omega arith; is = v; counted = sym p }
      | inr p ↦ let r = ih (omega arith) in record { at = r.at; within = omega arith; is = r.is; counted = r.counted }
    ]
find_step q t e m false v ih l = let r = ih l in record { at = r.at; within = omega arith; is = r.is; counted = r.counted }

pub number_line : (q : Line → Bool) (t : Lines) (e m : ℕ) → e < number q t m → LineOf q t e m
unfolding number
number_line q t e zero l = absurd (omega arith)
number_line q t e (suc m) l = find_step q t e m (q (line t m)) refl (number_line q t e m) l
