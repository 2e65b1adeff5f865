-- A count of the lines that pass a test, and that of a chain of iterators.
use Rattle.std.proofs.Common.{◌≡◌, ℕ, zero, suc, ◌+◌, ◌<◌, ◌≤◌, Bool, true, false, cond, length, take, Some, None, sym, refl, ap, ◌∙◌, add-one, arith}
use Rattle.std.specs.List.{count_by}
use Rattle.std.proofs.lemmas.List.{take_all}
use Rattle.std.proofs.lemmas.List.Sums.{count_by_more_yes, count_by_more_no}
use Rattle.tables.specs.declared.line.Line.{Line}
use Rattle.tables.specs.Lines.{Lines, line, is_eventuality, number, total}
use Rattle.tables.specs.Tables.{eventuality}

pub number_start : (q : Line → Bool) (t : Lines) → number q t 0 ≡ 0
unfolding number
number_start q t = refl

pub number_suc : (q : Line → Bool) (t : Lines) (k : ℕ) → number q t (suc k) ≡ cond (q (line t k)) (suc (number q t k)) (number q t k)
unfolding number
number_suc q t k = refl

counts_step : (q : Line → Bool) (t : Lines) (k n : ℕ) → k < length t → n ≡ count_by q (take k t)
    → (b : Bool) → q (line t k) ≡ b → cond b (suc n) n ≡ count_by q (take (k + 1) t)
counts_step q t k n h e true p = omega (arith, count_by_more_yes q t k Line.True h p)
counts_step q t k n h e false p = omega (arith, count_by_more_no q t k Line.True h p)

number_counts : (q : Line → Bool) (t : Lines) (k : ℕ) → k ≤ length t → number q t k ≡ count_by q (take k t)
number_counts q t zero h = number_start q t
number_counts q t (suc k) h =
    number_suc q t k
    ∙ counts_step q t k (number q t k) (omega arith) (number_counts q t k (omega arith)) (q (line t k)) refl
    ∙ ap (λ (n : ℕ). count_by q (take n t)) (add-one k)

pub total_counts : (q : Line → Bool) (t : Lines) → total q t ≡ count_by q t
total_counts q t = number_counts q t (length t) (omega arith) ∙ ap (count_by q) (take_all (length t) t (omega arith))

-- the number of an eventuality is the count of those before it
pub eventuality_counts : (t : Lines) (k n : ℕ) → k < length t → is_eventuality (line t k) ≡ true → n ≡ count_by is_eventuality (take k t) → Some n ≡ eventuality t k
eventuality_counts t k n h p e =
    ap Some (e ∙ sym (number_counts is_eventuality t k (omega arith))) ∙ sym (ap (λ (b : Bool). cond b (Some (number is_eventuality t k)) None) p)
