-- The laws of normal forms and of their numbering.
use Rattle.std.specs.Prelude.{◌≡◌, ℕ, suc, ◌+◌, ◌<◌, ◌≤◌, true, false, ◌↔◌, List, ◌++◌, length, Result}
use Rattle.rules.specs.declared.refusal.Refusal.{Refusal}
use Rattle.rules.specs.Formula.{Formula}
use Rattle.rules.specs.Runs.{Holds, Run, at}
use Rattle.tables.specs.declared.question.Question.{Question}
use Rattle.tables.specs.Normal.{Normal, plain, nnf, dual}
use Rattle.tables.specs.Lines.{Lines, Earlier, Apart, form, is_dual_choice, total, choices}
use Rattle.tables.specs.Numbering.{place, tabled}
use Rattle.tables.specs.Limits.{kept, broken}
use Rattle.tables.specs.Questions.{QuestionOf, Alone}

-- the negation's form is the exact dual, so both have equally many lines, and its choice lines are those of ∧ and □
pub record Duality : Type 0 where
  pub form : (f : Formula) → nnf false f ≡ dual (nnf true f)
  pub lines : (f : Formula) → length (broken f) ≡ length (kept f)
  pub choices : (f : Formula) → choices (broken f) ≡ total is_dual_choice (kept f)

-- a form is numbered after lines of which each is over earlier ones and no two are alike
pub record Numbers (F : Normal) (t : Lines) : Type 0 where
  -- the lines that are there stay, and the law of lines holds of the new ones too
  pub kept : (more : Lines) × ((place F t).table ≡ t ++ more)
  pub earlier : Earlier (place F t).table
  pub apart : Apart (place F t).table
  -- the number that is given is that of a line which stands for the form
  pub within : (place F t).at < length (place F t).table
  pub stands : form (place F t).table (place F t).at ≡ F
  -- where lines are new, the form's own is the last
  pub last : length t < length (place F t).table → suc (place F t).at ≡ length (place F t).table
  -- a form met again keeps its number
  pub again : (k : ℕ) → k < length t → form t k ≡ F → place F t ≡ record { table = t; at = k }
  -- no more lines and choice lines are new than the form has alone
  pub lines : length (place F t).table ≤ length t + length (tabled F)
  pub choices : choices (place F t).table ≤ choices t + choices (tabled F)

-- at every time of every run the normal form is true exactly where the formula is, and that of the negation where it is not
pub record Truth : Type 0 where
  pub plainly : (f : Formula) (r : Run) (i : ℕ) → Holds (plain (nnf true f)) (at r) i ↔ Holds f (at r) i
  pub negated : (f : Formula) (r : Run) (i : ℕ) → Holds (plain (nnf false f)) (at r) i ↔ (Holds f (at r) i → ⊥)

-- the texts of a question have one answer
abbrev pub Determined : Type 0
Determined = (ns x y : List ℕ) (r : Result Question Refusal) → QuestionOf ns x y r → Alone ns x y r

pub record Laws : Type 0 where
  pub duality : Duality
  pub truth : Truth
  pub numbers : (F : Normal) (t : Lines) → Earlier t → Apart t → Numbers F t
  pub determined : Determined
