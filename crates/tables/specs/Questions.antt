-- Questions, their tables, and the reading of both from texts.
use Rattle.std.specs.Prelude.{◌≡◌, ℕ, ◌<◌, true, false, ◌⊎◌, ◌↔◌, List, [], length, Ok, Err, Result}
use Rattle.rules.specs.declared.refusal.Refusal.{Refusal}
use Rattle.rules.specs.declared.refusal.Refusal.TheVariants.{List as BadList}
use Rattle.rules.specs.Formula.{Formula}
use Rattle.rules.specs.Runs.{Holds, Run, at}
use Rattle.rules.specs.Rules.{formula_of, Spells, Lengthy, Refused}
use Rattle.rules.specs.Signals.{Lawful}
use Rattle.tables.specs.declared.limits.NormalRule.{NormalRule}
use Rattle.tables.specs.declared.question.Question.{Question}
use Rattle.tables.specs.Normal.{Normal, plain, nnf, Part}
use Rattle.tables.specs.Lines.{Lines, form, formula, root}
use Rattle.tables.specs.Numbering.{tabled}
use Rattle.tables.specs.Limits.{Within, Exceeds}
use Rattle.tables.specs.Tables.{lines_of}

-- what is asked: keep X, break Y, or both; not both may be absent
pub data Asked : Type 0 where
  keeps breaks : Formula → Asked
  both : Formula → Formula → Asked

-- the form of a question
abbrev pub form_of : Asked → Normal
form_of (keeps x) = nnf true x
form_of (breaks y) = nnf false y
form_of (both x y) = Normal.and (nnf true x) (nnf false y)

-- X is true and Y is false at time i, each where present
abbrev pub Meets : Asked → (ℕ → ℕ) → ℕ → Type 0
Meets (keeps x) w i = Holds x w i
Meets (breaks y) w i = Holds y w i → ⊥
Meets (both x y) w i = Holds x w i × (Holds y w i → ⊥)

-- the lines stand for the parts of a normal form, each once, and the last for the form itself
pub record Lists (F : Normal) (t : Lines) : Type 0 where
  pub every : (G : Normal) → Part G F → (k : ℕ) × (k < length t) × (form t k ≡ G)
  pub only : (k : ℕ) → k < length t → Part (form t k) F
  pub once : (i j : ℕ) → i < length t → j < length t → formula t i ≡ formula t j → i ≡ j
  pub last : root t ≡ plain F

-- the table of a question: numbered from nothing, it lists the parts of the question's form, and
-- at every time of every run its last line is true exactly where the question is met
pub record Asks (a : Asked) (t : Lines) : Type 0 where
  pub numbered : t ≡ tabled (form_of a)
  pub lists : Lists (form_of a) t
  pub meets : (r : Run) (i : ℕ) → Holds (root t) (at r) i ↔ Meets a (at r) i

-- the text is a rule within the limits
pub record Says (ns text : List ℕ) (f : Formula) : Type 0 where
  pub lengthy : Lengthy text
  pub spells : Spells ns text f
  pub within : Within f

-- why a text is no such rule
abbrev pub Fails : List ℕ → List ℕ → Refusal → Type 0
Fails ns text e = Refused ns text e ⊎ ((f : Formula) × Lengthy text × Spells ns text f × Exceeds f e)

-- a formula is tried for the limits
abbrev pub Limited : Formula → Result NormalRule Refusal → Type 0
Limited f (Ok r) = (formula_of r.rule ≡ f) × Within f
Limited f (Err e) = Exceeds f e

-- a text is read as a rule within the limits
abbrev pub RuleOf : List ℕ → List ℕ → Result NormalRule Refusal → Type 0
RuleOf ns text (Ok r) = Says ns text (formula_of r.rule)
RuleOf ns text (Err e) = Fails ns text e

-- the texts of X and Y say what is asked; a rule that is absent has no bytes
abbrev pub Texts : List ℕ → List ℕ → List ℕ → Asked → Type 0
Texts ns x y (keeps f) = Says ns x f × (y ≡ [])
Texts ns x y (breaks g) = (x ≡ []) × Says ns y g
Texts ns x y (both f g) = Says ns x f × Says ns y g

-- why the texts are refused: where X is absent for Y, and else for X before Y
abbrev pub Refuses : List ℕ → List ℕ → List ℕ → Refusal → Type 0
Refuses ns x y e =
    ((x ≡ []) × Fails ns y e)
    ⊎ (((0 < length x) × Fails ns x e)
    ⊎ ((f : Formula) × Says ns x f × (0 < length y) × Fails ns y e))

-- a question is read over a list of names
abbrev pub QuestionOf : List ℕ → List ℕ → List ℕ → Result Question Refusal → Type 0
QuestionOf ns x y (Ok q) = (a : Asked) × Texts ns x y a × Asks a (lines_of q.table)
QuestionOf ns x y (Err e) = Refuses ns x y e

-- and over the bytes of a list, which is refused before the texts
abbrev pub StrictlyOf : List ℕ → List ℕ → List ℕ → Result Question Refusal → Type 0
StrictlyOf ns x y (Ok q) = Lawful ns × QuestionOf ns x y (Ok q)
StrictlyOf ns x y (Err e) = ((Lawful ns → ⊥) × (e ≡ BadList)) ⊎ (Lawful ns × QuestionOf ns x y (Err e))

-- two answers to the texts of a question say the same
abbrev pub SameAnswer : Result Question Refusal → Result Question Refusal → Type 0
SameAnswer (Ok p) (Ok q) = lines_of p.table ≡ lines_of q.table
SameAnswer (Ok p) (Err e) = ⊥
SameAnswer (Err d) (Ok q) = ⊥
SameAnswer (Err d) (Err e) = d ≡ e

-- no other answer fits the texts
abbrev pub Alone : List ℕ → List ℕ → List ℕ → Result Question Refusal → Type 0
Alone ns x y r = (s : Result Question Refusal) → QuestionOf ns x y s → SameAnswer r s
