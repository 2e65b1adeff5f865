-- The first fault of a text, said without the stack.
use Rattle.std.specs.Prelude.{◌≡◌, ℕ, List, [], ◌∷◌, ◌++◌, ◌≢◌}
use Rattle.rules.specs.declared.refusal.FaultKind.{FaultKind}
use Rattle.rules.specs.declared.refusal.FaultKind.TheVariants.{Form as Misplaced}
use Rattle.rules.specs.declared.syntax.Word.{Word}
use Rattle.rules.specs.Formula.{Formula, spell}
use Rattle.rules.specs.Text.{Lexed, done, stop, word}
use Rattle.rules.specs.Owed.{formula, judge, refused, Splits}

-- the words begin the spelling of some formula
abbrev pub Begins : List Word → Type 0
Begins ws = (us : List Word) × (f : Formula) × (ws ++ us ≡ spell f)

-- why the words ws, which are followed by m, end the reading of a text of n bytes:
-- the end comes though they are no formula, the reading stops at a fault, or a word comes with which no formula goes on
abbrev pub Cause : ℕ → List Word → Lexed → FaultKind → ℕ → Type 0
Cause n ws done k o = (k ≡ Misplaced) × (o ≡ n) × ((f : Formula) → ws ≢ spell f)
Cause n ws (stop j p) k o = (k ≡ j) × (o ≡ p)
Cause n ws (word p w r) k o = (k ≡ Misplaced) × (o ≡ p) × ((us : List Word) (f : Formula) → ws ++ (w ∷ us) ≢ spell f)

-- the first fault: all words before it begin a formula, and what stands there cannot go on
pub record FirstFault (n : ℕ) (l : Lexed) (k : FaultKind) (o : ℕ) : Type 0 where
  pub words : List Word
  pub rest : Lexed
  pub splits : Splits l words rest
  pub begins : Begins words
  pub cause : Cause n words rest k o

-- what is refused for what is owed has its first fault there
abbrev pub FaultFirst : Type 0
FaultFirst = (n : ℕ) (l : Lexed) (k : FaultKind) (o : ℕ) → judge n l (formula ∷ []) ≡ refused k o → FirstFault n l k o

-- and the other way, so there is at most one first fault
abbrev pub FirstOnly : Type 0
FirstOnly = (n : ℕ) (l : Lexed) (k : FaultKind) (o : ℕ) → FirstFault n l k o → judge n l (formula ∷ []) ≡ refused k o
