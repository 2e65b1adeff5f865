-- What may stand next in a text: a small stack of what is still owed.
use Rattle.std.specs.Prelude.{◌≡◌, ℕ, List, [], ◌∷◌, ◌++◌, Some, None, Option}
use Rattle.rules.specs.declared.refusal.FaultKind.{FaultKind}
use Rattle.rules.specs.declared.refusal.FaultKind.TheVariants.{Form as Misplaced}
use Rattle.rules.specs.declared.syntax.Word.{Word}
use Rattle.rules.specs.declared.syntax.Word.TheVariants.{Leaf, Prefix, Infix, Open, Close}
use Rattle.rules.specs.Formula.{Formula, spell}
use Rattle.rules.specs.Text.{Lexed, done, stop, word}

-- a formula, a sign between two formulas, a closing bracket
pub data Owed : Type 0 where
  formula sign bracket : Owed

-- what a word leaves owing in place of what was owed first; None: it cannot stand there
abbrev pub meets : Owed → Word → Option (List Owed)
meets formula (Leaf a) = Some []
meets formula (Prefix u) = Some (formula ∷ [])
meets formula (Infix b) = None
meets formula Open = Some (formula ∷ (sign ∷ (formula ∷ (bracket ∷ []))))
meets formula Close = None
meets sign (Leaf a) = None
meets sign (Prefix u) = None
meets sign (Infix b) = Some []
meets sign Open = None
meets sign Close = None
meets bracket (Leaf a) = None
meets bracket (Prefix u) = None
meets bracket (Infix b) = None
meets bracket Open = None
meets bracket Close = Some []

pub data Verdict : Type 0 where
  accepted : Verdict
  refused : FaultKind → ℕ → Verdict

abbrev pub or_refused : Option (List Owed) → ℕ → (List Owed → Verdict) → Verdict
or_refused None o go = refused Misplaced o
or_refused (Some new) o go = go new

-- the verdict on a text of n bytes that says l, when the stack is owed
abbrev pub judge : ℕ → Lexed → List Owed → Verdict
judge n done [] = accepted
judge n done (x ∷ s) = refused Misplaced n
judge n (stop k o) s = refused k o
judge n (word o w l) [] = refused Misplaced o
judge n (word o w l) (x ∷ s) = or_refused (meets x w) o (λ new. judge n l (new ++ s))

abbrev pub also_said : Word → Option (List Word) → Option (List Word)
also_said w None = None
also_said w (Some ws) = Some (w ∷ ws)

-- all words of a text without fault
abbrev pub said : Lexed → Option (List Word)
said done = Some []
said (stop k o) = None
said (word o w l) = also_said w (said l)

-- l begins with the words, and r is what follows
abbrev pub Splits : Lexed → List Word → Lexed → Type 0
Splits l [] r = l ≡ r
Splits l (w ∷ ws) r = (o : ℕ) × (m : Lexed) × (l ≡ word o w m) × Splits m ws r

-- who owes one formula is accepted exactly with the spelling of a formula; no two are spelled alike
pub record OwedExact : Type 0 where
  pub sound : (n : ℕ) (l : Lexed) → judge n l (formula ∷ []) ≡ accepted → (f : Formula) × (said l ≡ Some (spell f))
  pub complete : (n : ℕ) (l : Lexed) (f : Formula) → said l ≡ Some (spell f) → judge n l (formula ∷ []) ≡ accepted
  pub unique : (f g : Formula) → spell f ≡ spell g → f ≡ g
