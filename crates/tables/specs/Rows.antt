-- Rules with their lines and choice lines, computed from the definitions.
use Rattle.std.specs.Prelude.{◌≡◌, ℕ, List, [], ◌∷◌, map, length, Some, codes, Option}
use Rattle.rules.specs.declared.syntax.Atom.TheVariants.{True, Signal}
use Rattle.rules.specs.declared.syntax.Unary.TheVariants.{Not, Always, Eventually}
use Rattle.rules.specs.declared.syntax.Binary.TheVariants.{And}
use Rattle.rules.specs.declared.syntax.Word.{Word}
use Rattle.rules.specs.Formula.{Formula, atom, unary, binary, spell}
use Rattle.rules.specs.Owed.{said}
use Rattle.rules.specs.Text.{lexed}
use Rattle.tables.specs.Lines.{choices as choices_in}
use Rattle.tables.specs.Limits.{kept}

pub record Row : Type 0 where
  pub text : List ℕ
  pub rule : Formula
  pub lines : ℕ
  pub choices : ℕ

abbrev row : List ℕ → Formula → ℕ → ℕ → Row
row text rule lines choices = record { text = text; rule = rule; lines = lines; choices = choices }

abbrev p : Formula
p = atom (Signal 0)

abbrev q : Formula
q = atom (Signal 1)

abbrev A : Formula → Formula
A = unary Always

abbrev E : Formula → Formula
E = unary Eventually

abbrev ~ : Formula → Formula
~ = unary Not

abbrev pub rows : List Row
rows =
    row (codes "T") (atom True) 1 0
    ∷ row (codes "~T") (~ (atom True)) 1 0
    ∷ row (codes "p") p 1 0
    ∷ row (codes "(p&~p)") (binary And p (~ p)) 3 0
    ∷ row (codes "Ep") (E p) 2 1
    ∷ row (codes "(Ep&A~p)") (binary And (E p) (A (~ p))) 5 1
    ∷ row (codes "(Ep&E~p)") (binary And (E p) (E (~ p))) 5 2
    ∷ row (codes "(AEp&AEq)") (binary And (A (E p)) (A (E q))) 7 2
    ∷ row (codes "(AEp&EA~p)") (binary And (A (E p)) (E (A (~ p)))) 7 2
    ∷ []

-- what the text says over the list of p and q, and how many lines and choice lines the rule's normal form has
abbrev pub computed : Row → Option (List Word) × ℕ × ℕ
computed r = (said (lexed (codes "p q") r.text 0), length (kept r.rule), choices_in (kept r.rule))

abbrev pub stated : Row → Option (List Word) × ℕ × ℕ
stated r = (Some (spell r.rule), r.lines, r.choices)

abbrev pub Rows : Type 0
Rows = map computed rows ≡ map stated rows
