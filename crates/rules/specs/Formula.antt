-- Formulas of the logic, and how each is spelled.
use Rattle.std.specs.Prelude.{ℕ, ◌+◌, List, [], ◌∷◌, ◌++◌}
use Rattle.rules.specs.declared.syntax.Atom.{Atom}
use Rattle.rules.specs.declared.syntax.Unary.{Unary}
use Rattle.rules.specs.declared.syntax.Binary.{Binary}
use Rattle.rules.specs.declared.syntax.Word.{Word}
use Rattle.rules.specs.declared.syntax.Word.TheVariants.{Leaf, Prefix, Infix, Open, Close}

pub data Formula : Type 0 where
  atom : Atom → Formula
  unary : Unary → Formula → Formula
  binary : Binary → Formula → Formula → Formula

-- the grammar: each formula has exactly one spelling
abbrev pub spell : Formula → List Word
spell (atom a) = Leaf a ∷ []
spell (unary u f) = Prefix u ∷ spell f
spell (binary b f g) = Open ∷ (spell f ++ (Infix b ∷ (spell g ++ (Close ∷ []))))

-- the number of symbols, brackets not counted
abbrev pub size : Formula → ℕ
size (atom a) = 1
size (unary u f) = size f + 1
size (binary b f g) = size f + size g + 1
