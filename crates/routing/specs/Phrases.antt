-- A formula in words, each compound in brackets.
use Rattle.std.specs.Prelude.{ℕ, ◌<◌, List, [], ◌++◌, length, codes, slice_index_or}
use Rattle.rules.specs.declared.syntax.Atom.{Atom}
use Rattle.rules.specs.declared.syntax.Atom.TheVariants.{True, False, Signal}
use Rattle.rules.specs.declared.syntax.Unary.{Unary}
use Rattle.rules.specs.declared.syntax.Unary.TheVariants.{Not, Always, Eventually, Next}
use Rattle.rules.specs.declared.syntax.Binary.{Binary}
use Rattle.rules.specs.declared.syntax.Binary.TheVariants.{And, Or, Implies, Equivalent}
use Rattle.rules.specs.declared.syntax.Entry.{Entry}
use Rattle.rules.specs.Entries.{nothing, meaning, Stands}
use Rattle.rules.specs.Formula.{Formula, atom, unary, binary}
use Rattle.routing.specs.Shown.{glyphs}

abbrev pub leaf : List (List ℕ) → Atom → List ℕ
leaf ns True = codes "true"
leaf ns False = codes "false"
leaf ns (Signal k) = glyphs (slice_index_or ns k [])

abbrev pub opening : Unary → List ℕ
opening Not = codes "(not "
opening Always = codes "(always "
opening Eventually = codes "(eventually "
opening Next = codes "(next "

abbrev pub between : Binary → List ℕ
between And = codes " and "
between Or = codes " or "
between Implies = codes " implies "
between Equivalent = codes " equals "

-- the formula over signals of these names
abbrev pub phrase : List (List ℕ) → Formula → List ℕ
phrase ns (atom a) = leaf ns a
phrase ns (unary u f) = opening u ++ (phrase ns f ++ codes ")")
phrase ns (binary b f g) = codes "(" ++ (phrase ns f ++ (between b ++ (phrase ns g ++ codes ")")))

-- each entry stands for the formula that its sign makes of its operands'
abbrev pub Standing : List Entry → Type 0
Standing xs = (i : ℕ) → i < length xs → Stands (meaning xs (length xs)) (slice_index_or xs i nothing) (meaning xs (length xs) i)
