-- The derived `==` of lines is equality.
use Rattle.std.proofs.Common.{◌≡◌, Bool, true, false, Decides, sym, rules}
use Rattle.std.proofs.lemmas.Bool.{both_ways}
use Rattle.std.specs.Cmp.Lexicographic.{pointwise}
use Rattle.std.proofs.lemmas.Slice.Eq.{slice_eq-Decides}
use Rattle.tables.specs.declared.line.Line.{Line}
use Rattle.tables.specs.Lines.{Lines}
use Rattle.tables.specs.contracts.line.LinePartialEq.TheImpl.{ghosts}

-- what `==` answers on two lines
abbrev pub Equals : Line → Line → Bool → Type 0
Equals x y r = r ≡ ghosts.eq x y

same_line : (x y : Line) → Decides (ghosts.eq x y) (x ≡ y)
same_line = search rules

pub equal : (x y : Line) → Equals x y true → x ≡ y
equal x y e = (same_line x y).0 (sym e)

pub unequal : (x y : Line) → Equals x y false → x ≡ y → ⊥
unequal x y e p = both_ways _ (sym e) ((same_line x y).1 p)

-- and so is that of slices of lines
pub matches_lines : (xs ys : Lines) (r : Bool) → r ≡ pointwise ghosts.eq xs ys → Decides r (xs ≡ ys)
matches_lines = slice_eq-Decides same_line
