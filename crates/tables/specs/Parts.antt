-- How an entry of a rule goes over into lines, under the sign true itself and under false its negation.
use Rattle.std.specs.Prelude.{◌≡◌, ℕ, ◌<◌, Bool, true, false, not, List, length, slice_index_or}
use Rattle.std.specs.Coded.{Π_prop}
use Rattle.rules.specs.declared.syntax.Atom.{Atom}
use Rattle.rules.specs.declared.syntax.Atom.TheVariants.{True, False, Signal}
use Rattle.rules.specs.declared.syntax.Entry.{Entry}
use Rattle.rules.specs.declared.syntax.Entry.TheVariants.{Leaf, One, Two}
use Rattle.rules.specs.Entries.{nothing, meaning}
use Rattle.rules.specs.Formula.{Formula, atom, unary, binary}
use Rattle.tables.specs.declared.line.Line.{Line}
use Rattle.tables.specs.declared.memo.Signed.{Signed}
use Rattle.tables.specs.Normal.{Normal, Normal-set, nnf}

-- the line of an atom
abbrev pub leaf : Atom → Line
leaf True = Line.True
leaf False = Line.False
leaf (Signal s) = Line.Literal s true

-- the dual of a line: ∧ and ∨, □ and ◇, T and F, a signal and its negation exchanged
abbrev pub turned : Line → Line
turned Line.True = Line.False
turned Line.False = Line.True
turned (Line.Literal s b) = Line.Literal s (not b)
turned (Line.And i j) = Line.Or i j
turned (Line.Or i j) = Line.And i j
turned (Line.Always i) = Line.Eventually i
turned (Line.Eventually i) = Line.Always i
turned (Line.Next i) = Line.Next i

-- the line itself, or its dual where the sign is false
abbrev pub signed : Bool → Line → Line
signed true l = l
signed false l = turned l

-- ∧ of two forms, or ∨ where the sign is false
abbrev pub joined : Bool → Normal → Normal → Normal
joined true = Normal.and
joined false = Normal.or

-- the formulas of entries
abbrev pub formulas : List Entry → ℕ → Formula
formulas xs = meaning xs (length xs)

-- the form of an entry under its sign
abbrev pub form_at : List Entry → Signed → Normal
form_at xs s = nnf s.1 (formulas xs s.0)

-- the formula of an entry, where f tells those of its operands
abbrev pub told : (ℕ → Formula) → Entry → Formula
told f (Leaf a) = atom a
told f (One u i) = unary u (f i)
told f (Two b i j) = binary b (f i) (f j)

-- the form of each entry is what its sign makes of its operands
abbrev pub Told : List Entry → Type 0
Told xs = (i : ℕ) → i < length xs → (b : Bool) → nnf b (told (formulas xs) (slice_index_or xs i nothing)) ≡ nnf b (formulas xs i)

pub Told-prop : (xs : List Entry) → IsProp (Told xs)
Told-prop xs = Π_prop λ i. Π_prop λ h. Π_prop λ b. Normal-set (nnf b (told (formulas xs) (slice_index_or xs i nothing))) (nnf b (formulas xs i))
