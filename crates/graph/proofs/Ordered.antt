-- A line stands for the formula that its kind makes of its operands' formulas.
use Rattle.std.proofs.Common.{◌≡◌, ℕ, ◌<◌, true, false, length, refl, ap, ◌∙◌}
use Rattle.std.proofs.lemmas.Bool.{and_parts, and_from, ltb-true, lt-ltb}
use Rattle.rules.specs.declared.syntax.Atom.TheVariants.{True, False, Signal}
use Rattle.rules.specs.declared.syntax.Unary.TheVariants.{Not, Always, Eventually, Next}
use Rattle.rules.specs.declared.syntax.Binary.TheVariants.{And, Or}
use Rattle.rules.specs.Formula.{Formula, atom, unary, binary}
use Rattle.tables.specs.declared.line.Line.{Line}
use Rattle.tables.specs.Normal.{Normal, plain}
use Rattle.tables.specs.Lines.{Lines, line, under, Earlier, Lawful, form, formula, build as made}
use Rattle.tables.proofs.Forms.{form_at}

-- the operands of a line stand below k
abbrev pub Under : Line → ℕ → Type 0
Under Line.True k = Unit {0}
Under Line.False k = Unit {0}
Under (Line.Literal s b) k = Unit {0}
Under (Line.And i j) k = (i < k) × (j < k)
Under (Line.Or i j) k = (i < k) × (j < k)
Under (Line.Always i) k = i < k
Under (Line.Eventually i) k = i < k
Under (Line.Next i) k = i < k

pub record Ordered (t : Lines) : Type 0 where
  pub some : 0 < length t
  pub earlier : (k : ℕ) → k < length t → Under (line t k) k

pub stand_under : (l : Line) (k : ℕ) → under k l ≡ true → Under l k
stand_under Line.True k h = tt
stand_under Line.False k h = tt
stand_under (Line.Literal s b) k h = tt
stand_under (Line.And i j) k h = let p = and_parts _ _ h in (ltb-true i k p.0, ltb-true j k p.1)
stand_under (Line.Or i j) k h = let p = and_parts _ _ h in (ltb-true i k p.0, ltb-true j k p.1)
stand_under (Line.Always i) k h = ltb-true i k h
stand_under (Line.Eventually i) k h = ltb-true i k h
stand_under (Line.Next i) k h = ltb-true i k h

pub under_true : (l : Line) (k : ℕ) → Under l k → under k l ≡ true
under_true Line.True k h = refl
under_true Line.False k h = refl
under_true (Line.Literal s b) k h = refl
under_true (Line.And i j) k h = and_from _ _ (lt-ltb i k h.0) (lt-ltb j k h.1)
under_true (Line.Or i j) k h = and_from _ _ (lt-ltb i k h.0) (lt-ltb j k h.1)
under_true (Line.Always i) k h = lt-ltb i k h
under_true (Line.Eventually i) k h = lt-ltb i k h
under_true (Line.Next i) k h = lt-ltb i k h

pub ordered : (t : Lines) → 0 < length t → Earlier t → Ordered t
ordered t s o = record { some = s; earlier = λ k l. stand_under (line t k) k (o k l) }

pub lawful_ordered : (t : Lines) → Lawful t → Ordered t
lawful_ordered t h = ordered t h.some h.earlier

pub ordered_earlier : (t : Lines) → Ordered t → Earlier t
ordered_earlier t o k l = under_true (line t k) k (o.earlier k l)

-- the formula that a line stands for, given those of the earlier lines
abbrev pub build : Line → (ℕ → Formula) → Formula
build Line.True f = atom True
build Line.False f = atom False
build (Line.Literal s true) f = atom (Signal s)
build (Line.Literal s false) f = unary Not (atom (Signal s))
build (Line.And i j) f = binary And (f i) (f j)
build (Line.Or i j) f = binary Or (f i) (f j)
build (Line.Always i) f = unary Always (f i)
build (Line.Eventually i) f = unary Eventually (f i)
build (Line.Next i) f = unary Next (f i)

build_plain : (l : Line) (f : ℕ → Normal) → plain (made l f) ≡ build l (λ i. plain (f i))
build_plain Line.True f = refl
build_plain Line.False f = refl
build_plain (Line.Literal s true) f = refl
build_plain (Line.Literal s false) f = refl
build_plain (Line.And i j) f = refl
build_plain (Line.Or i j) f = refl
build_plain (Line.Always i) f = refl
build_plain (Line.Eventually i) f = refl
build_plain (Line.Next i) f = refl

pub formula_line : (t : Lines) → Ordered t → (k : ℕ) → k < length t → formula t k ≡ build (line t k) (formula t)
formula_line t o k l = ap plain (form_at t (ordered_earlier t o) k l) ∙ build_plain (line t k) (form t)
