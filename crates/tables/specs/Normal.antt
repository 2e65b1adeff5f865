-- Normal forms: negation stands before signals only, and there is no > and no =.
use Rattle.std.specs.Prelude.{◌≡◌, ℕ, Bool, true, false, not, ◌⊎◌}
use Rattle.std.specs.Coded.{Coded-set, coded_ℕ, coded_bool}
use Rattle.rules.specs.declared.syntax.Atom.TheVariants.{True, False, Signal}
use Rattle.rules.specs.declared.syntax.Unary.TheVariants.{Not, Always, Eventually, Next}
use Rattle.rules.specs.declared.syntax.Binary.TheVariants.{And, Or, Implies, Equivalent}
use Rattle.rules.specs.Formula.{Formula, atom, unary, binary}

-- a literal is a signal, or its negation where the flag is false
pub data Normal : Type 0 where
  top bottom : Normal
  literal : ℕ → Bool → Normal
  and or : Normal → Normal → Normal
  always eventually next : Normal → Normal
  deriving IsSet as Normal-derived

-- any two proofs that two normal forms are equal are the same
pub Normal-set : IsSet Normal
Normal-set = Normal-derived (Coded-set coded_ℕ) (Coded-set coded_bool)

-- the formula that a normal form is
abbrev pub plain : Normal → Formula
plain Normal.top = atom True
plain Normal.bottom = atom False
plain (Normal.literal s true) = atom (Signal s)
plain (Normal.literal s false) = unary Not (atom (Signal s))
plain (Normal.and f g) = binary And (plain f) (plain g)
plain (Normal.or f g) = binary Or (plain f) (plain g)
plain (Normal.always f) = unary Always (plain f)
plain (Normal.eventually f) = unary Eventually (plain f)
plain (Normal.next f) = unary Next (plain f)

-- `nnf true f` is the normal form of f, and `nnf false f` that of its negation
abbrev pub nnf : Bool → Formula → Normal
nnf true (atom True) = Normal.top
nnf false (atom True) = Normal.bottom
nnf true (atom False) = Normal.bottom
nnf false (atom False) = Normal.top
nnf b (atom (Signal s)) = Normal.literal s b
nnf b (unary Not f) = nnf (not b) f
nnf true (unary Always f) = Normal.always (nnf true f)
nnf false (unary Always f) = Normal.eventually (nnf false f)
nnf true (unary Eventually f) = Normal.eventually (nnf true f)
nnf false (unary Eventually f) = Normal.always (nnf false f)
nnf b (unary Next f) = Normal.next (nnf b f)
nnf true (binary And f g) = Normal.and (nnf true f) (nnf true g)
nnf false (binary And f g) = Normal.or (nnf false f) (nnf false g)
nnf true (binary Or f g) = Normal.or (nnf true f) (nnf true g)
nnf false (binary Or f g) = Normal.and (nnf false f) (nnf false g)
nnf true (binary Implies f g) = Normal.or (nnf false f) (nnf true g)
nnf false (binary Implies f g) = Normal.and (nnf true f) (nnf false g)
nnf true (binary Equivalent f g) = Normal.or (Normal.and (nnf true f) (nnf true g)) (Normal.and (nnf false f) (nnf false g))
nnf false (binary Equivalent f g) = Normal.and (Normal.or (nnf false f) (nnf false g)) (Normal.or (nnf true f) (nnf true g))

-- g is f, or a part of a side of f; a literal has no part but itself
abbrev pub Part : Normal → Normal → Type 0
Part g Normal.top = g ≡ Normal.top
Part g Normal.bottom = g ≡ Normal.bottom
Part g (Normal.literal s b) = g ≡ Normal.literal s b
Part g (Normal.and f h) = (g ≡ Normal.and f h) ⊎ (Part g f ⊎ Part g h)
Part g (Normal.or f h) = (g ≡ Normal.or f h) ⊎ (Part g f ⊎ Part g h)
Part g (Normal.always f) = (g ≡ Normal.always f) ⊎ Part g f
Part g (Normal.eventually f) = (g ≡ Normal.eventually f) ⊎ Part g f
Part g (Normal.next f) = (g ≡ Normal.next f) ⊎ Part g f

-- ∧ and ∨, □ and ◇, T and F, a signal and its negation exchanged
abbrev pub dual : Normal → Normal
dual Normal.top = Normal.bottom
dual Normal.bottom = Normal.top
dual (Normal.literal s b) = Normal.literal s (not b)
dual (Normal.and f g) = Normal.or (dual f) (dual g)
dual (Normal.or f g) = Normal.and (dual f) (dual g)
dual (Normal.always f) = Normal.eventually (dual f)
dual (Normal.eventually f) = Normal.always (dual f)
dual (Normal.next f) = Normal.next (dual f)
