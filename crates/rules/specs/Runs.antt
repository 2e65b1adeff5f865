-- Runs, and truth at a time of a run.
use Rattle.std.specs.Prelude.{◌≡◌, ℕ, suc, ◌-◌, ◌/◌, ◌%◌, ◌^◌, ◌<◌, ◌≤◌, Bool, true, cond, ◌⊎◌, List, length, ◌==◌, nat_lt, slice_index}
use Rattle.rules.specs.declared.syntax.Atom.TheVariants.{True, False, Signal}
use Rattle.rules.specs.declared.syntax.Unary.TheVariants.{Not, Always, Eventually, Next}
use Rattle.rules.specs.declared.syntax.Binary.TheVariants.{And, Or, Implies, Equivalent}
use Rattle.rules.specs.Formula.{Formula, atom, unary, binary}

-- a position is a mask: bit k stands for the signal with the number k
unfoldable pub on : ℕ → ℕ → Bool
on position k = position / 2 ^ k % 2 == 1

-- truth at time i, where `w i` is the position at time i; always and eventually include the present
abbrev pub Holds : Formula → (ℕ → ℕ) → ℕ → Type 0
Holds (atom True) w i = Unit {0}
Holds (atom False) w i = ⊥
Holds (atom (Signal k)) w i = on (w i) k ≡ true
Holds (unary Not f) w i = Holds f w i → ⊥
Holds (unary Always f) w i = (j : ℕ) → i ≤ j → Holds f w j
Holds (unary Eventually f) w i = (j : ℕ) × (i ≤ j) × Holds f w j
Holds (unary Next f) w i = Holds f w (suc i)
Holds (binary And f g) w i = Holds f w i × Holds g w i
Holds (binary Or f g) w i = Holds f w i ⊎ Holds g w i
Holds (binary Implies f g) w i = Holds f w i → Holds g w i
Holds (binary Equivalent f g) w i = (Holds f w i → Holds g w i) × (Holds g w i → Holds f w i)

-- positions that come once, the lead-in, and then positions that come again and again, the cycle
pub record Run : Type 0 where
  pub lead : List ℕ
  pub cycle : List ℕ
  pub lasts : 0 < length cycle

-- the position at time i
unfoldable pub at : Run → ℕ → ℕ
at r i = cond (nat_lt i (length r.lead)) (slice_index r.lead i) (slice_index r.cycle ((i - length r.lead) % length r.cycle))

-- to keep a formula is to make it true at time 0, and not to keep it is to break it
abbrev pub Keeps : Formula → Run → Type 0
Keeps f r = Holds f (at r) 0

abbrev pub Breaks : Formula → Run → Type 0
Breaks f r = Keeps f r → ⊥

-- on a run every formula is true or not at every time
abbrev pub Decided : Type 0
Decided = (f : Formula) (r : Run) (i : ℕ) → Holds f (at r) i ⊎ (Holds f (at r) i → ⊥)
