-- Rules with their lines, choice lines, nodes and verdicts.
use Rattle.std.specs.Prelude.{◌≡◌, ℕ, Bool, true, false, List, length}
use Rattle.rules.specs.declared.syntax.Atom.TheVariants.{True, Signal}
use Rattle.rules.specs.declared.syntax.Unary.TheVariants.{Not, Always, Eventually, Next}
use Rattle.rules.specs.declared.syntax.Binary.TheVariants.{And}
use Rattle.rules.specs.Formula.{Formula, atom, unary, binary}
use Rattle.rules.specs.Runs.{Run, Keeps}
use Rattle.tables.specs.Lines.{choices}
use Rattle.tables.specs.Limits.{kept}
use Rattle.graph.specs.declared.node.Node.{Node}
use Rattle.graph.specs.Graphs.{Distinct, Graph, Loops}

-- the verdict: a run keeps the rule, and some ω-node reaches itself; or neither is so
abbrev pub Verdict : Formula → Bool → Type 0
Verdict f true = ((r : Run) × Keeps f r) × Loops (kept f)
Verdict f false = ((r : Run) → Keeps f r → ⊥) × (Loops (kept f) → ⊥)

-- so many lines, choice lines and nodes
pub record Row (f : Formula) (lines chosen nodes : ℕ) (run : Bool) : Type 0 where
  pub lined : length (kept f) ≡ lines
  pub choosing : choices (kept f) ≡ chosen
  pub graph : List Node
  pub listed : Graph (kept f) graph
  pub distinct : Distinct graph
  pub counted : length graph ≡ nodes
  pub verdict : Verdict f run

abbrev pub p : Formula
p = atom (Signal 0)

abbrev pub q : Formula
q = atom (Signal 1)

abbrev pub T : Formula
T = atom True

abbrev pub E : Formula → Formula
E = unary Eventually

abbrev pub A : Formula → Formula
A = unary Always

abbrev pub N : Formula → Formula
N = unary Next

abbrev pub ~ : Formula → Formula
~ = unary Not

abbrev pub both : Formula → Formula → Formula
both = binary And

abbrev pub Rows : Type 0
Rows =
    Row T 1 0 1 true
    × Row (~ T) 1 0 1 false
    × Row p 1 0 2 true
    × Row (both p (~ p)) 3 0 1 false
    × Row (E p) 2 1 3 true
    × Row (both (E p) (A (~ p))) 5 1 2 false
    × Row (both (E p) (E (~ p))) 5 2 5 true
    × Row (both (A (E p)) (A (E q))) 7 2 9 true
    × Row (both (A (E p)) (E (A (~ p)))) 7 2 6 false
    × Row (N p) 2 0 3 true
