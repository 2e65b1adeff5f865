-- What a line of input asks for.
use Rattle.std.specs.Prelude.{◌≡◌, ℕ, Bool, true, false, ◌||◌, List, ◌∷◌, ◌++◌, length, Some, None, codes, Option, ◌==◌, ◌≢◌, slice_index}
use Rattle.routing.specs.declared.command.Verb.{Verb}
use Rattle.routing.specs.declared.command.Verb.TheVariants.{Signals, Rule, Table, Question, Graph}
use Rattle.routing.specs.declared.command.Line.{Line}
use Rattle.routing.specs.declared.command.Line.TheVariants.{Blank, Order, Short, Unknown}
use Rattle.routing.specs.Lines.{Cuts}

-- the name of a command
abbrev pub name : Verb → List ℕ
name Signals = codes "signals"
name Rule = codes "rule"
name Table = codes "table"
name Question = codes "question"
name Graph = codes "graph"

-- the command of a name, or that there is none
abbrev pub Named : List ℕ → Option Verb → Type 0
Named w None = (v : Verb) → w ≢ name v
Named w (Some v) = w ≡ name v

-- an empty line, or one that begins with '#'
abbrev pub passed : List ℕ → Bool
passed line = length line == 0 || slice_index line 0 == 35

-- what a line asks for
abbrev pub Asks : List ℕ → Line → Type 0
Asks line Blank = passed line ≡ true
Asks line (Order k) = line ≡ name k.verb ++ (32 ∷ k.subject.now)
Asks line (Short v) = line ≡ name v
Asks line (Unknown w) = (passed line ≡ false) × ((o : Option (List ℕ)) × Cuts line w.now o) × Named w.now None
