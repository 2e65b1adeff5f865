-- The branches of a node, listed by a walk from the highest line down.
use Rattle.std.specs.Prelude.{ℕ, zero, suc, ◌+◌, ◌^◌, Bool, true, false, cond, not, ◌&&◌, ◌||◌, List, [], ◌∷◌, ◌++◌, map, length, get_or, slice_index_or}
use Rattle.tables.specs.declared.line.Line.{Line}
use Rattle.graph.specs.declared.node.Node.{Node}
use Rattle.graph.specs.Sets.{has, add, set_of}
use Rattle.tables.specs.Lines.{Lines, line, is_eventuality}
use Rattle.graph.specs.Numbers.{eventuality}
use Rattle.graph.specs.Pass.{opened, put, is_omega}
use Rattle.walk.specs.declared.found.Found.{Found}
use Rattle.walk.specs.declared.found.Step.{Step}
use Rattle.walk.specs.declared.found.Pass.{Pass}
use Rattle.walk.specs.declared.found.Branch.{Branch}

abbrev pub see : Found → ℕ → Found
see f i = record { seen = add f.seen i; next = f.next; later = f.later; on = f.on; off = f.off }

abbrev pub bring : Found → ℕ → Found
bring f i = record { seen = f.seen; next = add f.next i; later = f.later; on = f.on; off = f.off }

abbrev pub defer : Found → ℕ → Found
defer f e = record { seen = f.seen; next = f.next; later = add f.later e; on = f.on; off = f.off }

abbrev pub switch_on : Found → ℕ → Found
switch_on f s = record { seen = f.seen; next = f.next; later = f.later; on = add f.on s; off = f.off }

abbrev pub switch_off : Found → ℕ → Found
switch_off f s = record { seen = f.seen; next = f.next; later = f.later; on = f.on; off = add f.off s }

-- where line k, the eventuality e if it is one, leads from f
abbrev pub steps : Line → ℕ → ℕ → Found → List Found
steps Line.True k e f = f ∷ []
steps Line.False k e f = []
steps (Line.Literal s true) k e f = cond (has f.off s) [] (switch_on f s ∷ [])
steps (Line.Literal s false) k e f = cond (has f.on s) [] (switch_off f s ∷ [])
steps (Line.And i j) k e f = see (see f i) j ∷ []
steps (Line.Or i j) k e f = see f i ∷ see f j ∷ []
steps (Line.Always i) k e f = bring (see f i) k ∷ []
steps (Line.Eventually i) k e f = see f i ∷ defer f e ∷ []
steps (Line.Next i) k e f = bring f i ∷ []

abbrev pub each : List Found → (Found → List Found) → List Found
each [] w = []
each (f ∷ fs) w = w f ++ each fs w

-- all that a pass over the lines below k can end with
unfoldable pub walk : Lines → ℕ → Found → List Found
walk t zero f = f ∷ []
walk t (suc k) f = cond (has f.seen k) (each (steps (line t k) k (eventuality t k) f) (walk t k)) (walk t k f)

-- a step of the code as a list
abbrev pub step_list : Step → List Found
step_list Step.Dead = []
step_list (Step.One f) = f ∷ []
step_list (Step.Two f g) = f ∷ g ∷ []

abbrev pub found0 : Found
found0 = record { seen = 0; next = 0; later = 0; on = 0; off = 0 }

abbrev pub pass0 : Pass
pass0 = record { line = 0; found = found0 }

abbrev pub from_pass : Lines → Pass → List Found
from_pass t p = walk t p.line p.found

-- what the first d passes of a stack will still end with, the topmost first
unfoldable pub rest : Lines → List Pass → ℕ → List Found
rest t ps zero = []
rest t ps (suc d) = from_pass t (slice_index_or ps d pass0) ++ rest t ps d

-- the work that they mean at most
unfoldable pub load : List Pass → ℕ → ℕ
load ps zero = 0
load ps (suc d) = 2 ^ (get_or ps d pass0).line + load ps d

-- line k is an eventuality that has a mark
abbrev pub is_marked : Lines → ℕ → ℕ → Bool
is_marked t marks k = is_eventuality (line t k) && has marks (eventuality t k)

abbrev pub opens : Lines → Node → ℕ → Bool
opens t n k = has n.label k || is_marked t n.marks k

abbrev pub start : Lines → Node → Found
start t n = record { seen = (opened t n).now; next = 0; later = 0; on = 0; off = 0 }

unfoldable pub history_of : Lines → Node → ℕ → ℕ
history_of t n later = set_of (eventuality t (length t)) (λ e. not (has later e) || (has n.history e && not (is_omega t n)))

abbrev pub follower : Lines → Node → Found → Node
follower t n f = record { label = put t f.next; marks = f.later; history = history_of t n f.later }

abbrev pub finish : Lines → Node → Found → Branch
finish t n f = record { on = f.on; off = f.off; successor = follower t n f }

-- the branches of a node
unfoldable pub walked : Lines → Node → List Branch
walked t n = map (finish t n) (walk t (length t) (start t n))
