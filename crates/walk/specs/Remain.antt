-- What a walk has still to hand out.
use Rattle.std.specs.Prelude.{◌≡◌, ℕ, List, [], ◌∷◌, map, Some, None, Option}
use Rattle.arrayvec.specs.ArrayVec.{array_vec_len}
use Rattle.walk.specs.declared.found.Found.{Found}
use Rattle.walk.specs.declared.found.Branch.{Branch}
use Rattle.walk.specs.declared.branches.Branches.{Branches}
use Rattle.walk.specs.Outlines.{outlined}
use Rattle.walk.specs.Walk.{rest, load, finish}

-- what the passes on the stack will still end with
abbrev pub ends : Branches → List Found
ends b = rest (outlined b.outline.now) b.stack.items (array_vec_len b.stack)

-- the branches that are still to come
abbrev pub remaining : Branches → List Branch
remaining b = map (finish (outlined b.outline.now) b.node) (ends b)

abbrev pub work : Branches → ℕ
work b = load b.stack.items (array_vec_len b.stack)

-- an optional first element, and the others
abbrev pub first_of : {A : Type 0} → Option A → List A → List A
first_of None xs = xs
first_of (Some x) xs = x ∷ xs

-- the first is handed out, or there was none
abbrev pub Taken : {A : Type 0} → Option A → List A → List A → Type 0
Taken None before after = (before ≡ []) × (after ≡ [])
Taken (Some x) before after = before ≡ x ∷ after
