-- Lines of input, cut at their first blank.
use Rattle.std.specs.Prelude.{◌≡◌, ℕ, ◌<◌, List, [], ◌∷◌, ◌++◌, length, Some, None, Option, ◌≢◌, slice_index}
use Rattle.rules.specs.Signals.{words}

-- no blank stands in it
abbrev pub Unbroken : List ℕ → Type 0
Unbroken w = (k : ℕ) → k < length w → slice_index w k ≢ 32

-- the first word of a line and, where a blank ends it, the rest after that blank
abbrev pub Cuts : List ℕ → List ℕ → Option (List ℕ) → Type 0
Cuts line w None = Unbroken w × (line ≡ w)
Cuts line w (Some t) = Unbroken w × (line ≡ w ++ (32 ∷ t))

-- the names that are still to come
abbrev pub waiting : Option (List ℕ) → List (List ℕ)
waiting None = []
waiting (Some xs) = words xs
