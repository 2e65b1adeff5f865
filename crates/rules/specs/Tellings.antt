-- A refusal in words.
use Rattle.std.specs.Prelude.{ℕ, List, [], ◌++◌, Some, None, codes, decimal, Option}
use Rattle.rules.specs.declared.refusal.Refusal.{Refusal}
use Rattle.rules.specs.Refusals.{told, word, offset_of}

-- where the fault stands, if it stands anywhere
abbrev pub place : Option ℕ → List ℕ
place None = []
place (Some o) = codes ", at offset " ++ decimal o

-- number, word and offset
abbrev pub telling : Refusal → List ℕ
telling r = (decimal (told r).0 ++ (codes ", " ++ word r)) ++ place (offset_of r)
