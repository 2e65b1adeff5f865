-- What is answered to a record.
use Rattle.std.specs.Prelude.{◌≡◌, ℕ, Ok, Err, Result}
use Rattle.judge.specs.declared.verdict.Verdict.{Verdict}
use Rattle.judge.specs.declared.verdict.Verdict.TheVariants.{Run, None as NoRun}
use Rattle.rules.specs.declared.refusal.Refusal.{Refusal}
use Rattle.rules.specs.Refusals.{told}

-- the number of an answer: of what the record shows, or of the refusal
abbrev pub number : Result Verdict ℕ → ℕ
number (Ok NoRun) = 0
number (Ok Run) = 255
number (Err refusal) = refusal

-- what was found fits: the record shows the same, or is refused under that number
abbrev pub Fits : Result Verdict ℕ → Result Verdict Refusal → Type 0
Fits (Ok shown) (Ok v) = v ≡ shown
Fits (Ok shown) (Err e) = ⊥
Fits (Err refusal) (Ok v) = ⊥
Fits (Err refusal) (Err e) = (told e).0 ≡ refusal
