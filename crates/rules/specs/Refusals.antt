-- The sixteen refusals: number, values and word of each.
use Rattle.std.specs.Prelude.{ℕ, List, [], ◌∷◌, Some, None, codes, Option}
use Rattle.rules.specs.declared.refusal.FaultKind.{FaultKind}
use Rattle.rules.specs.declared.refusal.FaultKind.TheVariants.{Letter as BadLetter, Signal as BadSignal, Form as BadForm}
use Rattle.rules.specs.declared.refusal.Refusal.{Refusal}
use Rattle.rules.specs.declared.refusal.Refusal.TheVariants.{Place, Job, Standing, Absent, Length, Letter, Signal, Form, Lines, Choices, Spent, Full, List as BadList, Record, Claim, Archive}

-- number and values
abbrev pub told : Refusal → ℕ × List ℕ
told Place = (1, [])
told Job = (2, [])
told Standing = (3, [])
told Absent = (4, [])
told Length = (5, [])
told (Letter offset) = (6, offset ∷ [])
told (Signal offset) = (7, offset ∷ [])
told (Form offset) = (8, offset ∷ [])
told Lines = (9, [])
told Choices = (10, [])
told (Spent length) = (11, length ∷ [])
told (Full length) = (12, length ∷ [])
told BadList = (13, [])
told Record = (14, [])
told Claim = (15, [])
told (Archive offset) = (16, offset ∷ [])

abbrev pub word : Refusal → List ℕ
word Place = codes "place"
word Job = codes "job"
word Standing = codes "standing"
word Absent = codes "absent"
word Length = codes "length"
word (Letter offset) = codes "letter"
word (Signal offset) = codes "signal"
word (Form offset) = codes "form"
word Lines = codes "lines"
word Choices = codes "choices"
word (Spent length) = codes "spent"
word (Full length) = codes "full"
word BadList = codes "list"
word Record = codes "record"
word Claim = codes "claim"
word (Archive offset) = codes "archive"

-- where in the refused bytes
abbrev pub offset_of : Refusal → Option ℕ
offset_of Place = None
offset_of Job = None
offset_of Standing = None
offset_of Absent = None
offset_of Length = None
offset_of (Letter offset) = Some offset
offset_of (Signal offset) = Some offset
offset_of (Form offset) = Some offset
offset_of Lines = None
offset_of Choices = None
offset_of (Spent length) = None
offset_of (Full length) = None
offset_of BadList = None
offset_of Record = None
offset_of Claim = None
offset_of (Archive offset) = Some offset

-- the refusal of a text with this fault
abbrev pub refusal_of : FaultKind → ℕ → Refusal
refusal_of BadLetter offset = Letter offset
refusal_of BadSignal offset = Signal offset
refusal_of BadForm offset = Form offset
