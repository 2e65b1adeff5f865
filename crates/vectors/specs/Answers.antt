-- When what the library says of a rule fits a row.
use Rattle.std.specs.Prelude.{◌≡◌, ℕ, ◌⊎◌, List, [], ◌∷◌, map, length, codes, decimal, Some, None, Ok, Err, Option, Result}
use Rattle.std.specs.Borrow.{Bor}
use Rattle.rules.specs.declared.refusal.Refusal.{Refusal}
use Rattle.rules.specs.declared.refusal.Refusal.TheVariants.{List as BadList}
use Rattle.rules.specs.Refusals.{told, offset_of}
use Rattle.rules.specs.Formula.{Formula}
use Rattle.rules.specs.Signals.{Lawful}
use Rattle.tables.specs.Lines.{choices}
use Rattle.tables.specs.Limits.{kept, broken}
use Rattle.tables.specs.Questions.{Says, Fails}
use Rattle.vectors.specs.Fields.{value_field}
use Rattle.vectors.specs.declared.answer.Counts.{Counts}
use Rattle.vectors.specs.declared.answer.Measures.{Measures}
use Rattle.vectors.specs.declared.answer.Verdict.{Verdict}
use Rattle.vectors.specs.declared.answer.Verdict.TheVariants.{Run, None as NoRun, Spent}

-- how many nodes there are, where that is said
abbrev pub counted : Verdict → Option ℕ
counted (Run n) = Some n
counted (NoRun n) = Some n
counted Spent = None

abbrev pub nodes : Result Measures Refusal → Option ℕ
nodes (Ok m) = counted m.verdict
nodes (Err e) = None

-- the texts of a row's fields
abbrev pub texts : List (Bor (List ℕ)) → List (List ℕ)
texts fields = map (λ (field : Bor (List ℕ)). field.now) fields

-- the fields of a verdict: its nodes and its word
abbrev pub verdict_fields : Verdict → List (List ℕ)
verdict_fields (Run n) = decimal n ∷ codes "run" ∷ []
verdict_fields (NoRun n) = decimal n ∷ codes "none" ∷ []
verdict_fields Spent = codes ">1024" ∷ codes "spent" ∷ []

-- the fields of what is said of an accepted rule
abbrev pub measures_fields : Measures → List (List ℕ)
measures_fields m =
    decimal m.counts.lines ∷ decimal m.counts.choices ∷ decimal m.counts.negation_lines ∷ decimal m.counts.negation_choices
    ∷ verdict_fields m.verdict

-- the fields of measures that are not given
abbrev pub none_given : List (List ℕ)
none_given = codes "-" ∷ codes "-" ∷ codes "-" ∷ codes "-" ∷ codes "-" ∷ codes "-" ∷ []

-- the fields of a refusal: its number and its offset, and nothing more
abbrev pub refusal_fields : Refusal → List (List ℕ)
refusal_fields e = decimal (told e).0 ∷ value_field (offset_of e) ∷ none_given

-- the fields of an answer
abbrev pub answer_fields : Result Measures Refusal → List (List ℕ)
answer_fields (Ok m) = codes "0" ∷ codes "-" ∷ measures_fields m
answer_fields (Err e) = refusal_fields e

-- the same lines and choice lines, in both forms
abbrev pub Equal : Measures → Counts → Type 0
Equal m c = m.counts ≡ c

-- what was found fits: the rule was accepted with the same counts, or refused alike
abbrev pub Fits : Result Measures Refusal → Result Counts Refusal → Type 0
Fits (Ok m) (Ok c) = Equal m c
Fits (Ok m) (Err e) = ⊥
Fits (Err r) (Ok c) = ⊥
Fits (Err r) (Err e) = e ≡ r

-- what the library counts in a formula
abbrev pub Counted : Formula → Counts → Type 0
Counted f c =
    (c.lines ≡ length (kept f)) × (c.choices ≡ choices (kept f))
    × (c.negation_lines ≡ length (broken f)) × (c.negation_choices ≡ choices (broken f))

-- what the library says of a text over a list: the text is a rule within the limits, with its counts; or the list is
-- unlawful, else the text's own refusal
abbrev pub Judged : List ℕ → List ℕ → Result Counts Refusal → Type 0
Judged list text (Ok c) = Lawful list × ((f : Formula) × Says list text f × Counted f c)
Judged list text (Err e) = ((Lawful list → ⊥) × (e ≡ BadList)) ⊎ (Lawful list × Fails list text e)
