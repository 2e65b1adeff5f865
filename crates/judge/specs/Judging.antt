-- What the judge of a record answers.
use Rattle.std.specs.Prelude.{◌≡◌, ℕ, ◌<◌, ◌⊎◌, List, length, Ok, Err, Result}
use Rattle.rules.specs.declared.refusal.Refusal.{Refusal}
use Rattle.rules.specs.declared.refusal.Refusal.TheVariants.{Record, Claim as BadClaim}
use Rattle.rules.specs.Runs.{Run, Keeps, at}
use Rattle.tables.specs.Lines.{Lines, root, total, is_eventuality}
use Rattle.tables.specs.Questions.{Asked, Meets, Asks}
use Rattle.graph.specs.Graphs.{Ranks, Once}
use Rattle.records.specs.declared.limits.Limits.{Limits}
use Rattle.records.specs.Claims.{Claim, laid, Lays}
use Rattle.truth.specs.Rows.{run_of}
use Rattle.judge.specs.Refutations.{ranked_list}
use Rattle.judge.specs.declared.verdict.Verdict as coded
use Rattle.judge.specs.declared.verdict.Verdict.TheVariants as verdict

-- what the bits of a record may stand for that is judged on the table t, over s signals
abbrev pub limits_of : Lines → ℕ → Limits
limits_of t s = record { signals = s; lines = length t; eventualities = total is_eventuality t }

-- what a claim says: that a run exists, or that none does
abbrev pub said : Claim → coded.Verdict
said (Claim.run lead cycle) = verdict.Run
said (Claim.graph nodes) = verdict.None

-- the claim is right on the table: the run makes the last line true at its first position,
-- or the list is a ranked graph in which no node stands twice
abbrev pub Right : Lines → Claim → Type 0
Right t (Claim.run lead cycle) = (lasts : 0 < length cycle) × Keeps (root t) (run_of lead cycle lasts)
Right t (Claim.graph nodes) = Ranks t (ranked_list nodes) × Once (ranked_list nodes)

-- what is answered to a record: what its claim says, where it is right; else the layout is refused before the claim
abbrev pub Judged : Lines → ℕ → List ℕ → Result coded.Verdict Refusal → Type 0
Judged t s bytes (Ok v) = (c : Claim) × Lays (limits_of t s) c bytes × Right t c × (v ≡ said c)
Judged t s bytes (Err e) =
    (((c : Claim) → Lays (limits_of t s) c bytes → ⊥) × (e ≡ Record))
    ⊎ ((c : Claim) × Lays (limits_of t s) c bytes × (Right t c → ⊥) × (e ≡ BadClaim))

-- no other answer fits the record
abbrev pub Alone : Lines → ℕ → List ℕ → Result coded.Verdict Refusal → Type 0
Alone t s bytes r = (q : Result coded.Verdict Refusal) → Judged t s bytes q → r ≡ q

-- the record shows the run
abbrev pub Shown : List ℕ → Run → Type 0
Shown bytes r = bytes ≡ laid (Claim.run r.lead r.cycle)

-- no run makes the last line true, and so none meets a question that has this table
pub record NoRun (t : Lines) : Type 0 where
  pub keeps : (r : Run) → Keeps (root t) r → ⊥
  pub meets : (a : Asked) → Asks a t → (r : Run) → Meets a (at r) 0 → ⊥

-- the run that is shown makes the last line true, and so meets every question that has this table
pub record ThisRun (t : Lines) (bytes : List ℕ) : Type 0 where
  pub run : Run
  pub shown : Shown bytes run
  pub keeps : Keeps (root t) run
  pub meets : (a : Asked) → Asks a t → Meets a (at run) 0

-- what an accepted record proves, whatever its bytes
abbrev pub Proves : Lines → List ℕ → Result coded.Verdict Refusal → Type 0
Proves t bytes (Ok verdict.Run) = ThisRun t bytes
Proves t bytes (Ok verdict.None) = NoRun t
Proves t bytes (Err e) = Unit {0}
