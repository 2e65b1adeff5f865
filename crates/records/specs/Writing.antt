-- Writing the record of a claim to the start of a buffer.
use Rattle.std.specs.Prelude.{◌≡◌, ℕ, ◌<◌, ◌≤◌, ◌⊎◌, List, ◌++◌, length, drop, Ok, Err, Result}
use Rattle.rules.specs.declared.refusal.Refusal.{Refusal}
use Rattle.rules.specs.declared.refusal.Refusal.TheVariants.{Place, Record}
use Rattle.records.specs.Claims.{Claim, laid, Counts}

-- The record stands at the start, and every later byte is as it was; or nothing is written, since the buffer has no
-- room for every record, or the claim has counts that no record can have.
abbrev pub Written : Claim → List ℕ → Result ℕ Refusal → List ℕ → Type 0
Written c old (Ok n) fresh =
    (23555 ≤ length old) × Counts c × (n ≡ length (laid c)) × (fresh ≡ laid c ++ drop (length (laid c)) old)
Written c old (Err e) fresh =
    (fresh ≡ old) × (((length old < 23555) × (e ≡ Place)) ⊎ ((23555 ≤ length old) × (Counts c → ⊥) × (e ≡ Record)))
