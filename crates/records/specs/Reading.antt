-- Reading a record: the claim whose record it is, or a refusal.
use Rattle.std.specs.Prelude.{◌≡◌, ℕ, List, Ok, Err, Result}
use Rattle.rules.specs.declared.refusal.Refusal.{Refusal}
use Rattle.rules.specs.declared.refusal.Refusal.TheVariants.{Record}
use Rattle.records.specs.declared.claim.Claim as coded
use Rattle.records.specs.declared.limits.Limits.{Limits}
use Rattle.records.specs.Claims.{Claim, claim_of, Lays}

-- the bytes are the record of the claim, or of none
abbrev pub ReadAs : Limits → List ℕ → Result coded.Claim Refusal → Type 0
ReadAs l bytes (Ok c) = Lays l (claim_of c) bytes
ReadAs l bytes (Err e) = (e ≡ Record) × ((c : Claim) → Lays l c bytes → ⊥)

-- and of no other
abbrev pub Alone : Limits → List ℕ → Result coded.Claim Refusal → Type 0
Alone l bytes (Ok c) = (d : Claim) → Lays l d bytes → d ≡ claim_of c
Alone l bytes (Err e) = Unit {0}
