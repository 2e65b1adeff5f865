-- One layout a claim.
use Rattle.std.specs.Prelude.{◌≡◌, ℕ, ◌≤◌, List, length}
use Rattle.records.specs.declared.limits.Limits.{Limits}
use Rattle.records.specs.Claims.{Claim, laid, Counts, Within, Lays}

pub record OneLayout : Type 0 where
  -- lawful bytes are the record of one claim
  pub one_claim : (l : Limits) (c d : Claim) (bytes : List ℕ) → Lays l c bytes → Lays l d bytes → c ≡ d
  -- whatever the limits of the one and of the other, no two claims have the same record
  pub no_two : (l m : Limits) (c d : Claim) → Counts c → Within l c → Counts d → Within m d → laid c ≡ laid d → c ≡ d
  -- a claim within the limits has a lawful record, and that is its only one
  pub lawful : (l : Limits) (c : Claim) → Counts c → Within l c → Lays l c (laid c)
  pub one_record : (l : Limits) (c : Claim) (bytes more : List ℕ) → Lays l c bytes → Lays l c more → bytes ≡ more
  -- no record is longer than 1,024 nodes of 23 bytes, their count and the map
  pub short : (c : Claim) → Counts c → length (laid c) ≤ 23555
