-- What an answer says that was read of a whole record.
use Rattle.std.specs.Prelude.{[], Some, None, Option}
use Rattle.records.specs.declared.claim.Claim as coded
use Rattle.records.specs.Claims.{Claim, claim_of}
use Rattle.records.specs.Parsing.{Got, lost, got}

abbrev pub understood : Option coded.Claim → Got Claim
understood None = lost
understood (Some c) = got (claim_of c) []
