use Rattle.std.proofs.Common.{◌∙◌}
use Rattle.records.proofs.Steps.{number_8, number_short, given_none}
use Rattle.records.proofs.coded.U64Coded.read.Goals as goal

pub returns-in_err-bytes : goal.returns-in_err-bytes
returns-in_err-bytes c = number_short 8 0 c.args.reader.now.rest.now c.in_err-bytes.ensures ∙ given_none _ _ c.from_residual.ensures

pub returns : goal.returns
returns c = number_8 c.args.reader.now.rest.now _ _ c.from_be_bytes.result c.from_be_bytes.type_inv c.in_ok-bytes.ensures c.from_be_bytes.ensures
