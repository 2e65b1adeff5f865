use Rattle.std.proofs.Common.{rules}
use Rattle.vectors.proofs.Numbers.{plain_read, plain_decimal, decimal_read}
use Rattle.vectors.proofs.fields.number.Goals as goal

pub returns-in_ok-parse-clause-read : goal.returns-in_ok-parse-clause-read
returns-in_ok-parse-clause-read c = plain_read _ _ _ c.parse.ensures.value.0 c.in_ok-parse.was (c.is_plain.ensures.0 (search rules))

pub returns-in_ok-parse-clause-whole : goal.returns-in_ok-parse-clause-whole
returns-in_ok-parse-clause-whole c n h e = let read = decimal_read _ _ n c.parse.ensures.value.0 h e in cc (read, c.in_ok-parse.was)

pub returns-in_err-parse-clause-whole : goal.returns-in_err-parse-clause-whole
returns-in_err-parse-clause-whole c n h e = let read = decimal_read _ _ n c.parse.ensures.value.0 h e in cc (read, c.in_err-parse.was)

pub returns-else-is_plain-clause-whole : goal.returns-else-is_plain-clause-whole
returns-else-is_plain-clause-whole c n h e = cc (c.is_plain.ensures.1 (plain_decimal n _ h e))
