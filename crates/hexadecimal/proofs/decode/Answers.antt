use Rattle.std.proofs.Common.{rules}
use Rattle.hexadecimal.proofs.Spelling.{small_read, capital_unread, refused}
use Rattle.hexadecimal.proofs.decode.Goals as goal

pub returns-then-not-are_small : goal.returns-then-not-are_small
returns-then-not-are_small c = capital_unread c.args.digits.now (λ small. cc (c.are_small.ensures.1 small))

pub returns-in_err-decode : goal.returns-in_err-decode
returns-in_err-decode c =
    let refusal = refused c.args.digits.now _ (c.are_small.ensures.0 (search rules)) c.in_err-decode.ensures.err in
    search (rules, refusal)

pub returns : goal.returns
returns c = rw c.in_ok-decode.ensures.ok at (small_read c.args.digits.now (c.are_small.ensures.0 (search rules)))
