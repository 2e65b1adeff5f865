use Rattle.std.proofs.Common.{◌≡◌, ℕ, Some, None, Ok, Err, Option, MatchOption, ap, ◌∙◌, rules, tests}
use Rattle.std.proofs.lemmas.Result.{err_from_is_err_and}
use Rattle.rules.specs.declared.reader.Reader.{Reader}
use Rattle.rules.specs.declared.reader.Token.{Token}
use Rattle.rules.specs.declared.syntax.Word.{Word}
use Rattle.rules.specs.Text.{word, lexed}
use Rattle.rules.specs.Reading.{Reads, word_of}
use Rattle.rules.specs.Words.{ReadsOn, ahead, Hears}
use Rattle.rules.proofs.Lexing.{reads_says, reads_moves}
use Rattle.rules.proofs.reader.Reader.next_word.Goals as goal

same_place : (old new : Reader) → ReadsOn old new → lexed old.list.bytes.now old.text.now new.at ≡ ahead new
same_place old new o = let a = o.list in let b = o.text in cc

heard : (old new : Reader) (x : Option (ℕ × Token)) (y : Option (ℕ × Word)) → ReadsOn old new → Reads old.list.bytes.now old.text.now old.at (Ok x) new.at → MatchOption x (y ≡ None) (λ p. y ≡ Some (p.0, word_of p.1)) → Hears old (Ok y) new
heard old new None y o r m = rw m (reads_says old.list.bytes.now old.text.now old.at (Ok None) new.at r)
heard old new (Some p) y o r m =
    rw m (record { says = reads_says old.list.bytes.now old.text.now old.at (Ok (Some p)) new.at r ∙ ap (word p.0 (word_of p.1)) (same_place old new o); moves = reads_moves old.list.bytes.now old.text.now old.at p new.at r })

pub returns-in_err-next_token-clause-hears : goal.returns-in_err-next_token-clause-hears
returns-in_err-next_token-clause-hears c =
    let p = err_from_is_err_and c.from_residual.result c.from_residual.ensures.1 in
    rw (p.1, p.2) (reads_says c.args.self.now.list.bytes.now c.args.self.now.text.now c.args.self.now.at (Err _) c.next_token.new.self.at c.in_err-next_token.ensures.reads)

pub returns-clause-hears : goal.returns-clause-hears
returns-clause-hears c = heard c.args.self.now c.next_token.new.self c.in_ok-next_token.field-0 c.map.result (record { list = c.next_token.ensures.list; text = c.next_token.ensures.text }) c.in_ok-next_token.ensures.reads (search (rules, tests))
