use Rattle.std.proofs.Common.{◌≡◌, ℕ, ◌<◌, List, length, eqb, ap, sym, ◌∙◌, arith, rules, tests}
use Rattle.std.specs.List.{slice_split}
use Rattle.std.proofs.lemmas.Iterator.Consumers.{count_from_yields_List}
use Rattle.std.proofs.lemmas.Iterator.Splits.{YieldsList-from_slice_split}
use Rattle.rules.specs.Signals.{names}
use Rattle.rules.proofs.Listed.{names_words, words_split}
use Rattle.rules.proofs.signals.SignalList.len.Goals as goal

counted : (bytes : List ℕ) (n : ℕ) → 0 < length bytes → n ≡ length (slice_split (λ b. eqb b 32) bytes) → n ≡ length (names bytes)
counted bytes n h e = e ∙ ap length (sym (words_split bytes) ∙ sym (names_words bytes h))

-- how many words the bytes have
count_is : (c : goal.After-count) → c.count.result ≡ length (names c.args.self.now.bytes.now)
count_is c =
    let bytes : List ℕ = c.args.self.now.bytes.now in
    counted bytes _ (search rules) (count_from_yields_List c.split.result _ c.count.ensures.ran (YieldsList-from_slice_split _ (λ b. eqb b 32) bytes c.split.ensures.rest c.split.ensures.done c.split.ensures.closure (λ x b q k. search (rules, tests))))

pub overflow_cast-result : goal.overflow_cast-result
overflow_cast-result c = omega (arith, count_is c, c.args.self.now.few)

pub returns : goal.returns
returns c = omega (arith, count_is c)
