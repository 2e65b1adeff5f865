use Rattle.std.proofs.Common.{ℕ, List, eqb, sym, ap, ◌∙◌, rules, tests}
use Rattle.std.specs.List.{slice_split}
use Rattle.std.specs.Str.{bytes_eq}
use Rattle.std.proofs.lemmas.Iterator.Search.{position_from_yields_List}
use Rattle.std.proofs.lemmas.Iterator.Splits.{YieldsList-from_slice_split}
use Rattle.rules.specs.Signals.{place_of}
use Rattle.rules.proofs.Listed.{names_words, words_split, place_position}
use Rattle.rules.proofs.signals.place_of.Goals as goal

pub returns : goal.returns
returns c =
    let bytes : List ℕ = c.args.bytes.now in
    let name : List ℕ = c.args.name.now in
    let ws : List (List ℕ) = slice_split (λ b. eqb b 32) bytes in
    position_from_yields_List (λ w. bytes_eq w name) _ _ _ c.position.ensures.ran (YieldsList-from_slice_split _ (λ b. eqb b 32) bytes c.split.ensures.rest c.split.ensures.done c.split.ensures.closure (λ x b q k. search (rules, tests))) (λ x b q k. search (rules, tests))
    ∙ sym (place_position name ws) ∙ ap (λ (vs : List (List ℕ)). place_of name vs 0) (sym (words_split bytes) ∙ sym (names_words bytes (search rules)))
