use Rattle.std.proofs.Common.{◌≡◌, ℕ, ◌<◌, ◌≤◌, Bool, true, ◌==◌, List, [], ◌∷◌, length, get_or, refl, ◌∙◌, arith, rules, tests}
use Rattle.std.proofs.lemmas.Bool.Decides.{nat_tests}
use Rattle.std.specs.List.{prefix_len, list_all}
use Rattle.std.proofs.lemmas.Iterator.{YieldsList-from_slice}
use Rattle.std.proofs.lemmas.Iterator.Search.{all_from_yields_List}
use Rattle.rules.specs.Letters.{small, in_name, is_name}
use Rattle.rules.proofs.signals.is_name.Goals as goal
use Rattle.rules.proofs.signals.is_name.Goals.{then-word-le8, else-word-le8}

all_prefix : (p : ℕ → Bool) (xs : List ℕ) → list_all p xs ≡ (prefix_len p xs == length xs)
all_prefix p [] = refl
all_prefix p (x ∷ xs) = let i = all_prefix p xs in grind (arith, nat_tests)

named : (w : List ℕ) → length w ≤ 8 → 0 < length w → small (get_or w 0 0) ≡ true → list_all in_name w ≡ is_name w
named w a b s = let e = all_prefix in_name w in grind (arith, nat_tests)

pub returns-then-is_some_and : goal.returns-then-is_some_and
returns-then-is_some_and c =
    elim c.if-word-le8.branch [
      | then-word-le8 w ↦ all_from_yields_List in_name _ _ _ c.all.ensures.ran (YieldsList-from_slice c.args.word.now cc) (λ x b q k. search (rules, tests)) ∙ named c.args.word.now (omega arith) (search (rules, tests)) (search (rules, tests))
      | else-word-le8 w ↦ search rules
    ]
