use Rattle.std.proofs.Common.{◌≡◌, ℕ, List, [], Some, None, Option, Bor, get_or, refl, ap, ◌∙◌}
use Rattle.std.specs.Option.{option_map, unwrap_or}
use Rattle.std.proofs.lemmas.Option.{unwrap_or-slice_get}
use Rattle.std.proofs.lemmas.Iterator.Consumers.{nth_from_yields_List, YieldsList-from_first}
use Rattle.rules.specs.Signals.{names}
use Rattle.routing.specs.Lines.{waiting}
use Rattle.routing.proofs.words.name_of.Goals as goal

now-unwrap_or : (o : Option (Bor (List ℕ))) (d : Bor (List ℕ)) → (unwrap_or o d).now ≡ unwrap_or (option_map (λ y. y.now) o) d.now
now-unwrap_or None d = refl
now-unwrap_or (Some x) d = refl

pub returns : goal.returns
returns c =
    let all = YieldsList-from_first (λ x. x.now) (λ s. waiting (option_map (λ y. y.now) s.rest)) (names c.args.list.now) c.of.ensures in
    ap (λ r. r.now) c.unwrap_or.ensures
    ∙ now-unwrap_or c.nth.result _
    ∙ ap (λ o. unwrap_or o []) (nth_from_yields_List c.nth.result c.nth.new.self c.into.result c.nth.ensures.ran all)
    ∙ unwrap_or-slice_get (names c.args.list.now) c.into.result _
    ∙ ap (λ k. get_or (names c.args.list.now) k []) c.into.ensures
