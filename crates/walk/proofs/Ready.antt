-- The lines of an outline are ordered.
use Rattle.std.proofs.Common.{◌≡◌, ◌<◌, true, get_or, ap, ◌∙◌, arith}
use Rattle.std.proofs.lemmas.List.{get_or-take}
use Rattle.std.proofs.lemmas.Bool.{and_parts}
use Rattle.tables.specs.declared.line.Line.{Line}
use Rattle.tables.specs.Lines.{line, under}
use Rattle.graph.proofs.Ordered.{Ordered, stand_under}
use Rattle.walk.specs.declared.outline.Outline.{Outline}
use Rattle.walk.specs.Fits.{narrow}
use Rattle.walk.specs.Outlines.{outlined}

pub outline_ordered : (o : Outline) → Ordered (outlined o)
outline_ordered o =
    record {
      some = omega (arith, o.whole, o.low);
      earlier = λ k l.
          let s : k < o.len = omega (arith, o.whole) in
          let e : line (outlined o) k ≡ get_or o.lines k Line.True = get_or-take o.len o.lines k Line.True s in
          let u : under k (line (outlined o) k) ≡ true =
          ap (under k) e ∙ (and_parts (under k (get_or o.lines k Line.True)) (narrow (get_or o.lines k Line.True)) (o.fit k s)).0 in
          stand_under (line (outlined o) k) k u;
    }
