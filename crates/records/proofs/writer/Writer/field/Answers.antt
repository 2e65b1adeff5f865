use Rattle.std.proofs.Common.{◌≡◌, ℕ, Bool, true, false, not, cond, List, [], refl}
use Rattle.std.proofs.lemmas.Bool.{both_ways}
use Rattle.records.specs.Puts.{wrote_none, wrote_same}
use Rattle.records.proofs.writer.Writer.field.Goals as goal

absent : (zero differs : Bool) (bytes : List ℕ) → differs ≡ not zero → differs ≡ false → [] ≡ cond zero [] bytes
absent true differs bytes e f = refl
absent false differs bytes e f = absurd (both_ways differs f e)

pub returns-else-ne : goal.returns-else-ne
returns-else-ne g c =
    let h = c.ZERO.ensures in
    wrote_same _ _ _ _ (absent _ c.ne.result _ (rw h at c.ne.ensures) c.if-ne.false) (wrote_none _)
