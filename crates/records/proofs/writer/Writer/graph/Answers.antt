use Rattle.std.proofs.Common.{ℕ, ◌∷◌, ap, arith}
use Rattle.records.specs.Claims.{listed, node_bytes}
use Rattle.records.specs.Puts.{wrote_more, wrote_same}
use Rattle.records.proofs.writer.Writer.graph.Goals as goal

pub returns : goal.returns
returns c =
    wrote_same _ _ _ _ (ap (λ (x : ℕ). x ∷ listed node_bytes c.args.nodes.now) c.into.ensures)
    (wrote_more _ _ _ _ _ (omega (arith, c.requires.room)) c.byte.ensures c.list.ensures)
