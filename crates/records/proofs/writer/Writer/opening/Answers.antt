use Rattle.std.proofs.Common.{ℕ, [], ◌∷◌, ap, ◌∙◌, arith, rules}
use Rattle.records.specs.Claims.{big, listed}
use Rattle.records.proofs.Claiming.{opening_none, opening_some}
use Rattle.records.specs.Puts.{wrote_more, wrote_same}
use Rattle.records.proofs.writer.Writer.opening.Goals as goal

pub returns-then-is_empty : goal.returns-then-is_empty
returns-then-is_empty c = wrote_same _ _ _ _ (ap (λ (x : ℕ). x ∷ []) c.into.ensures ∙ opening_none c.args.lead.now (search rules)) c.byte.ensures

pub returns-else-is_empty : goal.returns-else-is_empty
returns-else-is_empty c =
    wrote_same _ _ _ _ (ap (λ (x : ℕ). x ∷ listed (big 2) c.args.lead.now) c.into-else-is_empty.ensures ∙ opening_some c.args.lead.now (search rules))
    (wrote_more _ _ _ _ _ (omega (arith, c.requires.room)) c.byte-else-is_empty.ensures c.list.ensures)
