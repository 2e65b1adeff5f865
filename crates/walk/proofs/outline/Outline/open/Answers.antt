use Rattle.std.proofs.Common.{ℕ, ◌-◌, sym, ap, ◌∙◌, arith}
use Rattle.std.proofs.lemmas.Nat.{one_shl}
use Rattle.graph.specs.Sets.{set_of}
use Rattle.graph.specs.Pass.{opened}
use Rattle.walk.specs.Outlines.{outlined}
use Rattle.walk.specs.Walk.{is_marked, opens}
use Rattle.walk.proofs.Puts.{full, joined}
use Rattle.walk.proofs.outline.Outline.open.Goals as goal

pub returns : goal.returns
unfolding opened
returns c =
    let s = c.args.self.now in
    let t = outlined s in
    let n = c.args.node in
    joined s.len n.label _ c.common.result c.marked.result c.union.result (is_marked t n.marks) (ap (λ (x : ℕ). x - 1) (one_shl s.len 128 (omega arith)) ∙ full s.len) c.marked.ensures c.common.ensures c.union.ensures
    ∙ ap (λ (x : ℕ). set_of x (opens t n)) (sym s.whole)
