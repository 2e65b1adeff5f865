use Rattle.std.proofs.Common.{ℕ, eqb, sym, ap, ◌∙◌}
use Rattle.graph.specs.Pass.{is_omega}
use Rattle.graph.proofs.Laws.{omega_is}
use Rattle.walk.specs.Outlines.{outlined}
use Rattle.walk.proofs.outline.Outline.is_omega.Goals as goal

pub returns : goal.returns
unfolding is_omega
returns c =
    let s = c.args.self.now in
    let n = c.args.node in
    let e = ap (λ (x : ℕ). eqb n.history x) s.every in
    record {
      is = e;
      means = (λ h. (omega_is (outlined s) n).0 (sym e ∙ h), λ h. e ∙ (omega_is (outlined s) n).1 h);
    }
