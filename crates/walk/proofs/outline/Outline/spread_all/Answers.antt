use Rattle.std.proofs.Common.{◌≡◌, ℕ, ◌-◌, sym, ap, ◌∙◌, ap₂, arith}
use Rattle.graph.specs.Pass.{spread, spread_below}
use Rattle.tables.specs.Lines.{line}
use Rattle.walk.specs.declared.outline.Outline.{Outline}
use Rattle.walk.specs.Outlines.{outlined}
use Rattle.walk.proofs.Puts.{spread_hit, spread_miss, spread_none}
use Rattle.walk.proofs.outline.Outline.spread_all.Goals as goal

pub loop-k-preserved-then-has : goal.loop-k-preserved-then-has
loop-k-preserved-then-has c =
    let t = outlined c.args.self.now in
    let k = c.loop-k.k in
    let here : spread (line (outlined c.at.result.outline.now) c.at.result.k) c.loop-k.all ≡ spread (line t (k - 1)) c.loop-k.all =
    ap₂ (λ (o : Outline) (j : ℕ). spread (line (outlined o) j) c.loop-k.all) c.at.ensures.outline c.at.ensures.number in
    (omega arith, ap (λ (x : ℕ). spread_below t (k - 1) x) (c.spread-all.ensures ∙ here) ∙ spread_hit t k c.loop-k.all c.loop-k-test.true (sym c.if-has.ensures) ∙ c.loop-k.invariant.1)

pub loop-k-preserved : goal.loop-k-preserved
loop-k-preserved c =
    (omega arith, spread_miss (outlined c.args.self.now) c.loop-k.k c.loop-k.all c.loop-k-test.true (sym c.if-has.ensures) ∙ c.loop-k.invariant.1)

pub returns : goal.returns
returns c =
    let t = outlined c.args.self.now in
    let z : c.loop-k.k ≡ 0 = omega arith in
    sym (spread_none t c.loop-k.all) ∙ ap (λ (x : ℕ). spread_below t x c.loop-k.all) (sym z) ∙ c.loop-k.invariant.1
