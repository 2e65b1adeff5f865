use Rattle.std.proofs.Common.{◌≡◌, ◌<◌, cond, sym, ap, ◌∙◌, arith}
use Rattle.graph.specs.Sets.{add}
use Rattle.walk.proofs.Puts.{set_none, set_turn}
use Rattle.walk.proofs.fit.set_of.Goals as goal
use Rattle.walk.proofs.fit.set_of.Goals.{then-test, else-test}

pub loop-k-init : goal.loop-k-init
loop-k-init g c f h = g.met.M.Mask.default_law _ c.default-set.ensures ∙ sym (set_none f)

pub loop-k-preserved : goal.loop-k-preserved
loop-k-preserved g c f h =
    let number = g.M.Mask.number in
    let k = c.loop-k.k in
    let l : k < c.args.count = c.loop-k-test.true in
    let turn : number c.if-test.set ≡ cond c.test.result (add (number c.loop-k.set) k) (number c.loop-k.set) = elim c.if-test.branch [
      | then-test w ↦ let same = ap number w.set-is in
          let more = w.with-set.ensures.within (omega arith) in
          rw w.if-test.true (cc (same, more))
      | else-test w ↦ rw w.if-test.false (ap number w.set-is)
    ] in
    set_turn f k (number c.loop-k.set) _ c.test.result (c.loop-k.invariant f h) (h k c.test.result l c.test.ensures) turn
