use Rattle.std.proofs.Common.{◌≡◌, ℕ, ◌+◌, Bool, true, false, cond, ◌&&◌, sym, ap, ◌∙◌, ap₂, add-one, arith}
use Rattle.graph.specs.Numbers.{eventuality}
use Rattle.graph.specs.Sets.{has, add, set_of}
use Rattle.tables.specs.Lines.{line, is_eventuality}
use Rattle.tables.proofs.Counts.{number_start}
use Rattle.walk.specs.declared.outline.Outline.{Outline}
use Rattle.walk.specs.Outlines.{outlined}
use Rattle.walk.specs.Walk.{is_marked}
use Rattle.walk.proofs.Evs.{ev_next}
use Rattle.walk.proofs.Puts.{set_none, set_turn, unmarked}
use Rattle.walk.proofs.outline.Outline.marked.Goals as goal
use Rattle.walk.proofs.outline.Outline.marked.Goals.{then-is_eventuality, then-has, else-has, else-is_eventuality}

pub loop-k-init : goal.loop-k-init
loop-k-init c =
    let t = outlined c.args.self.now in
    record { small = omega arith; number = sym (number_start is_eventuality t); lines = sym (set_none (is_marked t c.args.marks)) }

pub loop-k-preserved : goal.loop-k-preserved
loop-k-preserved c =
    let s = c.args.self.now in
    let t = outlined s in
    let m = c.args.marks in
    let k = c.loop-k.k in
    let i = c.loop-k.invariant in
    let here : c.line.result ≡ line t k = c.line.ensures.is ∙ ap₂ (λ (o : Outline) (j : ℕ). line (outlined o) j) c.at.ensures.outline c.at.ensures.number in
    let event : c.is_eventuality.result ≡ is_eventuality (line t k) = c.is_eventuality.ensures ∙ ap is_eventuality here in
    let next : eventuality t (k + 1) ≡ eventuality t k + cond (is_eventuality (line t k)) 1 0 = ap (eventuality t) (add-one k) ∙ ev_next t k in
    elim c.if-is_eventuality.branch [
      | then-is_eventuality w ↦
          let e : is_eventuality (line t k) ≡ true = cc (event, w.if-is_eventuality.true) in
          let n : eventuality t (k + 1) ≡ eventuality t k + 1 = next ∙ ap (λ (b : Bool). eventuality t k + cond {A = ℕ} b 1 0) e in
          let h : w.has.result ≡ is_marked t m k = w.has.ensures ∙ ap (has m) i.number ∙ sym (ap (λ (b : Bool). b && has m (eventuality t k)) e) in
          let turn : c.if-is_eventuality.lines ≡ cond w.has.result (add c.loop-k.lines k) c.loop-k.lines = elim w.if-has.branch [
            | then-has v ↦ let more = v.with-lines.ensures.within (omega (arith, s.high, c.loop-k-test.true)) in
                rw v.if-has.true (cc (w.lines-is, v.lines-is, more))
            | else-has v ↦ rw v.if-has.false (w.lines-is ∙ v.lines-is)
          ] in
          record {
            small = omega (arith, w.number-is, i.small);
            number = omega (arith, w.number-is, i.number, n);
            lines = set_turn (is_marked t m) k c.loop-k.lines _ w.has.result i.lines h turn;
          }
      | else-is_eventuality w ↦
          let e : is_eventuality (line t k) ≡ false = cc (event, w.if-is_eventuality.false) in
          let n : eventuality t (k + 1) ≡ eventuality t k + 0 = next ∙ ap (λ (b : Bool). eventuality t k + cond {A = ℕ} b 1 0) e in
          let h : false ≡ is_marked t m k = sym (ap (λ (b : Bool). b && has m (eventuality t k)) e) in
          record {
            small = omega (arith, w.number-is, i.small);
            number = omega (arith, w.number-is, i.number, n);
            lines = set_turn (is_marked t m) k c.loop-k.lines _ false i.lines h w.lines-is;
          }
    ]

pub returns-else-marks-ne0 : goal.returns-else-marks-ne0
returns-else-marks-ne0 c =
    let s = c.args.self.now in
    let t = outlined s in
    let z : c.args.marks ≡ 0 = omega (arith, c.if-marks-ne0.false) in
    sym (ap (λ (m : ℕ). set_of s.len (is_marked t m)) z ∙ unmarked t s.len)
