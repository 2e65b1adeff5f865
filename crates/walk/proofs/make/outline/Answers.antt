use Rattle.std.proofs.Common.{ℕ, ◌≤◌, true, List, length, count_ones, sym, ap, ◌∙◌, subst, arith, rules}
use Rattle.tables.specs.declared.line.Line.{Line}
use Rattle.graph.specs.Numbers.{choice_of, eventuality}
use Rattle.graph.specs.Pass.{everything}
use Rattle.graph.specs.Sets.{set_of}
use Rattle.walk.specs.Fits.{event_at, stays_at, and_at}
use Rattle.walk.proofs.Counts.{ones_first}
use Rattle.walk.proofs.Evs.{ev_le}
use Rattle.walk.proofs.Makes.{front_copied, fit_array}
use Rattle.walk.proofs.make.outline.Goals as goal

pub set_of-requires-3-clause-fits : goal.set_of-requires-3-clause-fits
set_of-requires-3-clause-fits c =
    let g = c.args.given.now in
    let e = c.set_of-eventualities.ensures (event_at g) (λ k b h p. search rules) in
    omega (arith, ap count_ones e, ones_first g (length g), ev_le g (length g), c.requires.lawful.few)

pub invariant_of-result : goal.invariant_of-result
unfolding everything
invariant_of-result c =
    let g = c.args.given.now in
    let e = c.set_of-eventualities.ensures (event_at g) (λ k b h p. search rules) in
    let s = c.set_of.ensures (stays_at g) (λ k b h p. search rules) in
    let a = c.set_of-2.ensures (and_at g) (λ k b h p. search rules) in
    let v = c.set_of-3.ensures (λ e. true) (λ k b h p. search rules) ∙ ap (λ (x : ℕ). set_of x (λ e. true)) (ap count_ones e ∙ ones_first g (length g)) in
    let w = front_copied _ _ g c.copy_from_slice.ensures.after in
    record {
      low = omega (arith, c.requires.lawful.some);
      high = c.requires.lawful.short;
      fit = fit_array _ g w c.requires.lawful.earlier c.requires.narrow;
      few = subst (λ (ls : List Line). choice_of ls (length g) ≤ 16) (sym w) c.requires.lawful.few;
      whole = ap length w;
      events = e ∙ ap (λ (ls : List Line). set_of (length g) (event_at ls)) (sym w);
      staying = s ∙ ap (λ (ls : List Line). set_of (length g) (stays_at ls)) (sym w);
      joining = a ∙ ap (λ (ls : List Line). set_of (length g) (and_at ls)) (sym w);
      every = v ∙ ap (λ (ls : List Line). set_of (eventuality ls (length ls)) (λ e. true)) (sym w);
    }
