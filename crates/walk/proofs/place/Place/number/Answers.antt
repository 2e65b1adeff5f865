use Rattle.std.proofs.Common.{ℕ, ◌-◌, ◌<◌, count_ones, sym, ap, ◌∙◌, subst, arith}
use lib.Bits.{bit_and}
use Rattle.std.proofs.lemmas.Nat.{one_shl}
use Rattle.walk.specs.Outlines.{outlined}
use Rattle.walk.proofs.Counts.{ones_below}
use Rattle.walk.proofs.Evs.{ev_small}
use Rattle.walk.proofs.place.Place.number.Goals as goal

pub returns : goal.returns
returns c =
    let s = c.args.self.now in
    let o = s.outline.now in
    let is = ap (λ (x : ℕ). count_ones (bit_and o.eventualities (x - 1))) (one_shl s.k 128 (omega arith))
    ∙ ones_below (outlined o) o.len s.k o.eventualities (omega arith) o.events in
    record {
      is = is;
      small = λ h. subst (λ (x : ℕ). x < 16) (sym is) (ev_small (outlined o) s.k o.len s.within o.few h);
    }
