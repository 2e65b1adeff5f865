-- The laws that the contracts state, from the lemmas.
use Rattle.std.proofs.Common.{refl}
use Rattle.tables.specs.Normal.{Normal}
use Rattle.tables.specs.Lines.{Lines, number, Earlier, Apart}
use Rattle.tables.specs.Numbering.{same, find, enter, over, join, place}
use Rattle.tables.specs.Laws.{Numbers, Laws}
use Rattle.tables.specs.Rows.{Rows}
use Rattle.tables.proofs.Places.{Tidy, placed, met_again}
use Rattle.tables.proofs.Growth.{adds_lines, adds_choices}
use Rattle.tables.proofs.Duals.{nnf_dual}
use Rattle.tables.proofs.Limited.{broken_length, broken_choices}
use Rattle.tables.proofs.Normals.{normal_sound}
use Rattle.tables.proofs.Determined.{alone}

pub rows_hold : Rows
unfolding place join over enter find same number
rows_hold = refl

numbers : (F : Normal) (t : Lines) → Earlier t → Apart t → Numbers F t
numbers F t o d =
    let tidy : Tidy t = record { earlier = o; apart = d } in
    let r = placed F t tidy in
    record {
      kept = (r.more, r.extends);
      earlier = r.tidy.earlier;
      apart = r.tidy.apart;
      within = r.within;
      stands = r.means;
      last = r.grown;
      again = met_again F t tidy;
      lines = adds_lines F t tidy;
      choices = adds_choices F t tidy;
    }

pub laws_hold : Laws
laws_hold = record {
  duality = record { form = nnf_dual; lines = broken_length; choices = broken_choices };
  truth = record { plainly = λ f r i. (normal_sound f r i).0; negated = λ f r i. (normal_sound f r i).1 };
  numbers = numbers;
  determined = alone;
}
