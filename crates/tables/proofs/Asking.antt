-- The table of a question, and what it says.
use Rattle.std.proofs.Common.{◌≡◌, ℕ, ◌-◌, ◌<◌, ◌≤◌, Bool, true, false, ◌↔◌, List, [], length, Ok, Err, Result, Some, None, Option, IsSome, rules, sym, refl, ap, ◌∙◌, subst, ap₂, inr, arith}
use Rattle.rules.specs.declared.refusal.Refusal.{Refusal}
use Rattle.rules.specs.Formula.{Formula}
use Rattle.rules.specs.Runs.{Holds, Run, at}
use Rattle.rules.specs.Rules.{formula_of}
use Rattle.rules.specs.Signals.{Lawful}
use Rattle.tables.specs.declared.limits.NormalRule.{NormalRule}
use Rattle.tables.specs.declared.question.Question.{Question}
use Rattle.tables.specs.declared.table.Draft.{Draft}
use Rattle.tables.specs.declared.line.Line.{Line}
use Rattle.tables.specs.Normal.{Normal, plain, nnf}
use Rattle.tables.specs.Lines.{Lines, under, form, choices}
use Rattle.tables.specs.Numbering.{Placed, enter, place, tabled}
use Rattle.tables.specs.Tables.{drafted, Goes}
use Rattle.tables.specs.Questions.{Asked, keeps, breaks, both, form_of, Meets, Lists, Asks, QuestionOf, StrictlyOf}
use Rattle.tables.proofs.Forms.{form_once}
use Rattle.tables.proofs.Places.{Tidy, none_tidy, placed}
use Rattle.tables.proofs.Growth.{joined_lines, joined_choices, adds_lines}
use Rattle.tables.proofs.Limited.{broken_length}
use Rattle.tables.proofs.Laid.{both_number_under, and_place}
use Rattle.tables.proofs.Normals.{normal_sound}

-- a normal form is its own
nnf_plain : (F : Normal) → nnf true (plain F) ≡ F
nnf_plain Normal.top = refl
nnf_plain Normal.bottom = refl
nnf_plain (Normal.literal s true) = refl
nnf_plain (Normal.literal s false) = refl
nnf_plain (Normal.and f g) = ap₂ Normal.and (nnf_plain f) (nnf_plain g)
nnf_plain (Normal.or f g) = ap₂ Normal.or (nnf_plain f) (nnf_plain g)
nnf_plain (Normal.always f) = ap Normal.always (nnf_plain f)
nnf_plain (Normal.eventually f) = ap Normal.eventually (nnf_plain f)
nnf_plain (Normal.next f) = ap Normal.next (nnf_plain f)

plain_once : (F G : Normal) → plain F ≡ plain G → F ≡ G
plain_once F G e = sym (nnf_plain F) ∙ ap (nnf true) e ∙ nnf_plain G

lists : (F : Normal) → Lists F (tabled F)
lists F =
    let r = placed F [] none_tidy in
    let t : Lines = tabled F in
    let last : length t - 1 ≡ (place F []).at = omega (arith, r.within, r.grown (omega (arith, r.within))) in
    record {
      every = r.all;
      only = λ k h. r.parts k (omega arith) h;
      once = λ i j p q e. form_once t r.tidy.earlier r.tidy.apart i j p q (plain_once (form t i) (form t j) e);
      last = ap plain (ap (form t) last ∙ r.means);
    }

form_meets : (a : Asked) (r : Run) (i : ℕ) → Holds (plain (form_of a)) (at r) i ↔ Meets a (at r) i
form_meets (keeps x) r i = (normal_sound x r i).0
form_meets (breaks y) r i = (normal_sound y r i).1
form_meets (both x y) r i =
    let X = (normal_sound x r i).0 in
    let Y = (normal_sound y r i).1 in
    (λ h. (X.0 h.0, Y.0 h.1), λ h. (X.1 h.0, Y.1 h.1))

asks_tabled : (a : Asked) → Asks a (tabled (form_of a))
asks_tabled a =
    record {
      numbered = refl;
      lists = lists (form_of a);
      meets = λ r i. subst (λ (f : Formula). Holds f (at r) i ↔ Meets a (at r) i) (sym (lists (form_of a)).last) (form_meets a r i);
    }

pub asks : (a : Asked) (t : Lines) → t ≡ tabled (form_of a) → Asks a t
asks a t e = subst (Asks a) (sym e) (asks_tabled a)

-- the tables of rules within the limits are small
pub alone_short : (r : NormalRule) (b : Bool) → length (tabled (nnf b (formula_of r.rule))) ≤ 60
alone_short r true = r.short
alone_short r false = omega (arith, r.short, broken_length (formula_of r.rule))

pub alone_few : (r : NormalRule) (b : Bool) → choices (tabled (nnf b (formula_of r.rule))) ≤ 8
alone_few r true = r.few
alone_few r false = r.dually

pub both_short : (x y : NormalRule) → length (tabled (form_of (both (formula_of x.rule) (formula_of y.rule)))) ≤ 121
both_short x y = omega (arith, joined_lines (nnf true (formula_of x.rule)) (nnf false (formula_of y.rule)), alone_short x true, alone_short y false)

pub both_few : (x y : NormalRule) → choices (tabled (form_of (both (formula_of x.rule) (formula_of y.rule)))) ≤ 16
both_few x y = omega (arith, joined_choices (nnf true (formula_of x.rule)) (nnf false (formula_of y.rule)), alone_few x true, alone_few y false)

pub tabled_some : (F : Normal) → 0 < length (tabled F)
tabled_some F = omega (arith, (placed F [] none_tidy).within)

-- both rules fit into one table
pub second_fits : (x y : NormalRule) (t : Lines) → Tidy t → t ≡ tabled (nnf true (formula_of x.rule)) → length (place (nnf false (formula_of y.rule)) t).table ≤ 121
second_fits x y t d e = omega (arith, adds_lines (nnf false (formula_of y.rule)) t d, ap length e, alone_short x true, alone_short y false)

-- both sides were numbered, one after the other, from nothing
module _ (x y : NormalRule) (s d u : Draft) (a b : ℕ) (none : drafted s ≡ [])
    (left : place (nnf true (formula_of x.rule)) (drafted s) ≡ record { table = drafted d; at = a })
    (right : place (nnf false (formula_of y.rule)) (drafted d) ≡ record { table = drafted u; at = b }) where
  pub both_under : under u.len (Line.And a b) ≡ true
  both_under = both_number_under s d u a b _ _ left right

  pub both_placed : place (form_of (both (formula_of x.rule) (formula_of y.rule))) [] ≡ enter (Line.And a b) (drafted u)
  both_placed = and_place _ _ (drafted s) (drafted d) (drafted u) a b none left right

  -- so the line over both fits, and is the last of a table
  pub both_fit : (v : Draft) (r : Option ℕ) → Goes (enter (Line.And a b) (drafted u)) (drafted v) r → IsSome r
  both_fit v (Some k) h = search rules
  both_fit v None h = absurd (omega (arith, h, ap (λ (p : Placed). length p.table) both_placed, both_short x y))

  pub both_tabled : (v : Draft) (k : ℕ) → Goes (enter (Line.And a b) (drafted u)) (drafted v) (Some k) → drafted v ≡ tabled (form_of (both (formula_of x.rule) (formula_of y.rule)))
  both_tabled v k h = sym (ap (λ (p : Placed). p.table) (both_placed ∙ h))

-- a list that is lawful is read as it stands
pub strictly : (ns ls x y : List ℕ) (r : Result Question Refusal) → Lawful ns → ls ≡ ns → QuestionOf ls x y r → StrictlyOf ns x y r
strictly ns ls x y (Ok q) l e h = (l, subst (λ (n : List ℕ). QuestionOf n x y (Ok q)) e h)
strictly ns ls x y (Err r) l e h = inr (l, subst (λ (n : List ℕ). QuestionOf n x y (Err r)) e h)
