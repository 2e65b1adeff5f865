-- Reading a rule text: the formula that it spells, or its first fault.
use Rattle.std.specs.Prelude.{◌≡◌, ℕ, ◌+◌, ◌-◌, ◌<◌, ◌≤◌, ◌⊎◌, List, length, take, Some, Ok, Err, Result, slice_index_or}
use Rattle.rules.specs.declared.refusal.FaultKind.{FaultKind}
use Rattle.rules.specs.declared.refusal.Fault.{Fault}
use Rattle.rules.specs.declared.refusal.Refusal.{Refusal}
use Rattle.rules.specs.declared.refusal.Refusal.TheVariants.{Length}
use Rattle.rules.specs.declared.syntax.Entry.{Entry}
use Rattle.rules.specs.declared.arena.Rule.{Rule}
use Rattle.rules.specs.declared.reader.Reader.{Reader}
use Rattle.rules.specs.Refusals.{refusal_of}
use Rattle.rules.specs.Formula.{Formula, spell, size}
use Rattle.rules.specs.Runs.{Run, Keeps, Breaks}
use Rattle.rules.specs.Text.{lexed}
use Rattle.rules.specs.Entries.{nothing, Ordered, meaning, last_meaning, Stands}
use Rattle.rules.specs.Owed.{formula, said, Splits, OwedExact}
use Rattle.rules.specs.First.{FirstFault, FaultFirst, FirstOnly}
use Rattle.rules.specs.Reading.{ReadsDetermined}
use Rattle.rules.specs.Words.{Refuses, ahead}

-- between the two readers the text spells the formula of entry r, the last of the entries ys, which go on the entries xs
pub record Formed (old new : Reader) (xs ys : List Entry) (r : ℕ) : Type 0 where
  pub last : r + 1 ≡ length ys
  pub grown : length ys ≡ length xs + size (meaning ys (length ys) r)
  pub kept : take (length xs) ys ≡ xs
  pub few : length ys + old.at ≤ length xs + new.at
  pub spelled : Splits (ahead old) (spell (meaning ys (length ys) r)) (ahead new)

abbrev pub Parses : Reader → List Entry → Result ℕ Fault → Reader → List Entry → Type 0
Parses old xs (Ok r) new ys = Formed old new xs ys r
Parses old xs (Err f) new ys = Refuses old formula f

-- the formula that a rule is
abbrev pub formula_of : Rule → Formula
formula_of r = last_meaning r.arena

-- the text spells the formula f
abbrev pub Spells : List ℕ → List ℕ → Formula → Type 0
Spells ns text f = said (lexed ns text 0) ≡ Some (spell f)

-- the text's first fault
abbrev pub Faults : List ℕ → List ℕ → FaultKind → ℕ → Type 0
Faults ns text k o = FirstFault (length text) (lexed ns text 0) k o

-- a text of any length is one formula, or has a first fault
abbrev pub Whole : List ℕ → List ℕ → Result Rule Fault → Type 0
Whole ns text (Ok r) = Spells ns text (formula_of r)
Whole ns text (Err f) = Faults ns text f.kind f.offset

-- 1 to 512 bytes
abbrev pub Lengthy : List ℕ → Type 0
Lengthy text = (0 < length text) × (length text ≤ 512)

-- why a text is refused: its length, else its first fault
abbrev pub Refused : List ℕ → List ℕ → Refusal → Type 0
Refused ns text e =
    ((Lengthy text → ⊥) × (e ≡ Length))
    ⊎ (Lengthy text × ((k : FaultKind) × (o : ℕ) × (e ≡ refusal_of k o) × Faults ns text k o))

-- what the reading of a rule text answers
abbrev pub ReadAs : List ℕ → List ℕ → Result Rule Refusal → Type 0
ReadAs ns text (Ok r) = Lengthy text × Spells ns text (formula_of r)
ReadAs ns text (Err e) = Refused ns text e

-- two answers say the same
abbrev pub Same : Result Rule Refusal → Result Rule Refusal → Type 0
Same (Ok p) (Ok q) = formula_of p ≡ formula_of q
Same (Ok p) (Err e) = ⊥
Same (Err d) (Ok q) = ⊥
Same (Err d) (Err e) = d ≡ e

-- no other answer fits the text
abbrev pub Alone : List ℕ → List ℕ → Result Rule Refusal → Type 0
Alone ns text r = (q : Result Rule Refusal) → ReadAs ns text q → Same r q

-- a rule that was read divides the runs: each keeps it or breaks it
abbrev pub Divides : Result Rule Refusal → Type 0
Divides (Ok r) = (w : Run) → Keeps (formula_of r) w ⊎ Breaks (formula_of r) w
Divides (Err e) = Unit {0}

-- the entries of a rule, one by one
pub record Shows (r : Rule) (xs : List Entry) : Type 0 where
  pub some : 0 < length xs
  pub few : length xs ≤ 512
  pub ordered : Ordered xs (length xs)
  pub last : meaning xs (length xs) (length xs - 1) ≡ formula_of r
  pub each : (i : ℕ) → i < length xs → Stands (meaning xs (length xs)) (slice_index_or xs i nothing) (meaning xs (length xs) i)

-- the laws of the definitions of reading
pub record Grammar : Type 0 where
  pub owed : OwedExact
  pub first : FaultFirst
  pub only : FirstOnly
  pub token : ReadsDetermined
