-- What a memo knows of the lines of a rule's entries.
use Rattle.std.specs.Prelude.{◌≡◌, ℕ, ◌<◌, Bool, cond, [], length, Some, None, Option, slice_index_or, slice_set}
use Rattle.std.specs.Coded.{Π_prop, ×_prop, le_prop}
use Rattle.rules.specs.Formula.{Formula}
use Rattle.tables.specs.declared.memo.Memo.{Memo}
use Rattle.tables.specs.Normal.{Normal-set, nnf}
use Rattle.tables.specs.Lines.{Lines, form}

-- the place of a sign beside an entry
abbrev pub place_of : Bool → ℕ
place_of b = cond b 1 0

abbrev pub known : Memo → Bool → ℕ → Option ℕ
known m b i = slice_index_or (slice_index_or m.numbers i []) (place_of b) None

abbrev pub learnt : Memo → Bool → ℕ → ℕ → Memo
learnt m b i k = record { numbers = slice_set m.numbers i (slice_set (slice_index_or m.numbers i []) (place_of b) (Some k)) }

-- each line that is known of an entry stands for the entry's form, where f tells the entries' formulas
abbrev pub Remembers : (ℕ → Formula) → Memo → Lines → Type 0
Remembers f m t = (b : Bool) (i k : ℕ) → known m b i ≡ Some k → (k < length t) × (form t k ≡ nnf b (f i))

pub Remembers-prop : (f : ℕ → Formula) (m : Memo) (t : Lines) → IsProp (Remembers f m t)
Remembers-prop f m t = Π_prop λ b. Π_prop λ i. Π_prop λ k. Π_prop λ e. ×_prop le_prop (Normal-set (form t k) (nnf b (f i)))
