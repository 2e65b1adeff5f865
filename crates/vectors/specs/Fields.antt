-- What the fields of a row give.
use Rattle.std.specs.Prelude.{◌≡◌, ◌≢◌, ℕ, ◌≤◌, ◌⊎◌, List, [], length, slice_index, codes, decimal, Option, Some, None}
use Rattle.hexadecimal.specs.Hex.{spelled}

-- a field of bytes: a dash for none, or their digits
abbrev pub Gives : List ℕ → List ℕ → Type 0
Gives field bs = ((field ≡ codes "-") × (bs ≡ [])) ⊎ (spelled bs ≡ field)

-- a number's first byte: no sign, and no zero before another digit
abbrev pub IsPlain : List ℕ → Type 0
IsPlain field = (slice_index field 0 ≢ 43) × (slice_index field 0 ≡ 48 → length field ≤ 1)

-- the field of a value, a dash where it is not given
abbrev pub value_field : Option ℕ → List ℕ
value_field None = codes "-"
value_field (Some n) = decimal n
