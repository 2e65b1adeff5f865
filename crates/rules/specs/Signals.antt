-- Lists of signal names: which are lawful, and the number of a name.
use Rattle.std.specs.Prelude.{◌≡◌, ℕ, ◌+◌, ◌<◌, ◌≤◌, true, cond, List, [], ◌∷◌, ◌++◌, length, Some, None, Ok, Err, Option, Result, ◌≢◌, slice_index_or}
use Rattle.std.specs.Str.{bytes_eq}
use Rattle.rules.specs.declared.refusal.Refusal.{Refusal}
use Rattle.rules.specs.declared.refusal.Refusal.TheVariants.{List as BadList}
use Rattle.rules.specs.Letters.{in_word, is_name}

-- one more byte before the first word
abbrev pub longer : ℕ → List (List ℕ) → List (List ℕ)
longer b [] = (b ∷ []) ∷ []
longer b (w ∷ ws) = (b ∷ w) ∷ ws

-- the words between the spaces, empty ones too
abbrev pub words : List ℕ → List (List ℕ)
words [] = [] ∷ []
words (b ∷ bs) = cond (in_word b) (longer b (words bs)) ([] ∷ words bs)

-- the names of a list in their order; no bytes are no names
abbrev pub names : List ℕ → List (List ℕ)
names [] = []
names (b ∷ bs) = words (b ∷ bs)

-- names with one space between two
abbrev pub spaced : List (List ℕ) → List ℕ
spaced [] = []
spaced (w ∷ ws) = 32 ∷ (w ++ spaced ws)

abbrev pub joined : List (List ℕ) → List ℕ
joined [] = []
joined (w ∷ ws) = w ++ spaced ws

-- at most 16 names
abbrev pub Few : List (List ℕ) → Type 0
Few ns = length ns ≤ 16

-- each is a name
abbrev pub Proper : List (List ℕ) → Type 0
Proper ns = (k : ℕ) → k < length ns → is_name (slice_index_or ns k []) ≡ true

-- no name twice
abbrev pub Distinct : List (List ℕ) → Type 0
Distinct ns = (i j : ℕ) → i < j → j < length ns → slice_index_or ns i [] ≢ slice_index_or ns j []

-- a lawful list: 1 to 16 names, one space between two, no name twice
pub record Lawful (bytes : List ℕ) : Type 0 where
  pub some : 0 < length (names bytes)
  pub few : Few (names bytes)
  pub proper : Proper (names bytes)
  pub distinct : Distinct (names bytes)

-- what the list check answers
abbrev pub Checked : List ℕ → Result (Unit {0}) Refusal → Type 0
Checked bytes (Ok u) = Lawful bytes
Checked bytes (Err e) = (Lawful bytes → ⊥) × (e ≡ BadList)

-- the place of the first x in ws, counted from n
abbrev pub place_of : List ℕ → List (List ℕ) → ℕ → Option ℕ
place_of x [] n = None
place_of x (w ∷ ws) n = cond (bytes_eq w x) (Some n) (place_of x ws (n + 1))

-- the number of the signal called x
abbrev pub number_of : List ℕ → List ℕ → Option ℕ
number_of bytes x = place_of x (names bytes) 0

-- a look-up of x: its number, or that it is not there
abbrev pub Looked : List (List ℕ) → List ℕ → Option ℕ → Type 0
Looked ns x (Some k) = (k < length ns) × (slice_index_or ns k [] ≡ x)
Looked ns x None = (k : ℕ) → k < length ns → slice_index_or ns k [] ≢ x

-- the word w may be the name with the number n of the list
abbrev pub Fits : List ℕ → List ℕ → ℕ → Type 0
Fits bytes w n = (n < 16) × (is_name w ≡ true) × (number_of bytes w ≡ Some n)

-- each of the words, numbered from n, may
abbrev pub AllFit : List ℕ → List (List ℕ) → ℕ → Type 0
AllFit bytes ws n = (k : ℕ) → k < length ws → Fits bytes (slice_index_or ws k []) (n + k)
