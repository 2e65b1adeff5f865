-- Kinds of bytes, and names.
use Rattle.std.specs.Prelude.{◌≡◌, ℕ, ◌+◌, Bool, not, ◌&&◌, ◌||◌, List, length, drop, ◌==◌, nat_le, nat_lt, slice_index}
use Rattle.std.specs.List.{prefix_len}

-- a to z
abbrev pub small : ℕ → Bool
small b = nat_le 97 b && nat_le b 122

-- a small letter, or 0 to 9
abbrev pub in_name : ℕ → Bool
in_name b = small b || (nat_le 48 b && nat_le b 57)

-- a space or a line feed: these may stand around tokens
abbrev pub blank : ℕ → Bool
blank b = b == 32 || b == 10

-- a byte that is not the space between two names
abbrev pub in_word : ℕ → Bool
in_word b = not (b == 32)

-- whatever a call may answer at a byte is what the test says of it
abbrev pub Computes : (ℕ → Bool → Type 0) → (ℕ → Bool) → Type 0
Computes post test = (byte : ℕ) (answer : Bool) → post byte answer → answer ≡ test byte

-- the end of the bytes from i on that pass a test
abbrev pub run_end : (ℕ → Bool) → List ℕ → ℕ → ℕ
run_end p text i = i + prefix_len p (drop i text)

-- the end of the letters and digits from i on
abbrev pub name_end : List ℕ → ℕ → ℕ
name_end = run_end in_name

-- a name: 1 to 8 small letters and digits, a letter first
abbrev pub is_name : List ℕ → Bool
is_name w = nat_lt 0 (length w) && (nat_le (length w) 8 && (small (slice_index w 0) && prefix_len in_name w == length w))
