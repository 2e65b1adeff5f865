-- Bytes in hexadecimal, two small digits for each.
use Rattle.std.specs.Prelude.{◌≡◌, ℕ, ◌+◌, ◌/◌, ◌%◌, ◌<◌, ◌⊎◌, cond, List, [], ◌∷◌, Some, None, Option, ◌≢◌, nat_lt}
use Rattle.hexadecimal.specs.declared.HexFault.{HexFault}
use Rattle.hexadecimal.specs.declared.HexFault.TheVariants.{Digits, Memory}
use Rattle.hex.specs.declared.error.FromHexError.{FromHexError}
use Rattle.hex.specs.declared.error.FromHexError.TheVariants.{InvalidHexCharacter, OddLength, InvalidStringLength, OutOfMemory}

-- the digit of a value below 16: 0 to 9, then a to f
abbrev pub figure : ℕ → ℕ
figure d = cond (nat_lt d 10) (48 + d) (87 + d)

-- the digits of bytes
abbrev pub spelled : List ℕ → List ℕ
spelled [] = []
spelled (b ∷ bs) = figure (b / 16) ∷ (figure (b % 16) ∷ spelled bs)

-- no capital
abbrev pub IsSmall : ℕ → Type 0
IsSmall c = (c < 65) ⊎ (90 < c)

-- the value whose digit b is, or that it is none
abbrev pub Valued : ℕ → Option ℕ → Type 0
Valued b None = (d : ℕ) → d < 16 → figure d ≢ b
Valued b (Some d) = (d < 16) × (figure d ≡ b)

-- the byte that two digits spell
abbrev pub Paired : ℕ → ℕ → Option ℕ → Type 0
Paired h l None = (b : ℕ) → b < 256 → figure (b / 16) ≡ h → figure (b % 16) ≢ l
Paired h l (Some b) = (figure (b / 16) ≡ h) × (figure (b % 16) ≡ l)

abbrev pub Bytes : List ℕ → Type 0
Bytes [] = Unit {0}
Bytes (b ∷ bs) = (b < 256) × Bytes bs

-- why there are no bytes: the digits spell none, or memory is wanting
abbrev pub Unspelled : List ℕ → HexFault → Type 0
Unspelled digits Digits = (bs : List ℕ) → Bytes bs → spelled bs ≢ digits
Unspelled digits Memory = Unit {0}

-- what the decoder's errors say here
abbrev pub fault_of : FromHexError → HexFault
fault_of (InvalidHexCharacter c index) = Digits
fault_of OddLength = Digits
fault_of InvalidStringLength = Digits
fault_of OutOfMemory = Memory
