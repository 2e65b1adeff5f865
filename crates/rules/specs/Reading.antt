-- The next token of a text: which one, where it stands, and where the reader stands after it.
use Rattle.std.specs.Prelude.{◌≡◌, ℕ, ◌+◌, ◌<◌, true, List, length, Some, None, Ok, Err, Option, Result, slice_index, slice_range}
use Rattle.rules.specs.declared.refusal.FaultKind.{FaultKind}
use Rattle.rules.specs.declared.refusal.FaultKind.TheVariants.{Letter, Signal as Unlisted, Form as Misplaced}
use Rattle.rules.specs.declared.refusal.Fault.{Fault}
use Rattle.rules.specs.declared.reader.Token.{Token}
use Rattle.rules.specs.declared.reader.Token.TheVariants.{Name, True as TrueToken, False as FalseToken, Unary as UnaryToken, Binary as BinaryToken, Open as OpenToken, Close as CloseToken}
use Rattle.rules.specs.declared.syntax.Atom.TheVariants.{True, False, Signal}
use Rattle.rules.specs.declared.syntax.Unary.{Unary}
use Rattle.rules.specs.declared.syntax.Unary.TheVariants.{Not, Always, Eventually, Next}
use Rattle.rules.specs.declared.syntax.Binary.{Binary}
use Rattle.rules.specs.declared.syntax.Binary.TheVariants.{And, Or, Implies, Equivalent}
use Rattle.rules.specs.declared.syntax.Word.{Word}
use Rattle.rules.specs.declared.syntax.Word.TheVariants.{Leaf, Prefix, Infix, Open, Close}
use Rattle.rules.specs.Signals.{number_of}
use Rattle.rules.specs.Letters.{small, blank, run_end, name_end}
use Rattle.rules.specs.Text.{class, other, lexed, done, stop, word}

-- the first byte at i or later that is no blank
abbrev pub begin : List ℕ → ℕ → ℕ
begin = run_end blank

-- the bytes from i to j
abbrev pub part : List ℕ → ℕ → ℕ → List ℕ
part text i j = slice_range text i j

-- ~ A E N
abbrev pub unary_sign : Unary → ℕ
unary_sign Not = 126
unary_sign Always = 65
unary_sign Eventually = 69
unary_sign Next = 78

-- & | > =
abbrev pub binary_sign : Binary → ℕ
binary_sign And = 38
binary_sign Or = 124
binary_sign Implies = 62
binary_sign Equivalent = 61

-- the byte b stands alone at i, and j is past it
abbrev pub Byte : List ℕ → ℕ → ℕ → ℕ → Type 0
Byte text i j b = (slice_index text i ≡ b) × (j ≡ i + 1)

-- the token is the part of the text from i to j
abbrev pub Stands : List ℕ → List ℕ → ℕ → ℕ → Token → Type 0
Stands ns text i j (Name s k) = (small (slice_index text i) ≡ true) × (j ≡ name_end text i) × (s.now ≡ part text i j) × (number_of ns (part text i j) ≡ Some k)
Stands ns text i j TrueToken = Byte text i j 84
Stands ns text i j FalseToken = Byte text i j 70
Stands ns text i j (UnaryToken u) = Byte text i j (unary_sign u)
Stands ns text i j (BinaryToken b) = Byte text i j (binary_sign b)
Stands ns text i j OpenToken = Byte text i j 40
Stands ns text i j CloseToken = Byte text i j 41

-- how many bytes a token takes
abbrev pub width : Token → ℕ
width (Name s k) = length s.now
width TrueToken = 1
width FalseToken = 1
width (UnaryToken u) = 1
width (BinaryToken b) = 1
width OpenToken = 1
width CloseToken = 1

-- what is wrong at i
abbrev pub Faulty : List ℕ → List ℕ → ℕ → FaultKind → Type 0
Faulty ns text i Letter = class (slice_index text i) ≡ other
Faulty ns text i Unlisted = (small (slice_index text i) ≡ true) × (number_of ns (part text i (name_end text i)) ≡ None)
Faulty ns text i Misplaced = ⊥

-- the reader stood at i, answered this without fault, and stands at j
abbrev pub Handed : List ℕ → List ℕ → ℕ → Option (ℕ × Token) → ℕ → Type 0
Handed ns text i None j = (begin text i ≡ length text) × (j ≡ length text)
Handed ns text i (Some p) j = (p.0 ≡ begin text i) × (p.0 < length text) × Stands ns text p.0 j p.1

-- the reader stood at i, answered r, and stands at j
abbrev pub Reads : List ℕ → List ℕ → ℕ → Result (Option (ℕ × Token)) Fault → ℕ → Type 0
Reads ns text i (Ok o) j = Handed ns text i o j
Reads ns text i (Err f) j = (f.offset ≡ begin text i) × (f.offset < length text) × (j ≡ f.offset) × Faulty ns text f.offset f.kind

-- the word that a token is
abbrev pub word_of : Token → Word
word_of (Name s k) = Leaf (Signal k)
word_of TrueToken = Leaf True
word_of FalseToken = Leaf False
word_of (UnaryToken u) = Prefix u
word_of (BinaryToken b) = Infix b
word_of OpenToken = Open
word_of CloseToken = Close

-- the text says from i on what was answered, and then what it says from j on
abbrev pub Says : List ℕ → List ℕ → ℕ → Result (Option (ℕ × Token)) Fault → ℕ → Type 0
Says ns text i (Ok None) j = lexed ns text i ≡ done
Says ns text i (Ok (Some p)) j = lexed ns text i ≡ word p.0 (word_of p.1) (lexed ns text j)
Says ns text i (Err f) j = lexed ns text i ≡ stop f.kind f.offset

-- the bytes that a token lends
abbrev pub Lends : Token → List ℕ → Type 0
Lends (Name s k) bytes = s.now ≡ bytes
Lends TrueToken bytes = Unit {0}
Lends FalseToken bytes = Unit {0}
Lends (UnaryToken u) bytes = Unit {0}
Lends (BinaryToken b) bytes = Unit {0}
Lends OpenToken bytes = Unit {0}
Lends CloseToken bytes = Unit {0}

-- two answers of a reader are the same
abbrev pub Alike : Result (Option (ℕ × Token)) Fault → Result (Option (ℕ × Token)) Fault → Type 0
Alike (Ok None) (Ok None) = Unit {0}
Alike (Ok None) (Ok (Some q)) = ⊥
Alike (Ok (Some p)) (Ok None) = ⊥
Alike (Ok (Some p)) (Ok (Some q)) = (p.0 ≡ q.0) × (word_of p.1 ≡ word_of q.1) × ((bytes : List ℕ) × Lends p.1 bytes × Lends q.1 bytes)
Alike (Ok None) (Err f) = ⊥
Alike (Ok (Some p)) (Err f) = ⊥
Alike (Err f) (Ok None) = ⊥
Alike (Err f) (Ok (Some q)) = ⊥
Alike (Err f) (Err g) = (f.kind ≡ g.kind) × (f.offset ≡ g.offset)

-- two answers that fit the text there are the same, and leave the reader in the same place
abbrev pub ReadsDetermined : Type 0
ReadsDetermined =
    (ns text : List ℕ) (i : ℕ) (r q : Result (Option (ℕ × Token)) Fault) (j k : ℕ) → Reads ns text i r j → Reads ns text i q k → Alike r q × (j ≡ k)
