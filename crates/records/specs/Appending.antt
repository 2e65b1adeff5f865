-- What the writer has appended to the bytes of its buffer.
use Rattle.std.specs.Prelude.{◌≡◌, ℕ, ◌+◌, ◌≤◌, List, [], ◌∷◌, ◌++◌, length, take, drop}
use Rattle.records.specs.declared.writer.Writer.{Writer}
use Rattle.records.specs.Claims.{big, listed}

-- xs with ys written from place i on
unfoldable pub put : List ℕ → ℕ → List ℕ → List ℕ
put xs i ys = take i xs ++ (ys ++ drop (i + length ys) xs)

-- there is room for n more bytes
abbrev pub Room : Writer → ℕ → Type 0
Room w n = w.at + n ≤ length w.buffer.now

-- ys was written at the writer's place, and nothing else changed
pub record Wrote (before after : Writer) (ys : List ℕ) : Type 0 where
  pub bytes : after.buffer.now ≡ put before.buffer.now before.at ys
  pub at : after.at ≡ before.at + length ys
  pub room : length after.buffer.now ≡ length before.buffer.now
  pub lender : after.buffer.ghost_name ≡ before.buffer.ghost_name

-- how the record of a run begins
unfoldable pub opening : List ℕ → List ℕ
opening [] = 2 ∷ []
opening (m ∷ lead) = 3 ∷ listed (big 2) (m ∷ lead)
