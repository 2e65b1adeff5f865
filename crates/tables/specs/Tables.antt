-- The lines that the code's tables hold.
use Rattle.std.specs.Prelude.{◌≡◌, ℕ, ◌<◌, ◌≤◌, true, cond, length, take, Some, None, Option, ◌≢◌}
use Rattle.tables.specs.declared.line.Line.{Line}
use Rattle.tables.specs.declared.table.Table.{Table}
use Rattle.tables.specs.declared.table.Draft.{Draft}
use Rattle.tables.specs.Lines.{Lines, line, under, is_eventuality, number, Lawful}
use Rattle.tables.specs.Numbering.{Placed}

-- the lines that are drafted
abbrev pub drafted : Draft → Lines
drafted d = take d.len d.lines

-- the lines of a table
abbrev pub lines_of : Table → Lines
lines_of t = drafted t.draft

-- a line that may come next: there is room, its operands are there, and it is new
abbrev pub Next : Lines → Line → Type 0
Next t l = (length t < 121) × (under (length t) l ≡ true) × ((k : ℕ) → k < length t → line t k ≢ l)

-- a table can be made of just the lawful lines
abbrev pub MadeOf : Lines → Option Table → Type 0
MadeOf ls (Some t) = Lawful ls × (lines_of t ≡ ls)
MadeOf ls None = Lawful ls → ⊥

-- the line with the number k
abbrev pub At : Lines → ℕ → Option Line → Type 0
At t k (Some l) = (k < length t) × (l ≡ line t k)
At t k None = length t ≤ k

-- the number of line k among the eventualities, where it is one
abbrev pub eventuality : Lines → ℕ → Option ℕ
eventuality t k = cond (is_eventuality (line t k)) (Some (number is_eventuality t k)) None

-- the numbering goes from the lines t to the lines u and answers a number, or there would be over 121 lines
abbrev pub Goes : Placed → Lines → Option ℕ → Type 0
Goes p u (Some k) = p ≡ record { table = u; at = k }
Goes p u None = 121 < length p.table

-- the same, where the lines after it are handed out in a draft beside the number
abbrev pub Leads : Placed → Option (Draft × ℕ) → Type 0
Leads p (Some r) = p ≡ record { table = drafted r.0; at = r.1 }
Leads p None = 121 < length p.table
