-- The lines of a normal form: left side, right side, then the form itself; a form met again keeps its number.
use Rattle.std.specs.Prelude.{ℕ, suc, Bool, true, false, cond, ◌&&◌, [], ◌∷◌, ◌++◌, length, ◌==◌, nat_lt}
use Rattle.tables.specs.declared.line.Line.{Line}
use Rattle.tables.specs.Normal.{Normal}
use Rattle.tables.specs.Lines.{Lines}

-- two lines are the same when their kinds and operands are
abbrev pub kind : Line → ℕ
kind Line.True = 0
kind Line.False = 1
kind (Line.Literal s true) = 2
kind (Line.Literal s false) = 3
kind (Line.And i j) = 4
kind (Line.Or i j) = 5
kind (Line.Always i) = 6
kind (Line.Eventually i) = 7
kind (Line.Next i) = 8

abbrev pub left : Line → ℕ
left Line.True = 0
left Line.False = 0
left (Line.Literal s b) = s
left (Line.And i j) = i
left (Line.Or i j) = i
left (Line.Always i) = i
left (Line.Eventually i) = i
left (Line.Next i) = i

abbrev pub right : Line → ℕ
right Line.True = 0
right Line.False = 0
right (Line.Literal s b) = 0
right (Line.And i j) = j
right (Line.Or i j) = j
right (Line.Always i) = 0
right (Line.Eventually i) = 0
right (Line.Next i) = 0

unfoldable pub same : Line → Line → Bool
same x y = kind x == kind y && (left x == left y && right x == right y)

-- the number of a line: that of its equal, or else the next one
unfoldable pub find : Line → Lines → ℕ
find l [] = 0
find l (x ∷ t) = cond (same l x) 0 (suc (find l t))

-- the lines there are then, and the number of the one that was asked for
pub record Placed : Type 0 where
  pub table : Lines
  pub at : ℕ

unfoldable pub enter : Line → Lines → Placed
enter l t = record { table = cond (nat_lt (find l t) (length t)) t (t ++ (l ∷ [])); at = find l t }

-- one side, and then the line over it
unfoldable pub over : (ℕ → Line) → (Lines → Placed) → Lines → Placed
over l p t = let a = p t in enter (l a.at) a.table

-- left side, right side, and then the line over both
unfoldable pub join : (ℕ → ℕ → Line) → (Lines → Placed) → (Lines → Placed) → Lines → Placed
join l p q t = let a = p t in let b = q a.table in enter (l a.at b.at) b.table

-- a normal form, numbered after the lines that there are
unfoldable pub place : Normal → Lines → Placed
place Normal.top = enter Line.True
place Normal.bottom = enter Line.False
place (Normal.literal s b) = enter (Line.Literal s b)
place (Normal.and f g) = join Line.And (place f) (place g)
place (Normal.or f g) = join Line.Or (place f) (place g)
place (Normal.always f) = over Line.Always (place f)
place (Normal.eventually f) = over Line.Eventually (place f)
place (Normal.next f) = over Line.Next (place f)

-- the table of a normal form
abbrev pub tabled : Normal → Lines
tabled f = (place f []).table
