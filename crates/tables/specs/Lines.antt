-- Tables of lines: each line is a normal form over earlier lines.
use Rattle.std.specs.Prelude.{◌≡◌, ℕ, zero, suc, ◌-◌, ◌<◌, ◌≤◌, Bool, true, false, cond, ◌&&◌, List, [], ◌∷◌, ◌++◌, length, get_or, ◌≢◌, nat_lt, slice_index_or}
use Rattle.rules.specs.Formula.{Formula}
use Rattle.tables.specs.declared.line.Line.{Line}
use Rattle.tables.specs.Normal.{Normal, plain}

abbrev pub Lines : Type 0
Lines = List Line

abbrev pub line : Lines → ℕ → Line
line t k = slice_index_or t k Line.True

-- the operands of a line are lines below k
abbrev pub under : ℕ → Line → Bool
under k Line.True = true
under k Line.False = true
under k (Line.Literal s b) = true
under k (Line.And i j) = nat_lt i k && nat_lt j k
under k (Line.Or i j) = nat_lt i k && nat_lt j k
under k (Line.Always i) = nat_lt i k
under k (Line.Eventually i) = nat_lt i k
under k (Line.Next i) = nat_lt i k

-- operands are earlier lines
abbrev pub Earlier : Lines → Type 0
Earlier t = (k : ℕ) → k < length t → under k (line t k) ≡ true

-- no two lines are alike
abbrev pub Apart : Lines → Type 0
Apart t = (i j : ℕ) → i < j → j < length t → line t i ≢ line t j

-- the normal form that a line is, given those of the earlier lines
abbrev pub build : Line → (ℕ → Normal) → Normal
build Line.True f = Normal.top
build Line.False f = Normal.bottom
build (Line.Literal s b) f = Normal.literal s b
build (Line.And i j) f = Normal.and (f i) (f j)
build (Line.Or i j) f = Normal.or (f i) (f j)
build (Line.Always i) f = Normal.always (f i)
build (Line.Eventually i) f = Normal.eventually (f i)
build (Line.Next i) f = Normal.next (f i)

-- a value for each line, from the first on, by the values of the earlier lines
unfoldable pub values : {A : Type 0} → A → (Line → (ℕ → A) → A) → Lines → List A → List A
values d b [] done = done
values d b (l ∷ t) done = values d b t (done ++ (b l (λ i. get_or done i d) ∷ []))

-- the normal form that line k stands for
unfoldable pub form : Lines → ℕ → Normal
form t k = slice_index_or (values Normal.top build t []) k Normal.top

-- the formula that line k stands for, and that of the whole table: its last line's
abbrev pub formula : Lines → ℕ → Formula
formula t k = plain (form t k)

abbrev pub root : Lines → Formula
root t = formula t (length t - 1)

-- lines of ∨ and ◇ are choice lines
abbrev pub is_choice : Line → Bool
is_choice Line.True = false
is_choice Line.False = false
is_choice (Line.Literal s b) = false
is_choice (Line.And i j) = false
is_choice (Line.Or i j) = true
is_choice (Line.Always i) = false
is_choice (Line.Eventually i) = true
is_choice (Line.Next i) = false

-- lines of ∧ and □ are choice lines in the negation
abbrev pub is_dual_choice : Line → Bool
is_dual_choice Line.True = false
is_dual_choice Line.False = false
is_dual_choice (Line.Literal s b) = false
is_dual_choice (Line.And i j) = true
is_dual_choice (Line.Or i j) = false
is_dual_choice (Line.Always i) = true
is_dual_choice (Line.Eventually i) = false
is_dual_choice (Line.Next i) = false

-- lines of ◇ are eventualities
abbrev pub is_eventuality : Line → Bool
is_eventuality Line.True = false
is_eventuality Line.False = false
is_eventuality (Line.Literal s b) = false
is_eventuality (Line.And i j) = false
is_eventuality (Line.Or i j) = false
is_eventuality (Line.Always i) = false
is_eventuality (Line.Eventually i) = true
is_eventuality (Line.Next i) = false

-- how many lines before line k pass a test: the number of line k among those that do
unfoldable pub number : (Line → Bool) → Lines → ℕ → ℕ
number p t zero = 0
number p t (suc k) = cond (p (line t k)) (suc (number p t k)) (number p t k)

-- how many lines pass a test
abbrev pub total : (Line → Bool) → Lines → ℕ
total p t = number p t (length t)

abbrev pub choices : Lines → ℕ
choices = total is_choice

-- what every table keeps
pub record Lawful (t : Lines) : Type 0 where
  pub some : 0 < length t
  pub short : length t ≤ 121
  pub earlier : Earlier t
  pub apart : Apart t
  pub few : choices t ≤ 16
