-- Unfolding, computed: one pass over the lines from the highest down, since operands are earlier lines.
use Rattle.std.specs.Prelude.{ℕ, zero, suc, ◌-◌, Bool, true, false, cond, not, ◌&&◌, ◌||◌, length, ◌==◌}
use Rattle.tables.specs.declared.line.Line.{Line}
use Rattle.tables.specs.Lines.{Lines, line, is_eventuality}
use Rattle.graph.specs.declared.node.Node.{Node}
use Rattle.graph.specs.Sets.{has, add, set_of, every}
use Rattle.graph.specs.Numbers.{eventuality}
use Rattle.graph.specs.Unfolding.{Choice, stays}

-- what appears now, what was put next, and the eventualities that were put off
pub record Unfolded : Type 0 where
  pub now : ℕ
  pub next : ℕ
  pub later : ℕ

unfoldable pub visit : Line → Bool → ℕ → ℕ → Unfolded → Unfolded
visit Line.True c k e s = s
visit Line.False c k e s = s
visit (Line.Literal a b) c k e s = s
visit (Line.And i j) c k e s = record { now = add (add s.now i) j; next = s.next; later = s.later }
visit (Line.Or i j) c k e s = record { now = add s.now (cond c i j); next = s.next; later = s.later }
visit (Line.Always i) c k e s = record { now = add s.now i; next = add s.next k; later = s.later }
visit (Line.Eventually i) true k e s = record { now = add s.now i; next = s.next; later = s.later }
visit (Line.Eventually i) false k e s = record { now = s.now; next = s.next; later = add s.later e }
visit (Line.Next i) c k e s = record { now = s.now; next = add s.next i; later = s.later }

-- lines k - 1 down to 0
unfoldable pub unfold_below : Lines → Choice → ℕ → Unfolded → Unfolded
unfold_below t c zero s = s
unfold_below t c (suc k) s = unfold_below t c k (cond (has s.now k) (visit (line t k) (c k) k (eventuality t k) s) s)

-- a label's lines and its marked eventualities
unfoldable pub opened : Lines → Node → Unfolded
opened t n =
    record {
      now = set_of (length t) (λ k. has n.label k || (is_eventuality (line t k) && has n.marks (eventuality t k)));
      next = 0;
      later = 0;
    }

unfoldable pub unfolded : Lines → Node → Choice → Unfolded
unfolded t n c = unfold_below t c (length t) (opened t n)

-- the signals that appear among the first k lines
abbrev pub sign : Line → ℕ → ℕ
sign Line.True m = m
sign Line.False m = m
sign (Line.Literal s true) m = add m s
sign (Line.Literal s false) m = m
sign (Line.And i j) m = m
sign (Line.Or i j) m = m
sign (Line.Always i) m = m
sign (Line.Eventually i) m = m
sign (Line.Next i) m = m

unfoldable pub signals : Lines → ℕ → ℕ → ℕ
signals t zero now = 0
signals t (suc k) now = cond (has now k) (sign (line t k) (signals t k now)) (signals t k now)

-- a line that can stand where just the signals `on` are on: not F, and not the negation of one of them
abbrev pub sane : Line → ℕ → Bool
sane Line.True on = true
sane Line.False on = false
sane (Line.Literal s true) on = true
sane (Line.Literal s false) on = not (has on s)
sane (Line.And i j) on = true
sane (Line.Or i j) on = true
sane (Line.Always i) on = true
sane (Line.Eventually i) on = true
sane (Line.Next i) on = true

-- the position that a choice asks for: just the signals that appear
unfoldable pub position : Lines → Node → Choice → ℕ
position t n c = signals t (length t) (unfolded t n c).now

-- neither F nor a signal with its negation appears
unfoldable pub branch : Lines → Node → Choice → Bool
branch t n c = every (length t) (λ k. not (has (unfolded t n c).now k) || sane (line t k) (position t n c))

-- ∧ puts both its sides, and T puts nothing
abbrev pub spread : Line → ℕ → ℕ
spread Line.True m = m
spread Line.False m = m
spread (Line.Literal s b) m = m
spread (Line.And i j) m = add (add m i) j
spread (Line.Or i j) m = m
spread (Line.Always i) m = m
spread (Line.Eventually i) m = m
spread (Line.Next i) m = m

unfoldable pub spread_below : Lines → ℕ → ℕ → ℕ
spread_below t zero m = m
spread_below t (suc k) m = spread_below t k (cond (has m k) (spread (line t k) m) m)

unfoldable pub put : Lines → ℕ → ℕ
put t m = set_of (length t) (λ k. has (spread_below t (length t) m) k && stays (line t k))

unfoldable pub everything : Lines → ℕ
everything t = set_of (eventuality t (length t)) (λ e. true)

unfoldable pub is_omega : Lines → Node → Bool
is_omega t n = n.history == everything t

unfoldable pub initial : Lines → Node
initial t = record { label = put t (add 0 (length t - 1)); marks = 0; history = 0 }

-- what is not marked next, and what the old history had unless the node is an ω-node
unfoldable pub successor : Lines → Node → Choice → Node
successor t n c =
    record {
      label = put t (unfolded t n c).next;
      marks = (unfolded t n c).later;
      history = set_of (eventuality t (length t)) (λ e. not (has (unfolded t n c).later e) || (has n.history e && not (is_omega t n)));
    }
