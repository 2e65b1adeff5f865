-- What a text says: its words with their offsets, up to its end or to a fault.
use Rattle.std.specs.Prelude.{ℕ, zero, suc, ◌+◌, cond, List, [], ◌∷◌, take, drop, Some, None, Option, ◌==◌}
use Rattle.std.specs.List.{prefix_len}
use Rattle.rules.specs.declared.refusal.FaultKind.{FaultKind}
use Rattle.rules.specs.declared.refusal.FaultKind.TheVariants.{Letter, Signal as Unlisted}
use Rattle.rules.specs.declared.syntax.Atom.TheVariants.{True, False, Signal}
use Rattle.rules.specs.declared.syntax.Unary.TheVariants.{Not, Always, Eventually, Next}
use Rattle.rules.specs.declared.syntax.Binary.TheVariants.{And, Or, Implies, Equivalent}
use Rattle.rules.specs.declared.syntax.Word.{Word}
use Rattle.rules.specs.declared.syntax.Word.TheVariants.{Leaf, Prefix, Infix, Open, Close}
use Rattle.rules.specs.Letters.{small, in_name, blank}
use Rattle.rules.specs.Signals.{number_of}

-- what a byte begins
pub data Class : Type 0 where
  space name other : Class
  sign : Word → Class

-- T F ~ A E N & | > = ( )
abbrev pub signs : ℕ → Class
signs b =
    cond (b == 84) (sign (Leaf True)) (cond (b == 70) (sign (Leaf False))
    (cond (b == 126) (sign (Prefix Not)) (cond (b == 65) (sign (Prefix Always)) (cond (b == 69) (sign (Prefix Eventually)) (cond (b == 78) (sign (Prefix Next))
    (cond (b == 38) (sign (Infix And)) (cond (b == 124) (sign (Infix Or)) (cond (b == 62) (sign (Infix Implies)) (cond (b == 61) (sign (Infix Equivalent))
    (cond (b == 40) (sign Open) (cond (b == 41) (sign Close) other)))))))))))

abbrev pub class : ℕ → Class
class b = cond (blank b) space (cond (small b) name (signs b))

-- words with their offsets, then the end, or the fault that ends the reading
pub data Lexed : Type 0 where
  done : Lexed
  stop : FaultKind → ℕ → Lexed
  word : ℕ → Word → Lexed → Lexed

-- a name: its signal's number, or a fault
abbrev pub listed : Option ℕ → ℕ → Lexed → Lexed
listed None o past = stop Unlisted o
listed (Some k) o past = word o (Leaf (Signal k)) past

abbrev pub pick : Class → ℕ → Option ℕ → Lexed → Lexed → Lexed
pick space o n after past = after
pick name o n after past = listed n o past
pick other o n after past = stop Letter o
pick (sign w) o n after past = word o w after

-- the bytes, of which the first stands at the offset o and the first k belong to a name that was read
abbrev pub lexes : List ℕ → List ℕ → ℕ → ℕ → Lexed
lexes ns [] o k = done
lexes ns (b ∷ bs) o (suc k) = lexes ns bs (o + 1) k
lexes ns (b ∷ bs) o zero = pick (class b) o (number_of ns (b ∷ take (prefix_len in_name bs) bs)) (lexes ns bs (o + 1) 0) (lexes ns bs (o + 1) (prefix_len in_name bs))

-- what the text says from the offset o on, over the list ns
abbrev pub lexed : List ℕ → List ℕ → ℕ → Lexed
lexed ns text o = lexes ns (drop o text) o 0
