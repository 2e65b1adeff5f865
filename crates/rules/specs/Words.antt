-- What the steps of the rule reader hear: the next word, a sign, a closing bracket.
use Rattle.std.specs.Prelude.{◌≡◌, ℕ, ◌<◌, List, ◌∷◌, length, Some, None, Ok, Err, Option, Result}
use Rattle.rules.specs.declared.refusal.Fault.{Fault}
use Rattle.rules.specs.declared.reader.Reader.{Reader}
use Rattle.rules.specs.declared.syntax.Binary.{Binary}
use Rattle.rules.specs.declared.syntax.Word.{Word}
use Rattle.rules.specs.declared.syntax.Word.TheVariants.{Infix, Close}
use Rattle.rules.specs.Text.{Lexed, done, stop, word, lexed}
use Rattle.rules.specs.Owed.{Owed, sign, bracket, judge, refused}

-- the reader has gone on in the same text, over the same list
pub record ReadsOn (old new : Reader) : Type 0 where
  pub list : new.list.bytes.now ≡ old.list.bytes.now
  pub text : new.text.now ≡ old.text.now

-- what the text says from where the reader stands
abbrev pub ahead : Reader → Lexed
ahead r = lexed r.list.bytes.now r.text.now r.at

-- the text says the word w at o, and goes on where the new reader stands
pub record Goes (old : Reader) (o : ℕ) (w : Word) (new : Reader) : Type 0 where
  pub says : ahead old ≡ word o w (ahead new)
  pub moves : old.at < new.at

abbrev pub Hears : Reader → Result (Option (ℕ × Word)) Fault → Reader → Type 0
Hears old (Ok None) new = ahead old ≡ done
Hears old (Ok (Some p)) new = Goes old p.0 p.1 new
Hears old (Err f) new = ahead old ≡ stop f.kind f.offset

-- where x is owed first, the text is refused with the fault f, whatever else is owed
abbrev pub Refuses : Reader → Owed → Fault → Type 0
Refuses r x f = (s : List Owed) → judge (length r.text.now) (ahead r) (x ∷ s) ≡ refused f.kind f.offset

-- a word where anything is owed
abbrev pub HearsWord : Reader → Result (ℕ × Word) Fault → Reader → Type 0
HearsWord old (Ok p) new = Goes old p.0 p.1 new
HearsWord old (Err f) new = (x : Owed) → Refuses old x f

abbrev pub HearsSign : Reader → Result Binary Fault → Reader → Type 0
HearsSign old (Ok b) new = (o : ℕ) × Goes old o (Infix b) new
HearsSign old (Err f) new = Refuses old sign f

abbrev pub HearsClose : Reader → Result (Unit {0}) Fault → Reader → Type 0
HearsClose old (Ok u) new = (o : ℕ) × Goes old o Close new
HearsClose old (Err f) new = Refuses old bracket f
