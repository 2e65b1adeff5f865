use Rattle.std.proofs.Common.{◌≡◌, ℕ, List, [], ◌∷◌, length, codes, refl}
use Rattle.rules.specs.declared.refusal.FaultKind.TheVariants.{Letter, Signal as Unlisted, Form as Misplaced}
use Rattle.rules.specs.Text.{lexed}
use Rattle.rules.specs.Owed.{formula, Verdict, accepted, refused, judge}

abbrev verdict : List ℕ → List ℕ → Verdict
verdict ns text = judge (length text) (lexed ns text 0) (formula ∷ [])

run_on : verdict (codes "p q") (codes "pq") ≡ refused Unlisted 0
run_on = refl

long : verdict (codes "abcdefgh") (codes "abcdefghi") ≡ refused Unlisted 0
long = refl

two_tokens : verdict (codes "p q") (codes "pT") ≡ refused Misplaced 1
two_tokens = refl

letter : verdict (codes "p q") (codes "p $") ≡ refused Letter 2
letter = refl

signal : verdict (codes "p q") (codes "p zz") ≡ refused Unlisted 2
signal = refl

form : verdict (codes "p q") (codes "p q") ≡ refused Misplaced 2
form = refl

first : verdict (codes "p q") (codes "p q $") ≡ refused Misplaced 2
first = refl

missing : verdict (codes "p q") (codes "(p& ") ≡ refused Misplaced 4
missing = refl

blanks : verdict (codes "p q") (codes "  ") ≡ refused Misplaced 2
blanks = refl

bracketed : verdict (codes "p q") (codes "(p)") ≡ refused Misplaced 2
bracketed = refl

empty : verdict (codes "p q") (codes "()") ≡ refused Misplaced 1
empty = refl

closed : verdict (codes "p q") (codes "p)") ≡ refused Misplaced 1
closed = refl

fine : verdict (codes "p q1") (codes " ((p & q1)>~A N(E T=F) )") ≡ accepted
fine = refl
