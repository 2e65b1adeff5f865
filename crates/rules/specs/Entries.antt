-- The formulas that the entries of an arena stand for.
use Rattle.std.specs.Prelude.{◌≡◌, ℕ, ◌-◌, ◌<◌, Bool, true, ◌&&◌, List, [], ◌∷◌, ◌++◌, length, take, nat_lt, slice_index_or}
use Rattle.rules.specs.declared.syntax.Atom.TheVariants.{True}
use Rattle.rules.specs.declared.syntax.Entry.{Entry}
use Rattle.rules.specs.declared.syntax.Entry.TheVariants.{Leaf, One, Two}
use Rattle.rules.specs.Formula.{Formula, atom, unary, binary}

-- what is read past the end of a list of entries
abbrev pub nothing : Entry
nothing = Leaf True

-- the operands are entries below i
abbrev pub below : ℕ → Entry → Bool
below i (Leaf a) = true
below i (One u a) = nat_lt a i
below i (Two b a c) = nat_lt a i && nat_lt c i

-- the operands of each of the first n entries are earlier entries
abbrev pub Ordered : List Entry → ℕ → Type 0
Ordered xs n = (i : ℕ) → i < n → below i (slice_index_or xs i nothing) ≡ true

-- the formula of an entry, given those of the entries
abbrev pub made : List Formula → Entry → Formula
made fs (Leaf a) = atom a
made fs (One u i) = unary u (slice_index_or fs i (atom True))
made fs (Two b i j) = binary b (slice_index_or fs i (atom True)) (slice_index_or fs j (atom True))

-- the entries' formulas, after those of earlier entries
abbrev pub build : List Formula → List Entry → List Formula
build fs [] = fs
build fs (x ∷ xs) = build (fs ++ (made fs x ∷ [])) xs

-- the formula of entry i, of n entries
abbrev pub meaning : List Entry → ℕ → ℕ → Formula
meaning xs n i = slice_index_or (build [] (take n xs)) i (atom True)

-- the formula of the last of the entries
abbrev pub last_meaning : List Entry → Formula
last_meaning xs = meaning xs (length xs) (length xs - 1)

-- the law of it: an entry stands for its sign over what its operands stand for
abbrev pub Stands : (ℕ → Formula) → Entry → Formula → Type 0
Stands m (Leaf a) f = f ≡ atom a
Stands m (One u i) f = f ≡ unary u (m i)
Stands m (Two b i j) f = f ≡ binary b (m i) (m j)
