-- The normal form of the negation is the dual, line for line.
use Rattle.std.proofs.Common.{◌≡◌, ℕ, zero, suc, ◌≤◌, Bool, true, false, cond, not, ltb, [], ◌∷◌, ◌++◌, map, length, sym, refl, ap, ◌∙◌, ap₂, arith}
use Rattle.std.proofs.Math.Bool.{not-not}
use Rattle.std.specs.Cmp.{both_ways}
use Rattle.std.proofs.lemmas.List.{map-append, length-map, get_or-map}
use Rattle.rules.specs.declared.syntax.Atom.TheVariants.{True, False, Signal}
use Rattle.rules.specs.declared.syntax.Unary.TheVariants.{Not, Always, Eventually, Next}
use Rattle.rules.specs.declared.syntax.Binary.TheVariants.{And, Or, Implies, Equivalent}
use Rattle.rules.specs.Formula.{Formula, atom, unary, binary}
use Rattle.tables.specs.declared.line.Line.{Line}
use Rattle.tables.specs.Normal.{Normal, nnf, dual}
use Rattle.tables.specs.Lines.{Lines, line, number, is_choice, is_dual_choice, total, choices}
use Rattle.tables.specs.Numbering.{same, find, Placed, enter, over, join, place, tabled}
use Rattle.tables.specs.Parts.{turned}
use Rattle.tables.proofs.Same.{same_true, same_from}

nnf_turned : (f : Formula) (b : Bool) → nnf (not b) f ≡ dual (nnf b f)
nnf_turned (atom True) true = refl
nnf_turned (atom True) false = refl
nnf_turned (atom False) true = refl
nnf_turned (atom False) false = refl
nnf_turned (atom (Signal s)) true = refl
nnf_turned (atom (Signal s)) false = refl
nnf_turned (unary Not f) true = nnf_turned f false
nnf_turned (unary Not f) false = nnf_turned f true
nnf_turned (unary Always f) true = ap Normal.eventually (nnf_turned f true)
nnf_turned (unary Always f) false = ap Normal.always (nnf_turned f false)
nnf_turned (unary Eventually f) true = ap Normal.always (nnf_turned f true)
nnf_turned (unary Eventually f) false = ap Normal.eventually (nnf_turned f false)
nnf_turned (unary Next f) true = ap Normal.next (nnf_turned f true)
nnf_turned (unary Next f) false = ap Normal.next (nnf_turned f false)
nnf_turned (binary And f g) true = ap₂ Normal.or (nnf_turned f true) (nnf_turned g true)
nnf_turned (binary And f g) false = ap₂ Normal.and (nnf_turned f false) (nnf_turned g false)
nnf_turned (binary Or f g) true = ap₂ Normal.and (nnf_turned f true) (nnf_turned g true)
nnf_turned (binary Or f g) false = ap₂ Normal.or (nnf_turned f false) (nnf_turned g false)
nnf_turned (binary Implies f g) true = ap₂ Normal.and (nnf_turned f false) (nnf_turned g true)
nnf_turned (binary Implies f g) false = ap₂ Normal.or (nnf_turned f true) (nnf_turned g false)
nnf_turned (binary Equivalent f g) true = ap₂ Normal.and (ap₂ Normal.or (nnf_turned f true) (nnf_turned g true)) (ap₂ Normal.or (nnf_turned f false) (nnf_turned g false))
nnf_turned (binary Equivalent f g) false = ap₂ Normal.or (ap₂ Normal.and (nnf_turned f false) (nnf_turned g false)) (ap₂ Normal.and (nnf_turned f true) (nnf_turned g true))

pub nnf_dual : (f : Formula) → nnf false f ≡ dual (nnf true f)
nnf_dual f = nnf_turned f true

twice : (l : Line) → turned (turned l) ≡ l
twice Line.True = refl
twice Line.False = refl
twice (Line.Literal s b) = ap (Line.Literal s) (not-not b)
twice (Line.And i j) = refl
twice (Line.Or i j) = refl
twice (Line.Always i) = refl
twice (Line.Eventually i) = refl
twice (Line.Next i) = refl

same_turned : (x y : Line) → same (turned x) (turned y) ≡ same x y
same_turned x y =
    both_ways (same (turned x) (turned y)) (same x y)
    (λ e. same_from x y (sym (twice x) ∙ ap turned (same_true (turned x) (turned y) e) ∙ twice y))
    (λ e. same_from (turned x) (turned y) (ap turned (same_true x y e)))

find_turned : (l : Line) (t : Lines) → find (turned l) (map turned t) ≡ find l t
unfolding find
find_turned l [] = refl
find_turned l (x ∷ t) = ap₂ (λ (b : Bool) (n : ℕ). cond b 0 (suc n)) (same_turned l x) (find_turned l t)

abbrev about : Placed → Placed
about p = record { table = map turned p.table; at = p.at }

map_cond : (b : Bool) (t u : Lines) → cond b (map turned t) (map turned u) ≡ map turned (cond b t u)
map_cond true t u = refl
map_cond false t u = refl

enter_turned : (l : Line) (t : Lines) → enter (turned l) (map turned t) ≡ about (enter l t)
unfolding enter
enter_turned l t =
    let f = find_turned l t in
    let b : ltb (find (turned l) (map turned t)) (length (map turned t)) ≡ ltb (find l t) (length t) = ap₂ ltb f (length-map t turned) in
    ap₂ (λ (x : Lines) (n : ℕ). record { table = x; at = n })
    (ap₂ (λ (c : Bool) (u : Lines). cond c (map turned t) u) b (sym (map-append turned t (l ∷ []))) ∙ map_cond (ltb (find l t) (length t)) t (t ++ (l ∷ []))) f

abbrev Turns : (Lines → Placed) → (Lines → Placed) → Type 0
Turns p q = (t : Lines) → q (map turned t) ≡ about (p t)

over_turned : (l m : ℕ → Line) → ((i : ℕ) → turned (l i) ≡ m i) → (p q : Lines → Placed) → Turns p q → Turns (over l p) (over m q)
unfolding over
over_turned l m e p q h t =
    ap (λ (r : Placed). enter (m r.at) r.table) (h t) ∙ ap (λ (x : Line). enter x (map turned (p t).table)) (sym (e (p t).at))
    ∙ enter_turned (l (p t).at) (p t).table

join_turned : (l m : ℕ → ℕ → Line) → ((i j : ℕ) → turned (l i j) ≡ m i j) → (p q r s : Lines → Placed) → Turns p q → Turns r s → Turns (join l p r) (join m q s)
unfolding join
join_turned l m e p q r s h g t =
    ap (λ (x : Placed). enter (m x.at (s x.table).at) (s x.table).table) (h t)
    ∙ ap (λ (y : Placed). enter (m (p t).at y.at) y.table) (g (p t).table)
    ∙ ap (λ (x : Line). enter x (map turned (r (p t).table).table)) (sym (e (p t).at (r (p t).table).at))
    ∙ enter_turned (l (p t).at (r (p t).table).at) (r (p t).table).table

place_turned : (F : Normal) → Turns (place F) (place (dual F))
unfolding place
place_turned Normal.top = enter_turned Line.True
place_turned Normal.bottom = enter_turned Line.False
place_turned (Normal.literal s b) = enter_turned (Line.Literal s b)
place_turned (Normal.and f g) = join_turned Line.And Line.Or (λ i j. refl) (place f) (place (dual f)) (place g) (place (dual g)) (place_turned f) (place_turned g)
place_turned (Normal.or f g) = join_turned Line.Or Line.And (λ i j. refl) (place f) (place (dual f)) (place g) (place (dual g)) (place_turned f) (place_turned g)
place_turned (Normal.always f) = over_turned Line.Always Line.Eventually (λ i. refl) (place f) (place (dual f)) (place_turned f)
place_turned (Normal.eventually f) = over_turned Line.Eventually Line.Always (λ i. refl) (place f) (place (dual f)) (place_turned f)
place_turned (Normal.next f) = over_turned Line.Next Line.Next (λ i. refl) (place f) (place (dual f)) (place_turned f)

tabled_dual : (F : Normal) → tabled (dual F) ≡ map turned (tabled F)
tabled_dual F = ap (λ (r : Placed). r.table) (place_turned F [])

choice_turned : (l : Line) → is_choice (turned l) ≡ is_dual_choice l
choice_turned Line.True = refl
choice_turned Line.False = refl
choice_turned (Line.Literal s b) = refl
choice_turned (Line.And i j) = refl
choice_turned (Line.Or i j) = refl
choice_turned (Line.Always i) = refl
choice_turned (Line.Eventually i) = refl
choice_turned (Line.Next i) = refl

number_turned : (t : Lines) (k : ℕ) → k ≤ length t → number is_choice (map turned t) k ≡ number is_dual_choice t k
unfolding number
number_turned t zero h = refl
number_turned t (suc k) h =
    ap₂ (λ (b : Bool) (n : ℕ). cond b (suc n) n) (ap is_choice (get_or-map turned t k Line.True Line.True (omega arith)) ∙ choice_turned (line t k)) (number_turned t k (omega arith))

pub length_dual : (F : Normal) → length (tabled (dual F)) ≡ length (tabled F)
length_dual F = ap length (tabled_dual F) ∙ length-map (tabled F) turned

pub choices_dual : (F : Normal) → choices (tabled (dual F)) ≡ total is_dual_choice (tabled F)
choices_dual F =
    ap choices (tabled_dual F) ∙ ap (number is_choice (map turned (tabled F))) (length-map (tabled F) turned) ∙ number_turned (tabled F) (length (tabled F)) (omega arith)
