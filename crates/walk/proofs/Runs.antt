-- The walk under one choice: a run over the lines, and whether it lives to the end.
use Rattle.std.proofs.Common.{◌≡◌, ℕ, zero, suc, ◌<◌, Bool, true, false, cond, not, ◌&&◌, eqb, [], ◌∷◌, sym, refl, ap, ◌∙◌, inl, inr, arith}
use Rattle.std.proofs.lemmas.Bool.{both_ways, and_parts, and_from, eq-eqb, ne_eqb}
use Rattle.tables.specs.declared.line.Line.{Line}
use Rattle.graph.specs.Sets.{has}
use Rattle.tables.specs.Lines.{Lines, line}
use Rattle.graph.specs.Numbers.{eventuality}
use Rattle.graph.specs.Unfolding.{Choice}
use Rattle.graph.specs.Pass.{Unfolded, visit, unfold_below}
use Rattle.walk.specs.declared.found.Found.{Found}
use Rattle.walk.specs.Walk.{see, bring, defer, switch_on, switch_off, steps, each, walk}
use Rattle.graph.specs.Moves.{Among as In}
use Rattle.walk.proofs.Ins.{in_each, each_from}

abbrev pub pick : Line → Bool → ℕ → ℕ → Found → Found
pick Line.True b k e f = f
pick Line.False b k e f = f
pick (Line.Literal s true) b k e f = switch_on f s
pick (Line.Literal s false) b k e f = switch_off f s
pick (Line.And i j) b k e f = see (see f i) j
pick (Line.Or i j) b k e f = see f (cond b i j)
pick (Line.Always i) b k e f = bring (see f i) k
pick (Line.Eventually i) true k e f = see f i
pick (Line.Eventually i) false k e f = defer f e
pick (Line.Next i) b k e f = bring f i

abbrev pub lives : Line → Found → Bool
lives Line.True f = true
lives Line.False f = false
lives (Line.Literal s true) f = not (has f.off s)
lives (Line.Literal s false) f = not (has f.on s)
lives (Line.And i j) f = true
lives (Line.Or i j) f = true
lives (Line.Always i) f = true
lives (Line.Eventually i) f = true
lives (Line.Next i) f = true

abbrev pub move : Lines → Choice → ℕ → Found → Found
move t c k f = cond (has f.seen k) (pick (line t k) (c k) k (eventuality t k) f) f

unfoldable pub run : Lines → Choice → ℕ → Found → Found
run t c zero f = f
run t c (suc k) f = run t c k (move t c k f)

unfoldable pub alive : Lines → Choice → ℕ → Found → Bool
alive t c zero f = true
alive t c (suc k) f = cond (has f.seen k) (lives (line t k) f) true && alive t c k (move t c k f)

pub not_true : (b : Bool) → not b ≡ true → b ≡ false
not_true true h = sym h
not_true false h = refl

pub not_false : (b : Bool) → b ≡ false → not b ≡ true
not_false true h = sym h
not_false false h = refl

steps_in : (l : Line) (b : Bool) (k e : ℕ) (f : Found) → lives l f ≡ true → In (pick l b k e f) (steps l k e f)
steps_in Line.True b k e f h = inl refl
steps_in Line.False b k e f h = absurd (both_ways false refl h)
steps_in (Line.Literal s true) b k e f h = let q = not_true (has f.off s) h in rw q (inl refl)
steps_in (Line.Literal s false) b k e f h = let q = not_true (has f.on s) h in rw q (inl refl)
steps_in (Line.And i j) b k e f h = inl refl
steps_in (Line.Or i j) true k e f h = inl refl
steps_in (Line.Or i j) false k e f h = inr (inl refl)
steps_in (Line.Always i) b k e f h = inl refl
steps_in (Line.Eventually i) true k e f h = inl refl
steps_in (Line.Eventually i) false k e f h = inr (inl refl)
steps_in (Line.Next i) b k e f h = inl refl

pub record Picked (l : Line) (k e : ℕ) (f g : Found) : Type 0 where
  pub by : Bool
  pub lived : lives l f ≡ true
  pub is : g ≡ pick l by k e f

only : (l : Line) (k e : ℕ) (f g : Found) → lives l f ≡ true → In g (pick l true k e f ∷ []) → Picked l k e f g
only l k e f g h (inl p) = record { by = true; lived = h; is = p }
only l k e f g h (inr p) = absurd p

tested : (b : Bool) (l : Line) (k e : ℕ) (f g : Found) → lives l f ≡ not b → In g (cond b [] (pick l true k e f ∷ [])) → Picked l k e f g
tested true l k e f g h p = absurd p
tested false l k e f g h p = only l k e f g h p

pair : (l : Line) (k e : ℕ) (f g : Found) → lives l f ≡ true → In g (pick l true k e f ∷ pick l false k e f ∷ []) → Picked l k e f g
pair l k e f g h (inl p) = record { by = true; lived = h; is = p }
pair l k e f g h (inr (inl p)) = record { by = false; lived = h; is = p }
pair l k e f g h (inr (inr p)) = absurd p

steps_from : (l : Line) (k e : ℕ) (f g : Found) → In g (steps l k e f) → Picked l k e f g
steps_from Line.True k e f g h = only Line.True k e f g refl h
steps_from Line.False k e f g h = absurd h
steps_from (Line.Literal s true) k e f g h = tested (has f.off s) (Line.Literal s true) k e f g refl h
steps_from (Line.Literal s false) k e f g h = tested (has f.on s) (Line.Literal s false) k e f g refl h
steps_from (Line.And i j) k e f g h = only (Line.And i j) k e f g refl h
steps_from (Line.Or i j) k e f g h = pair (Line.Or i j) k e f g refl h
steps_from (Line.Always i) k e f g h = only (Line.Always i) k e f g refl h
steps_from (Line.Eventually i) k e f g h = pair (Line.Eventually i) k e f g refl h
steps_from (Line.Next i) k e f g h = only (Line.Next i) k e f g refl h

-- a run that lives is in the walk's list
come_step : (t : Lines) (c : Choice) (k : ℕ) (f : Found) (b : Bool)
    → ((g : Found) → alive t c k g ≡ true → In (run t c k g) (walk t k g))
    → (cond b (lives (line t k) f) true && alive t c k (cond b (pick (line t k) (c k) k (eventuality t k) f) f)) ≡ true
    → In (run t c k (cond b (pick (line t k) (c k) k (eventuality t k) f) f)) (cond b (each (steps (line t k) k (eventuality t k) f) (walk t k)) (walk t k f))
come_step t c k f true ih h =
    let p = and_parts (lives (line t k) f) (alive t c k (pick (line t k) (c k) k (eventuality t k) f)) h in
    in_each _ (pick (line t k) (c k) k (eventuality t k) f) (steps (line t k) k (eventuality t k) f) (walk t k) (steps_in (line t k) (c k) k (eventuality t k) f p.0) (ih _ p.1)
come_step t c k f false ih h = ih f (and_parts true (alive t c k f) h).1

pub come : (t : Lines) (c : Choice) (k : ℕ) (f : Found) → alive t c k f ≡ true → In (run t c k f) (walk t k f)
unfolding run alive walk
come t c zero f h = inl refl
come t c (suc k) f h = come_step t c k f (has f.seen k) (λ g. come t c k g) h

-- choices that agree below k
run_same : (t : Lines) (c d : Choice) (k : ℕ) → ((j : ℕ) → j < k → c j ≡ d j) → (f : Found) → run t c k f ≡ run t d k f
unfolding run
run_same t c d zero h f = refl
run_same t c d (suc k) h f =
    ap (λ (b : Bool). run t c k (cond (has f.seen k) (pick (line t k) b k (eventuality t k) f) f)) (h k (omega arith))
    ∙ run_same t c d k (λ j l. h j (omega arith)) (move t d k f)

alive_same : (t : Lines) (c d : Choice) (k : ℕ) → ((j : ℕ) → j < k → c j ≡ d j) → (f : Found) → alive t c k f ≡ alive t d k f
unfolding alive
alive_same t c d zero h f = refl
alive_same t c d (suc k) h f =
    ap (λ (b : Bool). cond (has f.seen k) (lives (line t k) f) true && alive t c k (cond (has f.seen k) (pick (line t k) b k (eventuality t k) f) f)) (h k (omega arith))
    ∙ ap (λ (b : Bool). cond (has f.seen k) (lives (line t k) f) true && b) (alive_same t c d k (λ j l. h j (omega arith)) (move t d k f))

-- c, but b at k
abbrev at : Choice → ℕ → Bool → Choice
at c k b j = cond (eqb j k) b (c j)

at_here : (c : Choice) (k : ℕ) (b : Bool) → at c k b k ≡ b
at_here c k b = ap (λ (v : Bool). cond v b (c k)) (eq-eqb k k refl)

at_below : (c : Choice) (k : ℕ) (b : Bool) (j : ℕ) → j < k → at c k b j ≡ c j
at_below c k b j l = ap (λ (v : Bool). cond v b (c j)) (ne_eqb j k (λ e. omega arith))

pub record Came (t : Lines) (k : ℕ) (f g : Found) : Type 0 where
  pub by : Choice
  pub lived : alive t by k f ≡ true
  pub is : g ≡ run t by k f

-- what is in the walk's list is a run that lives
from_step : (t : Lines) (k : ℕ) (f g : Found) (b : Bool)
    → ((f : Found) → In g (walk t k f) → Came t k f g)
    → In g (cond b (each (steps (line t k) k (eventuality t k) f) (walk t k)) (walk t k f))
    → (c : Choice) × ((cond b (lives (line t k) f) true && alive t c k (cond b (pick (line t k) (c k) k (eventuality t k) f) f)) ≡ true)
    × (g ≡ run t c k (cond b (pick (line t k) (c k) k (eventuality t k) f) f))
from_step t k f g true ih h =
    let e = each_from g (steps (line t k) k (eventuality t k) f) (walk t k) h in
    let f' = e.0 in
    let p = steps_from (line t k) k (eventuality t k) f f' e.1 in
    let r = ih f' e.2 in
    let c = at r.by k p.by in
    let q : f' ≡ pick (line t k) (c k) k (eventuality t k) f =
    p.is ∙ ap (λ (v : Bool). pick (line t k) v k (eventuality t k) f) (sym (at_here r.by k p.by)) in (
      c,
      and_from (lives (line t k) f) (alive t c k (pick (line t k) (c k) k (eventuality t k) f)) p.lived
          (ap (alive t c k) (sym q) ∙ alive_same t c r.by k (at_below r.by k p.by) f' ∙ r.lived),
      r.is ∙ run_same t r.by c k (λ j l. sym (at_below r.by k p.by j l)) f' ∙ ap (run t c k) q,
    )
from_step t k f g false ih h =
    let r = ih f h in
    (r.by, and_from true (alive t r.by k f) refl r.lived, r.is)

pub came : (t : Lines) (k : ℕ) (f g : Found) → In g (walk t k f) → Came t k f g
unfolding run alive walk
came t zero f g (inl e) = record { by = λ j. true; lived = refl; is = e }
came t zero f g (inr h) = absurd h
came t (suc k) f g h =
    let r = from_step t k f g (has f.seen k) (λ f. came t k f g) h in
    record { by = r.0; lived = r.1; is = r.2 }

-- a run unfolds
abbrev pub plain : Found → Unfolded
plain f = record { now = f.seen; next = f.next; later = f.later }

pick_visit : (l : Line) (b : Bool) (k e : ℕ) (f : Found) → plain (pick l b k e f) ≡ visit l b k e (plain f)
unfolding visit
pick_visit Line.True b k e f = refl
pick_visit Line.False b k e f = refl
pick_visit (Line.Literal s true) b k e f = refl
pick_visit (Line.Literal s false) b k e f = refl
pick_visit (Line.And i j) b k e f = refl
pick_visit (Line.Or i j) b k e f = refl
pick_visit (Line.Always i) b k e f = refl
pick_visit (Line.Eventually i) true k e f = refl
pick_visit (Line.Eventually i) false k e f = refl
pick_visit (Line.Next i) b k e f = refl

plain_cond : (b : Bool) (f g : Found) (u : Unfolded) → plain g ≡ u → plain (cond b g f) ≡ cond b u (plain f)
plain_cond true f g u e = e
plain_cond false f g u e = refl

pub run_unfolds : (t : Lines) (c : Choice) (k : ℕ) (f : Found) → plain (run t c k f) ≡ unfold_below t c k (plain f)
unfolding run unfold_below
run_unfolds t c zero f = refl
run_unfolds t c (suc k) f =
    run_unfolds t c k (move t c k f)
    ∙ ap (unfold_below t c k) (plain_cond (has f.seen k) f (pick (line t k) (c k) k (eventuality t k) f) _ (pick_visit (line t k) (c k) k (eventuality t k) f))
