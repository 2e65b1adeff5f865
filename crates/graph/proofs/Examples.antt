-- The rows, by one computation.
use Rattle.std.proofs.Common.{◌≡◌, ℕ, ◌≤◌, Bool, true, false, ◌&&◌, eqb, ltb, leb, ◌↔◌, List, [], ◌∷◌, length, refl, arith}
use Rattle.std.proofs.lemmas.Bool.{and_parts, eqb-true, leb-true}
use Rattle.rules.specs.Formula.{Formula}
use Rattle.rules.specs.Runs.{on, Run, at, Keeps}
use Rattle.tables.specs.Normal.{nnf}
use Rattle.tables.specs.Lines.{Lines, values, number, choices, Lawful, root}
use Rattle.tables.specs.Numbering.{same, find, enter, over, join, place}
use Rattle.tables.proofs.Places.{placed, none_tidy}
use Rattle.graph.specs.declared.node.Node.{Node}
use Rattle.graph.specs.Sets.{add, set_of, every, any}
use Rattle.graph.specs.Pass.{visit, unfold_below, opened, unfolded, signals, position, branch, spread_below, put, everything, is_omega, initial, successor}
use Rattle.graph.specs.Moves.{by_mask, moves_below, moves}
use Rattle.graph.specs.Graphs.{Graph, ranked}
use Rattle.graph.specs.Tests.{same_node, follows, certified, once, accepted, led, stays_in, lists}
use Rattle.graph.specs.Truths.{after, on_every, row_of, row, meets}
use Rattle.graph.proofs.Explored.{listed, joined, expand, graph, omegas, rank}
use Rattle.graph.specs.Rows.{Verdict, Row, p, q, T, E, A, N, ~, both, Rows}
use Rattle.tables.specs.Limits.{kept}
use Rattle.tables.specs.Questions.{keeps}
use Rattle.tables.proofs.Asking.{asks}
use Rattle.graph.proofs.Proved.{lists_stand, accepted_stands, truths_stand, ranks_stand, graph_stands}

-- a run that keeps the form, or none: then the ranks refute
data Shown : Type 0 where
  by_run : (lead : List ℕ) (first : ℕ) (others : List ℕ) → Shown
  by_ranks : Shown

run_of : List ℕ → ℕ → List ℕ → Run
run_of lead x xs = record { lead = lead; cycle = x ∷ xs; lasts = omega arith }

abbrev runs : Shown → Bool
runs (by_run a x b) = true
runs by_ranks = false

shown : Lines → List Node → Shown → Bool
shown t l (by_run a x b) = meets (run_of a x b) t
shown t l by_ranks = accepted t (ranked (rank 20 t l) l)

-- one test for a row
test : Formula → ℕ → ℕ → ℕ → Shown → Bool
test f n c m s =
    let t = kept f in
    let l = graph 20 t in
    (eqb (length t) n && (leb (length t) 121 && ltb 0 (length t))) && ((eqb (choices t) c && leb (choices t) 16) && ((lists t l && eqb (length l) m) && shown t l s))

lawful : (f : Formula) → length (kept f) ≤ 121 → choices (kept f) ≤ 16 → Lawful (kept f)
lawful f s c =
    let r = placed (nnf true f) [] none_tidy in
    record { some = omega (arith, r.within); short = s; earlier = r.tidy.earlier; apart = r.tidy.apart; few = c }

-- the table's last line is true where the rule is
root_is : (f : Formula) (r : Run) → Keeps (root (kept f)) r ↔ Keeps f r
root_is f r = (asks (keeps f) (kept f) refl).meets r 0

verdict : (f : Formula) → Lawful (kept f) → (l : List Node) → Graph (kept f) l → (s : Shown) → shown (kept f) l s ≡ true → Verdict f (runs s)
unfolding shown
verdict f h l g (by_run a x b) e =
    let t = kept f in
    let r = run_of a x b in
    let k : Keeps (root t) r = (truths_stand t h r).1.0 e in
    ((r, (root_is f r).0 k), (graph_stands t h l g).0 (r, k))
verdict f h l g by_ranks e =
    let t = kept f in
    let m = ranked (rank 20 t l) l in
    let refuted = ranks_stand t h m ((accepted_stands t h m).0 e).0 in
    (λ r k. refuted r ((root_is f r).1 k), λ z. let r = (graph_stands t h l g).1 z in refuted r.0 r.1)

row_from : (f : Formula) (n c m : ℕ) (s : Shown) → test f n c m s ≡ true → Row f n c m (runs s)
unfolding test
row_from f n c m s e =
    let t : Lines = kept f in
    let l : List Node = graph 20 t in
    let a = and_parts (eqb (length t) n && (leb (length t) 121 && ltb 0 (length t))) ((eqb (choices t) c && leb (choices t) 16) && ((lists t l && eqb (length l) m) && shown t l s)) e in
    let b = and_parts (eqb (length t) n) (leb (length t) 121 && ltb 0 (length t)) a.0 in
    let d = and_parts (eqb (choices t) c && leb (choices t) 16) ((lists t l && eqb (length l) m) && shown t l s) a.1 in
    let g = and_parts (eqb (choices t) c) (leb (choices t) 16) d.0 in
    let i = and_parts (lists t l && eqb (length l) m) (shown t l s) d.1 in
    let j = and_parts (lists t l) (eqb (length l) m) i.0 in
    let h : Lawful t = lawful f (leb-true (length t) 121 (and_parts (leb (length t) 121) (ltb 0 (length t)) b.1).0) (leb-true (choices t) 16 g.1) in
    let z = lists_stand t h l j.0 in
    record {
      lined = eqb-true (length t) n b.0;
      choosing = eqb-true (choices t) c g.0;
      graph = l;
      listed = z.2;
      distinct = z.3;
      counted = eqb-true (length l) m j.1;
      verdict = verdict f h l z.2 s i.1;
    }

all : List Bool → Bool
all [] = true
all (b ∷ bs) = b && all bs

computed : all (
    test T 1 0 1 (by_run [] 0 [])
    ∷ test (~ T) 1 0 1 by_ranks
    ∷ test p 1 0 2 (by_run [] 1 [])
    ∷ test (both p (~ p)) 3 0 1 by_ranks
    ∷ test (E p) 2 1 3 (by_run (0 ∷ []) 1 [])
    ∷ test (both (E p) (A (~ p))) 5 1 2 by_ranks
    ∷ test (both (E p) (E (~ p))) 5 2 5 (by_run (1 ∷ []) 0 [])
    ∷ test (both (A (E p)) (A (E q))) 7 2 9 (by_run [] 3 [])
    ∷ test (both (A (E p)) (E (A (~ p)))) 7 2 6 by_ranks
    ∷ test (N p) 2 0 3 (by_run (0 ∷ []) 1 [])
    ∷ []) ≡ true
unfolding all test shown run_of place join over enter find same values number lists led stays_in accepted once certified follows ranked rank omegas graph expand joined listed moves moves_below by_mask same_node branch position signals successor unfolded opened unfold_below visit is_omega everything initial put spread_below set_of every any add on meets row row_of on_every after at
computed = refl

split : (b : Bool) (bs : List Bool) → all (b ∷ bs) ≡ true → (b ≡ true) × (all bs ≡ true)
unfolding all
split b bs h = and_parts b (all bs) h

pub rows : Rows
rows =
    let a = split _ _ computed in
    let b = split _ _ a.1 in
    let c = split _ _ b.1 in
    let d = split _ _ c.1 in
    let e = split _ _ d.1 in
    let f = split _ _ e.1 in
    let g = split _ _ f.1 in
    let h = split _ _ g.1 in
    let i = split _ _ h.1 in
    let j = split _ _ i.1 in (
      row_from T 1 0 1 (by_run [] 0 []) a.0,
      row_from (~ T) 1 0 1 by_ranks b.0,
      row_from p 1 0 2 (by_run [] 1 []) c.0,
      row_from (both p (~ p)) 3 0 1 by_ranks d.0,
      row_from (E p) 2 1 3 (by_run (0 ∷ []) 1 []) e.0,
      row_from (both (E p) (A (~ p))) 5 1 2 by_ranks f.0,
      row_from (both (E p) (E (~ p))) 5 2 5 (by_run (1 ∷ []) 0 []) g.0,
      row_from (both (A (E p)) (A (E q))) 7 2 9 (by_run [] 3 []) h.0,
      row_from (both (A (E p)) (E (A (~ p)))) 7 2 6 by_ranks i.0,
      row_from (N p) 2 0 3 (by_run (0 ∷ []) 1 []) j.0,
    )
