-- The rows before the first line is judged, and after the last.
use Rattle.std.proofs.Common.{◌≡◌, ℕ, ◌+◌, ◌<◌, ◌≤◌, List, ◌++◌, length, get_or, drop, replicate, sym, subst, arith, length-append}
use Rattle.std.proofs.lemmas.List.{get_or_append_left, drop_at, length-drop, get_or-replicate}
use Rattle.std.proofs.lemmas.Bool.{both_ways}
use Rattle.rules.specs.Runs.{Run}
use Rattle.tables.specs.Lines.{Lines}
use Rattle.graph.specs.Sets.{has}
use Rattle.graph.proofs.Masks.{has_none}
use Rattle.truth.specs.Rows.{run_of, Row, TruthTable}
use Rattle.truth.specs.Passes.{Judged, AllJudged}

judged_none : (t : Lines) (r : Run) (i : ℕ) → Judged t r 0 i 0
judged_none t r i x = (λ e. absurd (both_ways (has 0 x) (has_none x) e), λ e. let l : x < 0 = e.0 in absurd (omega arith))

module _ (t : Lines) (lead cycle : List ℕ) where
  pub all_none : (rows : List ℕ) (n : ℕ) → rows ≡ replicate n 0 → n ≡ length lead + length cycle → AllJudged t lead cycle 0 rows
  all_none rows n e q lasts i l = let s : get_or rows i 0 ≡ 0 = rw e (get_or-replicate n i 0 0 (omega arith)) in rw s (judged_none t (run_of lead cycle lasts) i)

  pub table : (lasts : 0 < length cycle) (old part : List ℕ) (n : ℕ) → n ≡ length lead + length cycle → n ≤ length old → length part ≡ n
      → AllJudged t lead cycle (length t) part → TruthTable t (run_of lead cycle lasts) old (part ++ drop n old)
  table lasts old part n q l e h = record {
    each = λ i s. subst (Row t (run_of lead cycle lasts) i) (sym (get_or_append_left part (drop n old) 0 i (omega arith))) (h lasts i s);
    rest = rw (sym q) (drop_at part (drop n old) n e);
    long = simp (length-append, length-drop) (omega arith);
  }
