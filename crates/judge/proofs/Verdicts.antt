-- The judge's answer is the only one that fits, and proves what it says.
use Rattle.std.proofs.Common.{◌≡◌, ℕ, List, Ok, Err, Result, sym, ap, ◌∙◌, subst, inl, inr}
use Rattle.rules.specs.declared.refusal.Refusal.{Refusal}
use Rattle.tables.specs.Lines.{Lines}
use Rattle.graph.proofs.Bridge.{ranks_refute}
use Rattle.graph.proofs.Ordered.{Ordered}
use Rattle.records.specs.Claims.{Claim, Lays}
use Rattle.records.proofs.Whole.{lays_one}
use Rattle.truth.specs.Rows.{run_of}
use Rattle.judge.specs.Refutations.{ranked_list}
use Rattle.judge.specs.declared.verdict.Verdict as coded
use Rattle.judge.specs.Judging.{limits_of, said, Right, Judged, Alone, Proves}

module _ (t : Lines) (s : ℕ) (bytes : List ℕ) where
  one : (c d : Claim) → Lays (limits_of t s) c bytes → Lays (limits_of t s) d bytes → c ≡ d
  one c d x y = lays_one (limits_of t s) c d bytes x y

  pub alone : (r : Result coded.Verdict Refusal) → Judged t s bytes r → Alone t s bytes r
  alone (Ok v) (c, x, g, e) (Ok w) (d, y, h, f) = ap Ok (e ∙ ap said (one c d x y) ∙ sym f)
  alone (Ok v) (c, x, g, e) (Err w) (inl y) = absurd (y.0 c x)
  alone (Ok v) (c, x, g, e) (Err w) (inr (d, y, h, f)) = absurd (h (subst (Right t) (one c d x y) g))
  alone (Err v) (inl x) (Ok w) (d, y, h, f) = absurd (x.0 d y)
  alone (Err v) (inr (c, x, g, e)) (Ok w) (d, y, h, f) = absurd (g (subst (Right t) (one d c y x) h))
  alone (Err v) (inl x) (Err w) (inl y) = ap Err (x.1 ∙ sym y.1)
  alone (Err v) (inl x) (Err w) (inr (d, y, h, f)) = absurd (x.0 d y)
  alone (Err v) (inr (c, x, g, e)) (Err w) (inl y) = absurd (y.0 c x)
  alone (Err v) (inr (c, x, g, e)) (Err w) (inr (d, y, h, f)) = ap Err (e ∙ sym f)

  module _ (o : Ordered t) where
    right_proves : (c : Claim) → Lays (limits_of t s) c bytes → Right t c → Proves t bytes (Ok (said c))
    right_proves (Claim.run lead cycle) x g =
        let r = run_of lead cycle g.0 in
        record {
          run = r;
          shown = x.bytes_are;
          keeps = g.1;
          meets = λ a q. (q.meets r 0).0 g.1;
        }
    right_proves (Claim.graph nodes) x g =
        record {
          keeps = ranks_refute t o (ranked_list nodes) g.0;
          meets = λ a q r k. ranks_refute t o (ranked_list nodes) g.0 r ((q.meets r 0).1 k);
        }

    pub proves : (r : Result coded.Verdict Refusal) → Judged t s bytes r → Proves t bytes r
    proves (Ok v) (c, x, g, e) = subst (λ (w : coded.Verdict). Proves t bytes (Ok w)) (sym e) (right_proves c x g)
    proves (Err w) j = tt
