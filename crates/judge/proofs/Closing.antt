-- The branches of a listed node, taken one by one.
use Rattle.std.proofs.Common.{◌≡◌, Bool, ◌⊎◌, List, [], ◌∷◌, Decides, sym, refl, ◌∙◌, subst, inl, inr, arith}
use Rattle.tables.specs.Lines.{Lines}
use Rattle.graph.specs.declared.node.Node.{Node}
use Rattle.graph.specs.declared.node.Ranked.{Ranked as Listed}
use Rattle.graph.specs.Graphs.{Sinks}
use Rattle.graph.specs.Moves.{Among}
use Rattle.graph.specs.Unfolding.{Omega}
use Rattle.graph.proofs.Laws.{one_successor}
use Rattle.graph.proofs.Ordered.{Ordered}
use Rattle.walk.specs.declared.found.Branch.{Branch}
use Rattle.walk.specs.Exact.{Exact}
use Rattle.judge.specs.Refutations.{ranked_of, ranked_list, Falls, Closed}
use Rattle.judge.proofs.Listing.{length_ranked, node_ranked, rank_ranked}

-- of the branches, those that are not left lead to nodes whose ranks sink
pub record Left (l : List Listed) (r : Listed) (strict : Bool) (all left : List Branch) : Type 0 where
  pub within : (b : Branch) → Among b left → Among b all
  pub done : (b : Branch) → Among b all → Among b left ⊎ Falls l r.rank strict b.successor

module _ (l : List Listed) (r : Listed) (strict : Bool) (all : List Branch) where
  pub left_more : (old new : List Branch) (b : Branch) → old ≡ b ∷ new → Falls l r.rank strict b.successor → Left l r strict all old → Left l r strict all new
  left_more old new b e f h =
      record {
        within = λ d a. h.within d (subst (Among d) (sym e) (inr a));
        done = λ d a.
            elim (h.done d a) [
              | inl x ↦ elim (subst (Among d) e x) [
                | inl q ↦ inr (subst (λ (z : Branch). Falls l r.rank strict z.successor) (sym q) f)
                | inr q ↦ inl q
              ]
              | inr x ↦ inr x
            ];
      }

  module _ (t : Lines) (o : Ordered t) (means : Decides strict (Omega t r.node)) (exact : Exact t r.node all) where
    -- a rank that sinks at a branch is one that sinks in the graph
    sinks : (m : Node) → Falls l r.rank strict m → Sinks t (ranked_list l) (ranked_of r) m
    sinks m f =
        record {
          place = f.0;
          within = omega (arith, length_ranked l, f.1.0);
          same = node_ranked l f.0 ∙ f.1.1;
          sinks = omega (arith, rank_ranked l f.0, f.2);
          falls = λ w. omega (arith, rank_ranked l f.0, f.3 (means.1 w));
        }

    falls : (m : Node) → Sinks t (ranked_list l) (ranked_of r) m → Falls l r.rank strict m
    falls m s = (
      s.place,
      (omega (arith, length_ranked l, s.within), sym (node_ranked l s.place) ∙ s.same),
      omega (arith, rank_ranked l s.place, s.sinks),
      λ e. omega (arith, rank_ranked l s.place, s.falls (means.0 e)),
    )

    pub left_none : (left : List Branch) → left ≡ [] → Left l r strict all left → Closed t l r
    left_none left e h p m s =
        let x = exact.every s.choice s.branch in
        let b = x.0 in
        elim (h.done b x.1) [
          | inl a ↦ absurd (subst (Among b) e a)
          | inr f ↦ subst (Sinks t (ranked_list l) (ranked_of r)) (one_successor t o r.node s.choice b.successor m x.2.leads s.leads) (sinks b.successor f)
        ]

    pub left_fails : (old new : List Branch) (b : Branch) → old ≡ b ∷ new → Left l r strict all old
        → (Falls l r.rank strict b.successor → ⊥) → Closed t l r → ⊥
    left_fails old new b e h no-fall c =
        let a : Among b old = subst (Among b) (sym e) (inl refl) in
        let x = exact.only b (h.within b a) in
        no-fall (falls b.successor (c b.on b.successor (record { choice = x.0; branch = x.1.lawful; asks = x.1.on; leads = x.1.leads })))
