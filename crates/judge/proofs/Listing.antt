-- Lists in which no node stands twice, and which are ranked graphs.
use Rattle.std.proofs.Common.{◌≡◌, ℕ, ◌<◌, ◌≤◌, Bool, true, false, List, length, Some, None, Option, Decides, sym, ap, ◌∙◌, subst, inl, inr, arith}
use Rattle.std.proofs.lemmas.List.{length-map}
use Rattle.std.proofs.Math.ListN.{get_or-map as default_map}
use Rattle.std.proofs.lemmas.Bool.{cases_order, both_ways}
use Rattle.std.specs.Option.{MatchOption}
use Rattle.tables.specs.Lines.{Lines}
use Rattle.graph.specs.declared.node.Node.{Node}
use Rattle.graph.specs.declared.node.Ranked.{Ranked as Listed}
use Rattle.graph.specs.Graphs.{Ranked, entry, Step, Sinks, Ranks, Once}
use Rattle.graph.specs.Unfolding.{Initial}
use Rattle.judge.specs.Refutations.{ranked_of, ranked_list, listed, Stands, Place, Falls, Closed, Begins, New}

-- the graph's definitions read the list as it stands
pub length_ranked : (l : List Listed) → length (ranked_list l) ≡ length l
length_ranked l = length-map l ranked_of

pub entry_ranked : (l : List Listed) (a : ℕ) → entry (ranked_list l) a ≡ ranked_of (listed l a)
entry_ranked l a = default_map ranked_of l a (record { node = record { label = 0; marks = 0; history = 0 }; rank = 0 })

pub node_ranked : (l : List Listed) (a : ℕ) → (entry (ranked_list l) a).node ≡ (listed l a).node
node_ranked l a = ap (λ (z : Ranked). z.node) (entry_ranked l a)

pub rank_ranked : (l : List Listed) (a : ℕ) → (entry (ranked_list l) a).rank ≡ (listed l a).rank
rank_ranked l a = ap (λ (z : Ranked). z.rank) (entry_ranked l a)

pub once_new : (l : List Listed) → Once (ranked_list l) → (a : ℕ) → a < length l → New l a
once_new l o a h b g e = let q : b ≡ a = o b a (omega (arith, length_ranked l)) (omega (arith, length_ranked l)) (node_ranked l b ∙ e ∙ sym (node_ranked l a)) in omega arith

-- a node of the list has one place
only_place : (l : List Listed) → Once (ranked_list l) → (m : Node) (a b : ℕ) → Stands l m a → Stands l m b → a ≡ b
only_place l o m a b s t =
    o a b (omega (arith, length_ranked l, s.0)) (omega (arith, length_ranked l, t.0)) (node_ranked l a ∙ s.1 ∙ sym t.1 ∙ sym (node_ranked l b))

-- so a fall to it is a fall to that place
pub fell : (l : List Listed) (r : ℕ) (strict : Bool) (m : Node) (p : ℕ) → Once (ranked_list l) → Stands l m p → Falls l r strict m
    → ((listed l p).rank ≤ r) × (strict ≡ true → (listed l p).rank < r)
fell l r strict m p o s f =
    subst (λ (x : ℕ). ((listed l x).rank ≤ r) × (strict ≡ true → (listed l x).rank < r)) (only_place l o m f.0 p f.1 s) (f.2, f.3)

-- where the rank at a node's place does not fall, it falls nowhere, since the node stands at no other
pub falls_not : (l : List Listed) (r : ℕ) (strict : Bool) (m : Node) (o : Option ℕ) (b : Bool) (Q : ℕ → Type 0) → Place l m o → MatchOption o (b ≡ false) Q
    → ((p : ℕ) → Q p → Decides b (((listed l p).rank ≤ r) × (strict ≡ true → (listed l p).rank < r)))
    → b ≡ false → Once (ranked_list l) → Falls l r strict m → ⊥
falls_not l r strict m None b Q p q d e once f = p f.0 f.1
falls_not l r strict m (Some a) b Q p q d e once f =
    let k : Decides b (((listed l a).rank ≤ r) × (strict ≡ true → (listed l a).rank < r)) = d a q in
    both_ways b e (k.1 (fell l r strict m a once p f))

pub new_once : (l : List Listed) → ((a : ℕ) → a < length l → New l a) → Once (ranked_list l)
new_once l h a b p' q' e' =
    let p : a < length l = omega (arith, length_ranked l) in
    let q : b < length l = omega (arith, length_ranked l) in
    let e = sym (node_ranked l a) ∙ e' ∙ node_ranked l b in
    elim (cases_order a b) [
      | inl x ↦ x
      | inr (inl x) ↦ absurd (h b q a x e)
      | inr (inr x) ↦ absurd (h a p b x (sym e))
    ]

pub ranked_once : (t : Lines) (l : List Listed) → Begins t l → ((a : ℕ) → a < length l → New l a × Closed t l (listed l a)) → Ranks t (ranked_list l) × Once (ranked_list l)
ranked_once t l b h = (
  record {
    some = omega (arith, length_ranked l, b.0);
    first = subst (Initial t) (sym (node_ranked l 0)) b.1;
    closed = λ a k. subst (λ (r : Ranked). (p : ℕ) (m : Node) → Step t r.node p m → Sinks t (ranked_list l) r m) (sym (entry_ranked l a)) (h a (omega (arith, length_ranked l))).1;
  },
  new_once l (λ a k. (h a k).0),
)

-- where the list is a ranked graph, every branch of a listed node sinks
pub ranks_closed : (t : Lines) (l : List Listed) → Ranks t (ranked_list l) → (a : ℕ) → a < length l → Closed t l (listed l a)
ranks_closed t l r a k =
    subst (λ (z : Ranked). (p : ℕ) (m : Node) → Step t z.node p m → Sinks t (ranked_list l) z m) (entry_ranked l a) (r.closed a (omega (arith, length_ranked l)))
