-- A node's bytes, field by field.
use Rattle.std.specs.Prelude.{◌≡◌, ℕ, ◌≤◌, [], ◌∷◌, ◌++◌, length}
use Rattle.std.proofs.Common.{ap, ◌∙◌, arith, length-append}
use Rattle.graph.specs.declared.node.Ranked.{Ranked}
use Rattle.records.specs.declared.writer.Writer.{Writer}
use Rattle.records.specs.Appending.{Room, Wrote}
use Rattle.records.specs.Claims.{field, low, high, map_of, node_bytes}
use Rattle.records.specs.Puts.{room_left, wrote_more, wrote_same}
use Rattle.records.specs.NodeCodes.{bytes_of}
use Rattle.records.specs.Longs.{length_field}

-- the fields that were written are those of the node
pub node_wrote : (n : Ranked) (m a b c d e : ℕ) (w0 w1 w2 w3 w4 w5 w6 : Writer) → Room w0 23
    → Wrote w0 w1 (m ∷ []) → Wrote w1 w2 (field 8 a) → Wrote w2 w3 (field 8 b) → Wrote w3 w4 (field 2 c) → Wrote w4 w5 (field 2 d) → Wrote w5 w6 (field 2 e)
    → m ≡ map_of a b c d e → a ≡ low n.node.label → b ≡ high n.node.label → c ≡ n.node.marks → d ≡ n.node.history → e ≡ n.rank
    → Wrote w0 w6 (node_bytes n)
unfolding bytes_of
node_wrote n m a b c d e w0 w1 w2 w3 w4 w5 w6 r p0 p1 p2 p3 p4 p5 em ea eb ec ed ee =
    let r1 : Room w1 22 = room_left 1 22 p0 (omega arith) r in
    let l1 : length (field 8 a) ≤ 8 = length_field 8 a in
    let r2 : Room w2 14 = room_left 8 14 p1 l1 r1 in
    let l2 : length (field 8 b) ≤ 8 = length_field 8 b in
    let r3 : Room w3 6 = room_left 8 6 p2 l2 r2 in
    let l3 : length (field 2 c) ≤ 2 = length_field 2 c in
    let r4 : Room w4 4 = room_left 2 4 p3 l3 r3 in
    let l4 : length (field 2 d) ≤ 2 = length_field 2 d in
    let tail : Wrote w1 w6 (field 8 a ++ (field 8 b ++ (field 2 c ++ (field 2 d ++ field 2 e)))) =
    wrote_more w1 w2 w6 _ _ (omega arith) p1 (wrote_more w2 w3 w6 _ _ (omega arith) p2 (wrote_more w3 w4 w6 _ _ (omega arith) p3 (wrote_more w4 w5 w6 _ _ (omega arith) p4 p5))) in
    wrote_same w0 w6 _ _
    (ap (λ (x : ℕ). x ∷ (field 8 a ++ (field 8 b ++ (field 2 c ++ (field 2 d ++ field 2 e))))) em
    ∙ ap (λ (x : ℕ). bytes_of x b c d e) ea
    ∙ ap (λ (x : ℕ). bytes_of (low n.node.label) x c d e) eb
    ∙ ap (λ (x : ℕ). bytes_of (low n.node.label) (high n.node.label) x d e) ec
    ∙ ap (λ (x : ℕ). bytes_of (low n.node.label) (high n.node.label) n.node.marks x e) ed
    ∙ ap (λ (x : ℕ). bytes_of (low n.node.label) (high n.node.label) n.node.marks n.node.history x) ee)
    (wrote_more w0 w1 w6 (m ∷ []) _ (omega arith) p0 tail)

pub length_node : (n : Ranked) → length (node_bytes n) ≤ 23
length_node n =
    let a = length_field 8 (low n.node.label) in
    let b = length_field 8 (high n.node.label) in
    let c = length_field 2 n.node.marks in
    let d = length_field 2 n.node.history in
    let e = length_field 2 n.rank in
    simp length-append (omega arith)
