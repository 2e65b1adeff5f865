-- The bytes of claims, part by part.
use Rattle.std.proofs.Common.{◌≡◌, ℕ, ◌+◌, ◌*◌, ◌≤◌, List, [], ◌∷◌, ◌++◌, length, drop, refl, ap, subst, arith, length-append}
use Rattle.graph.specs.declared.node.Ranked.{Ranked}
use Rattle.records.specs.Appending.{put, opening}
use Rattle.records.specs.Claims.{Claim, big, listed, node_bytes, laid, Counts}
use Rattle.records.proofs.Listing.{length_listed}
use Rattle.records.specs.NodeBytes.{length_node}
use Rattle.records.specs.Puts.{length_big}

pub length_masks : (xs : List ℕ) → length (listed (big 2) xs) ≤ 2 + 2 * length xs
length_masks xs = length_listed (big 2) 2 (λ m. omega (arith, length_big 2 m)) xs

pub length_nodes : (ns : List Ranked) → length (listed node_bytes ns) ≤ 2 + 23 * length ns
length_nodes ns = length_listed node_bytes 23 length_node ns

pub opening_none : (lead : List ℕ) → length lead ≡ 0 → 2 ∷ [] ≡ opening lead
unfolding opening
opening_none [] h = refl
opening_none (m ∷ lead) h = absurd (omega arith)

pub opening_some : (lead : List ℕ) → (length lead ≡ 0 → ⊥) → (3 ∷ []) ++ listed (big 2) lead ≡ opening lead
unfolding opening
opening_some [] h = absurd (h refl)
opening_some (m ∷ lead) h = refl

pub laid_run : (lead cycle : List ℕ) → opening lead ++ listed (big 2) cycle ≡ laid (Claim.run lead cycle)
unfolding opening
laid_run [] cycle = refl
laid_run (m ∷ lead) cycle = refl

pub length_opening : (lead : List ℕ) → length (opening lead) ≤ 3 + 2 * length lead
unfolding opening
length_opening [] = omega arith
length_opening (m ∷ lead) = let h = length_masks (m ∷ lead) in omega arith

-- no record is longer than the longest graph's
pub length_laid : (c : Claim) → Counts c → length (laid c) ≤ 23555
length_laid (Claim.run lead cycle) h =
    let a = length_opening lead in
    let b = length_masks cycle in
    let l = length-append (opening lead) (listed (big 2) cycle) in
    let n : length lead ≤ 1023 = h.0 in
    let m : length cycle ≤ 1024 = h.2 in
    subst (λ (bs : List ℕ). length bs ≤ 23555) (laid_run lead cycle) (omega arith)
length_laid (Claim.graph nodes) h = let a = length_nodes nodes in let n : length nodes ≤ 1024 = h.1 in omega arith

-- what is written to the start
pub put_front : (xs ys : List ℕ) → put xs 0 ys ≡ ys ++ drop (length ys) xs
unfolding put
put_front xs ys = let e : 0 + length ys ≡ length ys = omega arith in ap (λ (n : ℕ). ys ++ drop n xs) e
