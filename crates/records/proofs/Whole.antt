-- The layout of whole records: a claim is read from its own record, and from no other bytes.
use Rattle.std.proofs.Common.{◌≡◌, ℕ, ◌<◌, ◌≤◌, Bool, true, false, cond, eqb, ◌⊎◌, List, [], ◌∷◌, ◌++◌, length, Some, None, Option, sym, refl, ap, ◌∙◌, subst, inl, inr, append-nil, arith}
use Rattle.std.proofs.lemmas.Bool.{eqb-true}
use Rattle.std.specs.Option.{ok_or}
use Rattle.rules.specs.declared.refusal.Refusal.TheVariants.{Record}
use Rattle.graph.specs.declared.node.Ranked.{Ranked}
use Rattle.records.specs.declared.claim.Claim as coded
use Rattle.records.specs.declared.limits.Limits.{Limits}
use Rattle.records.specs.Claims.{Claim, claim_of, big, listed, node_bytes, laid, Counts, Every, Bits, NodeWithin, Within, Lays}
use Rattle.records.specs.Parsing.{Got, lost, got, next, byte, counted, mask, node, ended, body, record_of}
use Rattle.records.specs.Reading.{ReadAs, Alone}
use Rattle.records.specs.Spaces.{understood}
use Rattle.records.specs.Laws.{OneLayout}
use Rattle.records.proofs.Claiming.{length_laid}
use Rattle.records.specs.Codes.{Layout, lost_got, same_value, next_parts, byte_only, counted_layout}
use Rattle.records.specs.NodeCodes.{mask_layout, node_layout}

ended_only : (c d : Claim) (r q : List ℕ) → ended c r ≡ got d q → (c ≡ d) × (r ≡ [])
ended_only c d [] q h = (same_value c d [] q h, refl)
ended_only c d (b ∷ r) q h = absurd (lost_got d q h)

masks_layout : (l : Limits) (top : ℕ) → top < 65536 → Layout (counted top (mask l)) (listed (big 2)) (λ xs. (1 ≤ length xs) × (length xs ≤ top) × Every (Bits l.signals) xs)
masks_layout l top h = counted_layout (mask_layout l) top h

nodes_layout : (l : Limits) → Layout (counted 1024 (node l)) (listed node_bytes) (λ xs. (1 ≤ length xs) × (length xs ≤ 1024) × Every (NodeWithin l) xs)
nodes_layout l = counted_layout (node_layout l) 1024 (omega arith)

whole_reads : {A : Type 0} {p : List ℕ → Got A} {e : A → List ℕ} {W : A → Type 0} → Layout p e W → (a : A) → W a → p (e a) ≡ got a []
whole_reads {A} {p} {e} l a h = ap p (sym (append-nil (e a))) ∙ l.reads a [] h

pub laid_reads : (l : Limits) (c : Claim) → Counts c → Within l c → record_of l (laid c) ≡ got c []
laid_reads l (Claim.run [] cycle) n h =
    ap (λ (g : Got (List ℕ)). next g (λ cycle r. ended (Claim.run [] cycle) r)) (whole_reads (masks_layout l 1024 (omega arith)) cycle (n.1, n.2, h.1))
laid_reads l (Claim.run (m ∷ lead) cycle) n h =
    ap (λ (g : Got (List ℕ)). next g (λ lead r. next (counted 1024 (mask l) r) (λ cycle q. ended (Claim.run lead cycle) q)))
    ((masks_layout l 1023 (omega arith)).reads (m ∷ lead) (listed (big 2) cycle) (omega arith, n.0, h.0))
    ∙ ap (λ (g : Got (List ℕ)). next g (λ cycle r. ended (Claim.run (m ∷ lead) cycle) r)) (whole_reads (masks_layout l 1024 (omega arith)) cycle (n.1, n.2, h.1))
laid_reads l (Claim.graph nodes) n h =
    ap (λ (g : Got (List Ranked)). next g (λ nodes r. ended (Claim.graph nodes) r)) (whole_reads (nodes_layout l) nodes (n.0, n.1, h))

cond_parts : {A : Type 0} (t : Bool) (x y : Got A) (a : A) (r : List ℕ) → cond t x y ≡ got a r → ((t ≡ true) × (x ≡ got a r)) ⊎ ((t ≡ false) × (y ≡ got a r))
cond_parts true x y a r h = inl (refl, h)
cond_parts false x y a r h = inr (refl, h)

alone : (l : Limits) (bs : List ℕ) (c : Claim) → next (counted 1024 (mask l) bs) (λ cycle r. ended (Claim.run [] cycle) r) ≡ got c [] → Lays l c (2 ∷ bs)
alone l bs c h =
    let x = next_parts (counted 1024 (mask l) bs) (λ cycle r. ended (Claim.run [] cycle) r) c [] h in
    let e = ended_only (Claim.run [] x.0) c x.1.0 [] x.1.2 in
    let o = (masks_layout l 1024 (omega arith)).only bs x.0 x.1.0 x.1.1 in
    subst (λ (d : Claim). Lays l d (2 ∷ bs)) e.0 (record {
      counts = (omega arith, o.0.0, o.0.1);
      within = (tt, o.0.2);
      bytes_are = ap (λ (z : List ℕ). 2 ∷ z) (o.1 ∙ ap (λ (z : List ℕ). listed (big 2) x.0 ++ z) e.1 ∙ append-nil (listed (big 2) x.0));
    })

led_by : (l : Limits) (bs : List ℕ) (lead cycle : List ℕ) → (1 ≤ length lead) × (length lead ≤ 1023) × Every (Bits l.signals) lead
    → (1 ≤ length cycle) × (length cycle ≤ 1024) × Every (Bits l.signals) cycle → bs ≡ listed (big 2) lead ++ listed (big 2) cycle
    → Lays l (Claim.run lead cycle) (3 ∷ bs)
led_by l bs [] cycle a b e = absurd (omega (arith, a.0))
led_by l bs (m ∷ lead) cycle a b e = record { counts = (a.1, b.0, b.1); within = (a.2, b.2); bytes_are = ap (λ (z : List ℕ). 3 ∷ z) e }

led : (l : Limits) (bs : List ℕ) (c : Claim)
    → next (counted 1023 (mask l) bs) (λ lead r. next (counted 1024 (mask l) r) (λ cycle q. ended (Claim.run lead cycle) q)) ≡ got c [] → Lays l c (3 ∷ bs)
led l bs c h =
    let x = next_parts (counted 1023 (mask l) bs) (λ lead r. next (counted 1024 (mask l) r) (λ cycle q. ended (Claim.run lead cycle) q)) c [] h in
    let y = next_parts (counted 1024 (mask l) x.1.0) (λ cycle q. ended (Claim.run x.0 cycle) q) c [] x.1.2 in
    let e = ended_only (Claim.run x.0 y.0) c y.1.0 [] y.1.2 in
    let o = (masks_layout l 1023 (omega arith)).only bs x.0 x.1.0 x.1.1 in
    let p = (masks_layout l 1024 (omega arith)).only x.1.0 y.0 y.1.0 y.1.1 in
    subst (λ (d : Claim). Lays l d (3 ∷ bs)) e.0
    (led_by l bs x.0 y.0 o.0 p.0
    (o.1 ∙ ap (λ (z : List ℕ). listed (big 2) x.0 ++ z) (p.1 ∙ ap (λ (z : List ℕ). listed (big 2) y.0 ++ z) e.1 ∙ append-nil (listed (big 2) y.0))))

drawn : (l : Limits) (bs : List ℕ) (c : Claim) → next (counted 1024 (node l) bs) (λ nodes r. ended (Claim.graph nodes) r) ≡ got c [] → Lays l c (4 ∷ bs)
drawn l bs c h =
    let x = next_parts (counted 1024 (node l) bs) (λ nodes r. ended (Claim.graph nodes) r) c [] h in
    let e = ended_only (Claim.graph x.0) c x.1.0 [] x.1.2 in
    let o = (nodes_layout l).only bs x.0 x.1.0 x.1.1 in
    subst (λ (d : Claim). Lays l d (4 ∷ bs)) e.0 (record {
      counts = (o.0.0, o.0.1);
      within = o.0.2;
      bytes_are = ap (λ (z : List ℕ). 4 ∷ z) (o.1 ∙ ap (λ (z : List ℕ). listed node_bytes x.0 ++ z) e.1 ∙ append-nil (listed node_bytes x.0));
    })

at_map : (l : Limits) (m k : ℕ) (bs r : List ℕ) (c : Claim) → eqb m k ≡ true → bs ≡ m ∷ r → Lays l c (k ∷ r) → Lays l c bs
at_map l m k bs r c e b h = subst (λ (z : List ℕ). Lays l c z) (sym (b ∙ ap (λ (x : ℕ). x ∷ r) (eqb-true m k e))) h

pub read_only : (l : Limits) (bs : List ℕ) (c : Claim) → record_of l bs ≡ got c [] → Lays l c bs
read_only l bs c h =
    let x = next_parts (byte bs) (λ m r. body l m r) c [] h in
    let m : ℕ = x.0 in
    let r : List ℕ = x.1.0 in
    let b : bs ≡ m ∷ r = (byte_only bs m r x.1.1).1 in
    elim (cond_parts (eqb m 2) _ _ c [] x.1.2) [
      | inl p ↦ at_map l m 2 bs r c p.0 b (alone l r c p.1)
      | inr p ↦ elim (cond_parts (eqb m 3) _ _ c [] p.1) [
        | inl q ↦ at_map l m 3 bs r c q.0 b (led l r c q.1)
        | inr q ↦ elim (cond_parts (eqb m 4) _ _ c [] q.1) [
          | inl s ↦ at_map l m 4 bs r c s.0 b (drawn l r c s.1)
          | inr s ↦ absurd (lost_got c [] s.1)
        ]
      ]
    ]

-- lawful bytes are read as the claim whose record they are
pub lays_read : (l : Limits) (c : Claim) (bs : List ℕ) → Lays l c bs → record_of l bs ≡ got c []
lays_read l c bs h = ap (record_of l) h.bytes_are ∙ laid_reads l c h.counts h.within

pub lays_one : (l : Limits) (c d : Claim) (bs : List ℕ) → Lays l c bs → Lays l d bs → c ≡ d
lays_one l c d bs h k = same_value c d [] [] (sym (lays_read l c bs h) ∙ lays_read l d bs k)

pub lost_none : (l : Limits) (c : Claim) (bs : List ℕ) → record_of l bs ≡ lost → Lays l c bs → ⊥
lost_none l c bs e h = lost_got c [] (sym e ∙ lays_read l c bs h)

-- what is read is the claim whose record it is, and a refusal says that it is the record of none
pub read_as : (l : Limits) (bs : List ℕ) (o : Option coded.Claim) → record_of l bs ≡ understood o → ReadAs l bs (ok_or o Record) × Alone l bs (ok_or o Record)
read_as l bs None e = ((refl, λ d k. lost_none l d bs e k), tt)
read_as l bs (Some c) e = let h = read_only l bs (claim_of c) e in (h, λ d k. lays_one l d (claim_of c) bs k h)

-- Two claims may be lawful under different limits: both are, where every bit may stand.
widest : Limits
widest = record { signals = 16; lines = 128; eventualities = 16 }

every_weaker : {A : Type 0} (P Q : A → Type 0) → ((a : A) → P a → Q a) → (xs : List A) → Every P xs → Every Q xs
every_weaker P Q f [] h = tt
every_weaker P Q f (x ∷ xs) h = (f x h.0, every_weaker P Q f xs h.1)

wider : (l : Limits) (c : Claim) → Within l c → Within widest c
unfolding widest
wider l (Claim.run lead cycle) h =
    (every_weaker (Bits l.signals) (Bits 16) (λ m b. (b.0, b.0)) lead h.0, every_weaker (Bits l.signals) (Bits 16) (λ m b. (b.0, b.0)) cycle h.1)
wider l (Claim.graph nodes) h =
    every_weaker (NodeWithin l) (NodeWithin widest)
    (λ n b. record { label = b.wide; wide = b.wide; marks = (b.marks.0, b.marks.0); history = (b.history.0, b.history.0); rank = b.rank }) nodes h

pub one_layout : OneLayout
one_layout = record {
  one_claim = lays_one;
  no_two = λ l m c d n w o v e.
      lays_one widest c d (laid c) (record { counts = n; within = wider l c w; bytes_are = refl }) (record { counts = o; within = wider m d v; bytes_are = e });
  lawful = λ l c n w. record { counts = n; within = w; bytes_are = refl };
  one_record = λ l c bytes more h k. h.bytes_are ∙ sym k.bytes_are;
  short = length_laid;
}
