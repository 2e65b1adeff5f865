-- The layouts of masks and of nodes.
use Rattle.std.specs.Prelude.{◌≡◌, ℕ, zero, suc, ◌+◌, ◌*◌, ◌/◌, ◌%◌, ◌^◌, ◌<◌, Bool, true, false, cond, not, ◌&&◌, ltb, ◌⊎◌, List, [], ◌∷◌, ◌++◌, ◌==◌, nat_eq, nat_lt, refl}
use Rattle.std.proofs.Common.{sym, ap, ◌∙◌, subst, append_assoc, inl, inr, arith}
use Rattle.std.proofs.Math.Arith.{digits_div, digits_mod}
use Rattle.std.proofs.lemmas.Nat.{div-add-mod', div_below}
use Rattle.std.proofs.lemmas.Bool.{ltb-true, lt-ltb, and_parts, and_from, eqb-true, eqb-false, not-true, not_from_false}
use Rattle.rules.specs.Runs.{on}
use Rattle.graph.specs.declared.node.Ranked.{Ranked}
use Rattle.graph.specs.Sets.{has}
use Rattle.records.specs.declared.limits.Limits.{Limits}
use Rattle.records.specs.Claims.{big, field, flag, low, high, map_of, node_bytes, Bits, NodeWithin}
use Rattle.records.specs.Parsing.{Got, lost, got, next, check, byte, number, mask, taken, fitting, ranked, fields, node, parts, any_node}
use Rattle.records.specs.Codes.{Layout, same_value, same_rest, next_parts, check_parts, byte_only, byte_reads, number_layout, tested, allowed}

pub mask_layout : (l : Limits) → Layout (mask l) (big 2) (Bits l.signals)
mask_layout l =
    allowed (tested (number_layout 2) (λ m. ltb m (2 ^ l.signals)))
    (λ m h. (h.0, ltb-true m (2 ^ l.signals) h.1)) (λ m h. (h.0, lt-ltb m (2 ^ l.signals) h.1))

-- fields that may be absent

taken_by : (k v : ℕ) (r : List ℕ) (t : Bool) → (v == 0) ≡ t → v < 256 ^ k → taken k (not t) (cond t [] (big k v) ++ r) ≡ got v r
taken_by k v r true e h = ap (λ (x : ℕ). got x r) (sym (eqb-true v 0 e))
taken_by k v r false e h =
    ap (λ (g : Got ℕ). next g (λ v r. check (not (v == 0)) (got v r))) ((number_layout k).reads v r h)
    ∙ ap (λ (t : Bool). check (not t) (got v r)) e

taken_step : {B : Type 0} (k v : ℕ) (t : Bool) (r : List ℕ) (F : ℕ → List ℕ → Got B) → t ≡ not (v == 0) → v < 256 ^ k → next (taken k t (field k v ++ r)) F ≡ F v r
taken_step k v t r F e h =
    ap (λ (u : Bool). next (taken k u (field k v ++ r)) F) e ∙ ap (λ (g : Got ℕ). next g F) (taken_by k v r (v == 0) refl h)

taken_only : (k : ℕ) (t : Bool) (bs : List ℕ) (v : ℕ) (r : List ℕ) → 0 < 256 ^ k → taken k t bs ≡ got v r → (v < 256 ^ k) × (t ≡ not (v == 0)) × (bs ≡ field k v ++ r)
taken_only k false bs v r pos h =
    let e : 0 ≡ v = same_value 0 v bs r h in
    subst (λ (x : ℕ). (x < 256 ^ k) × (false ≡ not (x == 0)) × (bs ≡ field k x ++ r)) e (pos, refl, same_rest 0 v bs r h)
taken_only k true bs v r pos h =
    let c = next_parts (number k 0 bs) (λ v r. check (not (v == 0)) (got v r)) v r h in
    let d = check_parts (not (c.0 == 0)) (got c.0 c.1.0) v r c.1.2 in
    let w : c.0 ≡ v = same_value c.0 v c.1.0 r d.1 in
    let s : c.1.0 ≡ r = same_rest c.0 v c.1.0 r d.1 in
    let o = (number_layout k).only bs c.0 c.1.0 c.1.1 in
    let z : nat_eq v 0 ≡ false = subst (λ (x : ℕ). (x == 0) ≡ false) w (not-true (c.0 == 0) d.0) in (
      subst (λ (x : ℕ). x < 256 ^ k) w o.0,
      sym (not_from_false (v == 0) z),
      o.1 ∙ ap (λ (z : List ℕ). big k c.0 ++ z) s ∙ ap (λ (x : ℕ). big k x ++ r) w ∙ ap (λ (t : Bool). cond t [] (big k v) ++ r) (sym z),
    )

-- a node's map says which of its fields are there

flag_le : (t : Bool) → cond {A = ℕ} t 0 1 < 2
flag_le true = omega arith
flag_le false = omega arith

flag_on : (t : Bool) (x : ℕ) → x ≡ cond {A = ℕ} t 0 1 → (x == 1) ≡ not t
flag_on true x e = rw e
flag_on false x e = rw e

flag_from : (t : Bool) (x : ℕ) → x < 2 → (x == 1) ≡ not t → cond {A = ℕ} t 0 1 ≡ x
flag_from true x h e = let n = eqb-false x 1 e in elim (cases_two x h) [ inl z ↦ sym z | inr o ↦ absurd (n o) ]
  where
    cases_two : (x : ℕ) → x < 2 → (x ≡ 0) ⊎ (x ≡ 1)
    cases_two zero h = inl refl
    cases_two (suc zero) h = inr refl
    cases_two (suc (suc x)) h = absurd (omega arith)
flag_from false x h e = sym (eqb-true x 1 e)

pub record Flags (m a b c d e : ℕ) : Type 0 where
  pub f0 : has m 0 ≡ not (a == 0)
  pub f1 : has m 1 ≡ not (b == 0)
  pub f2 : has m 2 ≡ not (c == 0)
  pub f3 : has m 3 ≡ not (d == 0)
  pub f4 : has m 4 ≡ not (e == 0)

map_below : (a b c d e : ℕ) → map_of a b c d e < 32
map_below a b c d e =
    let p = flag_le (a == 0) in let q = flag_le (b == 0) in let r = flag_le (c == 0) in let s = flag_le (d == 0) in let t = flag_le (e == 0) in
    omega arith

map_flags : (a b c d e : ℕ) → Flags (map_of a b c d e) a b c d e
unfolding on
map_flags a b c d e =
    let p = flag_le (a == 0) in let q = flag_le (b == 0) in let r = flag_le (c == 0) in let s = flag_le (d == 0) in let t = flag_le (e == 0) in
    record {
      f0 = flag_on (a == 0) _ (omega arith);
      f1 = flag_on (b == 0) _ (omega arith);
      f2 = flag_on (c == 0) _ (omega arith);
      f3 = flag_on (d == 0) _ (omega arith);
      f4 = flag_on (e == 0) _ (omega arith);
    }

flags_map : (m a b c d e : ℕ) → m < 32 → Flags m a b c d e → map_of a b c d e ≡ m
unfolding on
flags_map m a b c d e h f =
    let p : flag a ≡ m / 1 % 2 = flag_from (a == 0) (m / 1 % 2) (omega arith) f.f0 in
    let q : flag b ≡ m / 2 % 2 = flag_from (b == 0) (m / 2 % 2) (omega arith) f.f1 in
    let r : flag c ≡ m / 4 % 2 = flag_from (c == 0) (m / 4 % 2) (omega arith) f.f2 in
    let s : flag d ≡ m / 8 % 2 = flag_from (d == 0) (m / 8 % 2) (omega arith) f.f3 in
    let t : flag e ≡ m / 16 % 2 = flag_from (e == 0) (m / 16 % 2) (omega arith) f.f4 in
    let h2 : m / 4 ≡ m / 2 / 2 = omega arith in
    let h3 : m / 8 ≡ m / 4 / 2 = omega arith in
    let h4 : m / 16 ≡ m / 8 / 2 = omega arith in
    let h5 : m / 16 < 2 = omega arith in
    omega arith

-- the two halves of a label

halves : (x : ℕ) → high x * 2 ^ 64 + low x ≡ x
unfolding low high
halves x = div-add-mod' x (2 ^ 64)

low_below : (x : ℕ) → low x < 2 ^ 64
unfolding low
low_below x = omega arith

high_below : (x : ℕ) → x < 2 ^ 128 → high x < 2 ^ 64
unfolding high
high_below x h = div_below x (2 ^ 64) (2 ^ 64) (omega arith) h

low_is : (a b : ℕ) → a < 2 ^ 64 → low (b * 2 ^ 64 + a) ≡ a
unfolding low
low_is a b h = digits_mod b h

high_is : (a b : ℕ) → a < 2 ^ 64 → high (b * 2 ^ 64 + a) ≡ b
unfolding high
high_is a b h = digits_div b h

-- a node's fields and what follows them, and its bytes by its fields

pub after : ℕ → ℕ → ℕ → ℕ → ℕ → List ℕ → List ℕ
after a b c d e r = field 8 a ++ (field 8 b ++ (field 2 c ++ (field 2 d ++ (field 2 e ++ r))))

unfoldable pub bytes_of : ℕ → ℕ → ℕ → ℕ → ℕ → List ℕ
bytes_of a b c d e = map_of a b c d e ∷ (field 8 a ++ (field 8 b ++ (field 2 c ++ (field 2 d ++ field 2 e))))

bytes_after : (a b c d e : ℕ) (r : List ℕ) → bytes_of a b c d e ++ r ≡ map_of a b c d e ∷ after a b c d e r
unfolding bytes_of after
bytes_after a b c d e r =
    ap (λ (z : List ℕ). map_of a b c d e ∷ z)
    (append_assoc (field 8 a) (field 8 b ++ (field 2 c ++ (field 2 d ++ field 2 e))) r
    ∙ ap (λ (z : List ℕ). field 8 a ++ z) (append_assoc (field 8 b) (field 2 c ++ (field 2 d ++ field 2 e)) r
    ∙ ap (λ (z : List ℕ). field 8 b ++ z) (append_assoc (field 2 c) (field 2 d ++ field 2 e) r
    ∙ ap (λ (z : List ℕ). field 2 c ++ z) (append_assoc (field 2 d) (field 2 e) r))))

fields_read : (l : Limits) (m a b c d e : ℕ) (r : List ℕ) → Flags m a b c d e → a < 2 ^ 64 → b < 2 ^ 64 → c < 2 ^ 16 → d < 2 ^ 16 → e < 2 ^ 16
    → fields l m (after a b c d e r) ≡ check (fitting l (ranked a b c d e).node) (got (ranked a b c d e) r)
unfolding after
fields_read l m a b c d e r f ha hb hc hd he =
    taken_step 8 a (has m 0) (field 8 b ++ (field 2 c ++ (field 2 d ++ (field 2 e ++ r)))) _ f.f0 ha
    ∙ taken_step 8 b (has m 1) (field 2 c ++ (field 2 d ++ (field 2 e ++ r))) _ f.f1 hb
    ∙ taken_step 2 c (has m 2) (field 2 d ++ (field 2 e ++ r)) _ f.f2 hc
    ∙ taken_step 2 d (has m 3) (field 2 e ++ r) _ f.f3 hd
    ∙ taken_step 2 e (has m 4) r _ f.f4 he

-- what was taken from the bytes of a node's fields
pub record Taken (l : Limits) (m : ℕ) (bs : List ℕ) (n : Ranked) (r : List ℕ) : Type 0 where
  pub a : ℕ
  pub b : ℕ
  pub c : ℕ
  pub d : ℕ
  pub e : ℕ
  pub flags : Flags m a b c d e
  pub small_a : a < 2 ^ 64
  pub small_b : b < 2 ^ 64
  pub small_c : c < 2 ^ 16
  pub small_d : d < 2 ^ 16
  pub small_e : e < 2 ^ 16
  pub fits : fitting l (ranked a b c d e).node ≡ true
  pub is : ranked a b c d e ≡ n
  pub bytes : bs ≡ after a b c d e r

fields_only : (l : Limits) (m : ℕ) (bs : List ℕ) (n : Ranked) (r : List ℕ) → fields l m bs ≡ got n r → Taken l m bs n r
unfolding after
fields_only l m bs n r h =
    let c1 = next_parts (taken 8 (has m 0) bs) _ n r h in
    let t1 = taken_only 8 (has m 0) bs c1.0 c1.1.0 (omega arith) c1.1.1 in
    let c2 = next_parts (taken 8 (has m 1) c1.1.0) _ n r c1.1.2 in
    let t2 = taken_only 8 (has m 1) c1.1.0 c2.0 c2.1.0 (omega arith) c2.1.1 in
    let c3 = next_parts (taken 2 (has m 2) c2.1.0) _ n r c2.1.2 in
    let t3 = taken_only 2 (has m 2) c2.1.0 c3.0 c3.1.0 (omega arith) c3.1.1 in
    let c4 = next_parts (taken 2 (has m 3) c3.1.0) _ n r c3.1.2 in
    let t4 = taken_only 2 (has m 3) c3.1.0 c4.0 c4.1.0 (omega arith) c4.1.1 in
    let c5 = next_parts (taken 2 (has m 4) c4.1.0) _ n r c4.1.2 in
    let t5 = taken_only 2 (has m 4) c4.1.0 c5.0 c5.1.0 (omega arith) c5.1.1 in
    let N : Ranked = ranked c1.0 c2.0 c3.0 c4.0 c5.0 in
    let k = check_parts (fitting l N.node) (got N c5.1.0) n r c5.1.2 in
    record {
      a = c1.0;
      b = c2.0;
      c = c3.0;
      d = c4.0;
      e = c5.0;
      flags = record { f0 = t1.1; f1 = t2.1; f2 = t3.1; f3 = t4.1; f4 = t5.1 };
      small_a = t1.0;
      small_b = t2.0;
      small_c = t3.0;
      small_d = t4.0;
      small_e = t5.0;
      fits = k.0;
      is = same_value N n c5.1.0 r k.1;
      bytes =
          t1.2 ∙ ap (λ (z : List ℕ). field 8 c1.0 ++ z) (t2.2 ∙ ap (λ (z : List ℕ). field 8 c2.0 ++ z) (t3.2 ∙ ap (λ (z : List ℕ). field 2 c3.0 ++ z)
          (t4.2 ∙ ap (λ (z : List ℕ). field 2 c4.0 ++ z) (t5.2 ∙ ap (λ (z : List ℕ). field 2 c5.0 ++ z) (same_rest N n c5.1.0 r k.1)))));
    }

taken_within : (l : Limits) (a b c d e : ℕ) → a < 2 ^ 64 → b < 2 ^ 64 → c < 2 ^ 16 → d < 2 ^ 16 → e < 2 ^ 16 → fitting l (ranked a b c d e).node ≡ true
    → NodeWithin l (ranked a b c d e)
taken_within l a b c d e ha hb hc hd he f =
    let p = and_parts (nat_lt (b * 2 ^ 64 + a) (2 ^ l.lines)) (nat_lt c (2 ^ l.eventualities) && nat_lt d (2 ^ l.eventualities)) f in
    let q = and_parts (nat_lt c (2 ^ l.eventualities)) (nat_lt d (2 ^ l.eventualities)) p.1 in
    record {
      label = ltb-true (b * 2 ^ 64 + a) (2 ^ l.lines) p.0;
      wide = omega arith;
      marks = (hc, ltb-true c (2 ^ l.eventualities) q.0);
      history = (hd, ltb-true d (2 ^ l.eventualities) q.1);
      rank = he;
    }

taken_bytes : (a b c d e : ℕ) (r : List ℕ) → a < 2 ^ 64 → map_of a b c d e ∷ after a b c d e r ≡ node_bytes (ranked a b c d e) ++ r
unfolding bytes_of
taken_bytes a b c d e r h =
    sym (bytes_after a b c d e r)
    ∙ ap (λ (x : ℕ). bytes_of x b c d e ++ r) (sym (low_is a b h))
    ∙ ap (λ (x : ℕ). bytes_of (low (b * 2 ^ 64 + a)) x c d e ++ r) (sym (high_is a b h))

node_only : (l : Limits) (m : ℕ) (bs q : List ℕ) (n : Ranked) (r : List ℕ) → bs ≡ m ∷ q → m < 32 → Taken l m q n r → NodeWithin l n × (bs ≡ node_bytes n ++ r)
node_only l m bs q n r o h t =
    let map : map_of t.a t.b t.c t.d t.e ≡ m = flags_map m t.a t.b t.c t.d t.e h t.flags in
    subst (λ (x : Ranked). NodeWithin l x × (bs ≡ node_bytes x ++ r)) t.is (
      taken_within l t.a t.b t.c t.d t.e t.small_a t.small_b t.small_c t.small_d t.small_e t.fits,
      o
          ∙ ap (λ (z : List ℕ). m ∷ z) t.bytes
          ∙ ap (λ (x : ℕ). x ∷ after t.a t.b t.c t.d t.e r) (sym map)
          ∙ taken_bytes t.a t.b t.c t.d t.e r t.small_a,
    )

pub node_layout : (l : Limits) → Layout (node l) node_bytes (NodeWithin l)
unfolding bytes_of
node_layout l = record {
  reads = λ n r h.
      let a : ℕ = low n.node.label in
      let b : ℕ = high n.node.label in
      let c : ℕ = n.node.marks in
      let d : ℕ = n.node.history in
      let e : ℕ = n.rank in
      let m : ℕ = map_of a b c d e in
      let hm : map_of a b c d e < 32 = map_below a b c d e in
      let whole : b * 2 ^ 64 + a ≡ n.node.label = halves n.node.label in
      let test : fitting l n.node ≡ true =
      and_from _ _ (lt-ltb n.node.label (2 ^ l.lines) h.label) (and_from _ _ (lt-ltb c (2 ^ l.eventualities) h.marks.1) (lt-ltb d (2 ^ l.eventualities) h.history.1)) in
      ap (node l) (bytes_after a b c d e r)
      ∙ ap (λ (g : Got ℕ). next g (λ m r. check (nat_lt m 32) (fields l m r))) (byte_reads m (after a b c d e r) (omega arith))
      ∙ ap (λ (t : Bool). check t (fields l m (after a b c d e r))) (lt-ltb m 32 hm)
      ∙ fields_read l m a b c d e r (map_flags a b c d e) (low_below n.node.label) (high_below n.node.label h.wide) h.marks.0 h.history.0 h.rank
      ∙ ap (λ (x : ℕ). check (nat_lt x (2 ^ l.lines) && (nat_lt c (2 ^ l.eventualities) && nat_lt d (2 ^ l.eventualities))) (got (record { node = record { label = x; marks = c; history = d }; rank = e }) r)) whole
      ∙ ap (λ (t : Bool). check t (got n r)) test;
  only = λ bs n r h.
      let c = next_parts (byte bs) (λ m r. check (nat_lt m 32) (fields l m r)) n r h in
      let k = check_parts (nat_lt c.0 32) (fields l c.0 c.1.0) n r c.1.2 in
      node_only l c.0 bs c.1.0 n r (byte_only bs c.0 c.1.0 c.1.1).1 (ltb-true c.0 32 k.0) (fields_only l c.0 c.1.0 n r k.1);
}

-- a node within the limits is any node, with their test

next_next : {A B C : Type 0} (g : Got A) (f : A → List ℕ → Got B) (h : B → List ℕ → Got C) → next (next g f) h ≡ next g (λ a r. next (f a r) h)
next_next lost f h = refl
next_next (got a r) f h = refl

next_same : {A B : Type 0} (g : Got A) (f h : A → List ℕ → Got B) → ((a : A) (r : List ℕ) → f a r ≡ h a r) → next g f ≡ next g h
next_same lost f h e = refl
next_same (got a r) f h e = e a r

next_check : {A B : Type 0} (t : Bool) (g : Got A) (h : A → List ℕ → Got B) → next (check t g) h ≡ check t (next g h)
next_check true g h = refl
next_check false g h = refl

parts_mean : (l : Limits) (m : ℕ) (bs : List ℕ) → next (parts m bs) (λ n r. check (fitting l n.node) (got n r)) ≡ fields l m bs
parts_mean l m bs =
    let H : Ranked → List ℕ → Got Ranked = λ n r. check (fitting l n.node) (got n r) in
    next_next (taken 8 (has m 0) bs) _ H ∙ next_same (taken 8 (has m 0) bs) _ _ (λ a r.
    next_next (taken 8 (has m 1) r) _ H ∙ next_same (taken 8 (has m 1) r) _ _ (λ b r.
    next_next (taken 2 (has m 2) r) _ H ∙ next_same (taken 2 (has m 2) r) _ _ (λ c r.
    next_next (taken 2 (has m 3) r) _ H ∙ next_same (taken 2 (has m 3) r) _ _ (λ d r.
    next_next (taken 2 (has m 4) r) _ H))))

pub node_means : (l : Limits) (bs : List ℕ) → node l bs ≡ next (any_node bs) (λ n r. check (fitting l n.node) (got n r))
node_means l bs =
    sym (next_next (byte bs) _ _ ∙ next_same (byte bs) _ _ (λ m r. next_check (nat_lt m 32) (parts m r) _ ∙ ap (check (nat_lt m 32)) (parts_mean l m r)))
