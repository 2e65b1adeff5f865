-- A reading and a layout that are each other's inverse, and the laws by which they are put together.
use Rattle.std.specs.Prelude.{◌≡◌, ℕ, zero, suc, ◌+◌, ◌*◌, ◌/◌, ◌%◌, ◌^◌, ◌<◌, ◌≤◌, Bool, true, false, ◌&&◌, List, [], ◌∷◌, ◌++◌, length, ◌≢◌, nat_le, nat_lt, refl}
use Rattle.std.proofs.Common.{sym, ap, ◌∙◌, subst, append_assoc, arith, add-mul, mul_assoc}
use Rattle.std.proofs.Math.Nat.{pow-succ'}
use Rattle.std.proofs.Math.Arith.{digits_lt, digits_div, digits_mod}
use Rattle.std.proofs.lemmas.Nat.{div-add-mod', div_below, mod_below}
use Rattle.std.proofs.lemmas.Bool.{ltb-true, lt-ltb, leb-true, le-leb, and_parts, and_from}
use Rattle.records.specs.Claims.{big, each, listed, Every}
use Rattle.records.specs.Parsing.{Got, lost, got, next, check, byte, number, many, count, counted}

-- p reads the layouts e of what W allows, and nothing else
pub record Layout {A : Type 0} (p : List ℕ → Got A) (e : A → List ℕ) (W : A → Type 0) : Type 0 where
  pub reads : (a : A) (r : List ℕ) → W a → p (e a ++ r) ≡ got a r
  pub only : (bs : List ℕ) (a : A) (r : List ℕ) → p bs ≡ got a r → W a × (bs ≡ e a ++ r)

pub lost_got : {A : Type 0} (a : A) (r : List ℕ) → lost ≢ got a r
lost_got a r h = let z : ◌≡◌ {A = ℕ} 0 1 = cc in omega arith

pub same_value : {A : Type 0} (a b : A) (r q : List ℕ) → got a r ≡ got b q → a ≡ b
same_value a b r q h = cc

pub same_rest : {A : Type 0} (a b : A) (r q : List ℕ) → got a r ≡ got b q → r ≡ q
same_rest a b r q h = cc

pub next_parts : {A B : Type 0} (g : Got A) (f : A → List ℕ → Got B) (b : B) (q : List ℕ) → next g f ≡ got b q
    → (a : A) × ((r : List ℕ) × (g ≡ got a r) × (f a r ≡ got b q))
next_parts lost f b q h = absurd (lost_got b q h)
next_parts (got a r) f b q h = (a, (r, refl, h))

pub check_parts : {A : Type 0} (t : Bool) (g : Got A) (a : A) (r : List ℕ) → check t g ≡ got a r → (t ≡ true) × (g ≡ got a r)
check_parts true g a r h = (refl, h)
check_parts false g a r h = absurd (lost_got a r h)

pub byte_only : (bs : List ℕ) (b : ℕ) (r : List ℕ) → byte bs ≡ got b r → (b < 256) × (bs ≡ b ∷ r)
byte_only [] b r h = absurd (lost_got b r h)
byte_only (x ∷ bs) b r h =
    let c = check_parts (nat_lt x 256) (got x bs) b r h in
    let e : x ≡ b = same_value x b bs r c.1 in
    let l : x < 256 = ltb-true x 256 c.0 in
    (omega arith, let f = c.1 in cc)

pub byte_reads : (b : ℕ) (r : List ℕ) → b < 256 → byte (b ∷ r) ≡ got b r
byte_reads b r h = rw (lt-ltb b 256 h)

pub base_pos : (k : ℕ) → 0 < 256 ^ k
base_pos zero = omega arith
base_pos (suc k) = let h = base_pos k in rw pow-succ' (omega arith)

-- a number's value, digit by digit
carry : (v n k : ℕ) → (v * 256 + n / 256 ^ k) * 256 ^ k + n % 256 ^ k ≡ v * 256 ^ suc k + n
carry v n k =
    let a = add-mul (v * 256) (n / 256 ^ k) (256 ^ k) in
    let b = mul_assoc v 256 (256 ^ k) in
    let e : v * 256 ^ suc k ≡ v * (256 * 256 ^ k) = ap (λ (x : ℕ). v * x) (pow-succ' 256 k) in
    let d = div-add-mod' n (256 ^ k) in
    omega arith

pub number_reads : (k v n : ℕ) (r : List ℕ) → n < 256 ^ k → number k v (big k n ++ r) ≡ got (v * 256 ^ k + n) r
unfolding number big
number_reads zero v n r h = ap (λ (x : ℕ). got x r) (omega arith)
number_reads (suc k) v n r h =
    let p = pow-succ' 256 k in
    let q : n / 256 ^ k < 256 = div_below n (256 ^ k) 256 (base_pos k) (omega arith) in
    rw (lt-ltb (n / 256 ^ k) 256 q)
    (number_reads k (v * 256 + n / 256 ^ k) (n % 256 ^ k) r (mod_below n (256 ^ k) (base_pos k))
    ∙ ap (λ (x : ℕ). got x r) (carry v n k))

pub number_only : (k v : ℕ) (bs : List ℕ) (w : ℕ) (r : List ℕ) → number k v bs ≡ got w r
    → (n : ℕ) × ((n < 256 ^ k) × (w ≡ v * 256 ^ k + n) × (bs ≡ big k n ++ r))
unfolding number big
number_only zero v bs w r h = (0, (omega arith, (let e = same_value v w bs r h in omega arith), same_rest v w bs r h))
number_only (suc k) v bs w r h =
    let P : ℕ = 256 ^ k in
    let c = next_parts (byte bs) (λ b r. number k (v * 256 + b) r) w r h in
    let b : ℕ = c.0 in
    let o = byte_only bs b c.1.0 c.1.1 in
    let i = number_only k (v * 256 + b) c.1.0 w r c.1.2 in
    let m : ℕ = i.0 in
    let ml : m < 256 ^ k = i.1.0 in
    let n : ℕ = b * 256 ^ k + m in
    let dv : (b * 256 ^ k + m) / 256 ^ k ≡ b = digits_div b ml in
    let md : (b * 256 ^ k + m) % 256 ^ k ≡ m = digits_mod b ml in
    let lt : b * 256 ^ k + m < 256 * 256 ^ k = digits_lt o.0 ml in
    let s : 256 ^ suc k ≡ 256 * 256 ^ k = pow-succ' 256 k in (
      b * 256 ^ k + m,
      (
        omega arith,
        i.1.1 ∙ ap (λ (x : ℕ). (v * 256 + x) * 256 ^ k + m) (sym dv) ∙ ap (λ (x : ℕ). (v * 256 + (b * 256 ^ k + m) / 256 ^ k) * 256 ^ k + x) (sym md) ∙ carry v (b * 256 ^ k + m) k,
        o.1 ∙ rw (dv, md) (ap (λ (x : List ℕ). b ∷ x) i.1.2),
      ),
    )

-- a number of k bytes
pub number_layout : (k : ℕ) → Layout (number k 0) (big k) (λ n. n < 256 ^ k)
number_layout k = record {
  reads = λ n r h. number_reads k 0 n r h ∙ ap (λ (x : ℕ). got x r) (omega arith);
  only = λ bs w r h.
      let i = number_only k 0 bs w r h in
      let e : i.0 ≡ w = omega (arith, i.1.1) in
      (subst (λ (x : ℕ). x < 256 ^ k) e i.1.0, subst (λ (x : ℕ). bs ≡ big k x ++ r) e i.1.2);
}

-- with a test on the value
pub tested : {A : Type 0} {p : List ℕ → Got A} {e : A → List ℕ} {W : A → Type 0} → Layout p e W → (t : A → Bool)
    → Layout (λ bs. next (p bs) (λ a r. check (t a) (got a r))) e (λ a. W a × (t a ≡ true))
tested {A} {p} {e} {W} l t = record {
  reads = λ a r h. simp (l.reads a r h.0, h.1);
  only = λ bs a r h.
      let c = next_parts (p bs) (λ a r. check (t a) (got a r)) a r h in
      let d = check_parts (t c.0) (got c.0 c.1.0) a r c.1.2 in
      let v : c.0 ≡ a = same_value c.0 a c.1.0 r d.1 in
      let o = l.only bs c.0 c.1.0 c.1.1 in
      let s : c.1.0 ≡ r = same_rest c.0 a c.1.0 r d.1 in
      (subst (λ (x : A). W x × (t x ≡ true)) v (o.0, d.0), o.1 ∙ subst (λ (x : A). e c.0 ++ c.1.0 ≡ e x ++ r) v (ap (λ (x : List ℕ). e c.0 ++ x) s));
}

pub many_layout : {A : Type 0} {p : List ℕ → Got A} {e : A → List ℕ} {W : A → Type 0} → Layout p e W → (n : ℕ)
    → Layout (many n p) (each e) (λ xs. (length xs ≡ n) × Every W xs)
unfolding many each
many_layout {A} {p} {e} {W} l n = record { reads = reads n; only = only n }
  where
    reads : (n : ℕ) (xs : List A) (r : List ℕ) → (length xs ≡ n) × Every W xs → many n p (each e xs ++ r) ≡ got xs r
    reads zero [] r h = refl
    reads zero (x ∷ xs) r h = absurd (omega (arith, h.0))
    reads (suc n) [] r h = absurd (omega (arith, h.0))
    reads (suc n) (x ∷ xs) r h =
        let le : length xs ≡ n = omega (arith, h.0) in
        simp (append_assoc (e x) (each e xs) r, l.reads x (each e xs ++ r) h.1.0, reads n xs r (le, h.1.1))

    only : (n : ℕ) (bs : List ℕ) (xs : List A) (r : List ℕ) → many n p bs ≡ got xs r → ((length xs ≡ n) × Every W xs) × (bs ≡ each e xs ++ r)
    only zero bs xs r h =
        let v : [] ≡ xs = same_value [] xs bs r h in
        subst (λ (ys : List A). ((length ys ≡ 0) × Every W ys) × (bs ≡ each e ys ++ r)) v ((refl, tt), same_rest [] xs bs r h)
    only (suc n) bs xs r h =
        let c = next_parts (p bs) (λ a r. next (many n p r) (λ ys q. got (a ∷ ys) q)) xs r h in
        let d = next_parts (many n p c.1.0) (λ ys q. got (c.0 ∷ ys) q) xs r c.1.2 in
        let v : c.0 ∷ d.0 ≡ xs = same_value (c.0 ∷ d.0) xs d.1.0 r d.1.2 in
        let s : d.1.0 ≡ r = same_rest (c.0 ∷ d.0) xs d.1.0 r d.1.2 in
        let o = l.only bs c.0 c.1.0 c.1.1 in
        let i = only n c.1.0 d.0 d.1.0 d.1.1 in
        subst (λ (ys : List A). ((length ys ≡ suc n) × Every W ys) × (bs ≡ each e ys ++ r)) v (
          (ap suc i.0.0, (o.0, i.0.1)),
          o.1 ∙ ap (λ (z : List ℕ). e c.0 ++ z) (i.1 ∙ ap (λ (z : List ℕ). each e d.0 ++ z) s) ∙ sym (append_assoc (e c.0) (each e d.0) r),
        )

pub count_layout : (top : ℕ) → Layout (count top) (big 2) (λ n. (n < 256 ^ 2) × ((nat_le 1 n && nat_le n top) ≡ true))
count_layout top = tested (number_layout 2) (λ n. nat_le 1 n && nat_le n top)

pub count_most : (top : ℕ) (bs : List ℕ) (n : ℕ) (r : List ℕ) → count top bs ≡ got n r → n ≤ top
count_most top bs n r h = let o = (count_layout top).only bs n r h in leb-true n top (and_parts (nat_le 1 n) (nat_le n top) o.0.1).1

pub counted_layout : {A : Type 0} {p : List ℕ → Got A} {e : A → List ℕ} {W : A → Type 0} → Layout p e W → (top : ℕ) → top < 65536
    → Layout (counted top p) (listed e) (λ xs. (1 ≤ length xs) × (length xs ≤ top) × Every W xs)
counted_layout {A} {p} {e} {W} l top small = record {
  reads = λ xs r h.
      let n : ℕ = length xs in
      let lo : 1 ≤ length xs = h.0 in
      let hi : length xs ≤ top = h.1 in
      ap (counted top p) (append_assoc (big 2 n) (each e xs) r)
      ∙ ap (λ (g : Got ℕ). next g (λ n r. many n p r)) ((count_layout top).reads n (each e xs ++ r) (omega arith, and_from (nat_le 1 n) (nat_le n top) (le-leb 1 n lo) (le-leb n top hi)))
      ∙ (many_layout l n).reads xs r (refl, h.2);
  only = λ bs xs r h.
      let c = next_parts (count top bs) (λ n r. many n p r) xs r h in
      let n : ℕ = c.0 in
      let o = (count_layout top).only bs n c.1.0 c.1.1 in
      let t = and_parts (nat_le 1 n) (nat_le n top) o.0.1 in
      let m = (many_layout l n).only c.1.0 xs r c.1.2 in
      let len : length xs ≡ c.0 = m.0.0 in
      let lo : 1 ≤ c.0 = leb-true 1 n t.0 in
      let hi : c.0 ≤ top = leb-true n top t.1 in (
        (omega arith, omega arith, m.0.1),
        o.1 ∙ ap (λ (z : List ℕ). big 2 n ++ z) m.1 ∙ ap (λ (k : ℕ). big 2 k ++ (each e xs ++ r)) (sym len) ∙ sym (append_assoc (big 2 (length xs)) (each e xs) r),
      );
}

pub allowed : {A : Type 0} {p : List ℕ → Got A} {e : A → List ℕ} {W V : A → Type 0} → Layout p e W → ((a : A) → W a → V a) → ((a : A) → V a → W a) → Layout p e V
allowed l f g = record { reads = λ a r h. l.reads a r (g a h); only = λ bs a r h. let o = l.only bs a r h in (f a o.0, o.1) }
