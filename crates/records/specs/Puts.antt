-- One writing after another.
use Rattle.std.specs.Prelude.{◌≡◌, ℕ, zero, suc, ◌+◌, ◌/◌, ◌%◌, ◌^◌, ◌<◌, ◌≤◌, List, [], ◌∷◌, ◌++◌, length, take, drop, slice_set, refl}
use Rattle.std.proofs.Common.{sym, ap, ◌∙◌, subst, append_assoc, arith, length-append, length-drop}
use Rattle.std.proofs.lemmas.List.{take-append-drop, take_at, drop_at, drop-drop, set_split, length-take-le}
use Rattle.records.specs.declared.writer.Writer.{Writer}
use Rattle.records.specs.Appending.{put, Room, Wrote}
use Rattle.records.specs.Claims.{big}

pub length_put : (xs : List ℕ) (i : ℕ) (ys : List ℕ) → i + length ys ≤ length xs → length (put xs i ys) ≡ length xs
unfolding put
length_put xs i ys h =
    let a = length-append (take i xs) (ys ++ drop (i + length ys) xs) in
    let b = length-append ys (drop (i + length ys) xs) in
    let c = length-drop (i + length ys) xs in
    let d = length-take-le i xs (omega arith) in
    omega arith

pub put_put : (xs : List ℕ) (i : ℕ) (ys zs : List ℕ) → i + length ys ≤ length xs → put (put xs i ys) (i + length ys) zs ≡ put xs i (ys ++ zs)
unfolding put
put_put xs i ys zs h =
    let n : ℕ = i + length ys in
    let A : List ℕ = take i xs in
    let D : List ℕ = drop (i + length ys) xs in
    let l : length (take i xs ++ ys) ≡ i + length ys = length-append (take i xs) ys ∙ ap (λ (k : ℕ). k + length ys) (length-take-le i xs (omega arith)) in
    let s : take i xs ++ (ys ++ drop (i + length ys) xs) ≡ (take i xs ++ ys) ++ drop (i + length ys) xs = sym (append_assoc A ys D) in
    let t : take n (A ++ (ys ++ D)) ≡ A ++ ys = ap (take n) s ∙ take_at (A ++ ys) D n l in
    let d : drop (n + length zs) (A ++ (ys ++ D)) ≡ drop (n + length zs) xs =
    ap (drop (n + length zs)) s ∙ sym (drop-drop (length zs) n ((A ++ ys) ++ D)) ∙ ap (drop (length zs)) (drop_at (A ++ ys) D n l) ∙ drop-drop (length zs) n xs in
    let m : n + length zs ≡ i + length (ys ++ zs) = omega (arith, length-append ys zs) in
    ap (λ (a : List ℕ). a ++ (zs ++ drop (n + length zs) (A ++ (ys ++ D)))) t
    ∙ ap (λ (a : List ℕ). (A ++ ys) ++ (zs ++ a)) d
    ∙ append_assoc A ys (zs ++ drop (n + length zs) xs)
    ∙ ap (λ (a : List ℕ). A ++ a) (sym (append_assoc ys zs (drop (n + length zs) xs)))
    ∙ ap (λ (k : ℕ). A ++ ((ys ++ zs) ++ drop k xs)) m

pub set_put : (xs : List ℕ) (i b : ℕ) → i < length xs → slice_set xs i b ≡ put xs i (b ∷ [])
unfolding put
set_put xs i b h = let e : suc i ≡ i + 1 = omega arith in set_split xs i b h ∙ ap (λ (k : ℕ). take i xs ++ b ∷ drop k xs) e

pub put_none : (xs : List ℕ) (i : ℕ) → xs ≡ put xs i []
unfolding put
put_none xs i = let e : i ≡ i + 0 = omega arith in sym (take-append-drop i xs) ∙ ap (λ (k : ℕ). take i xs ++ drop k xs) e

pub wrote_none : (w : Writer) → Wrote w w []
wrote_none w = record { bytes = put_none w.buffer.now w.at; at = omega arith; room = refl; lender = refl }

pub wrote_more : (a b c : Writer) (ys zs : List ℕ) → Room a (length ys) → Wrote a b ys → Wrote b c zs → Wrote a c (ys ++ zs)
wrote_more a b c ys zs h p q = record {
  bytes =
      q.bytes ∙ ap (λ (xs : List ℕ). put xs b.at zs) p.bytes ∙ ap (λ (i : ℕ). put (put a.buffer.now a.at ys) i zs) p.at
      ∙ put_put a.buffer.now a.at ys zs h;
  at = q.at ∙ ap (λ (k : ℕ). k + length zs) p.at ∙ omega (arith, length-append ys zs);
  room = q.room ∙ p.room;
  lender = q.lender ∙ p.lender;
}

pub wrote_same : (a b : Writer) (ys zs : List ℕ) → ys ≡ zs → Wrote a b ys → Wrote a b zs
wrote_same a b ys zs e w = subst (λ (xs : List ℕ). Wrote a b xs) e w

pub length_big : (k n : ℕ) → length (big k n) ≡ k
unfolding big
length_big zero n = refl
length_big (suc k) n = ap suc (length_big k (n % 256 ^ k))

-- a number of two bytes, and one of eight
pub length_word : (n : ℕ) → length (big 2 n) ≤ 2
length_word n = omega (arith, length_big 2 n)

pub length_long : (n : ℕ) → length (big 8 n) ≤ 8
length_long n = omega (arith, length_big 8 n)

-- the room that is left
pub room_left : {a b : Writer} {ys : List ℕ} (m n : ℕ) → Wrote a b ys → length ys ≤ m → Room a (m + n) → Room b n
room_left m n w l r = omega (arith, w.at, w.room)

-- a number in two bytes
pub word_wrote : (v a b : ℕ) (w0 w1 w2 : Writer) → Room w0 2 → Wrote w0 w1 (a ∷ []) → Wrote w1 w2 (b ∷ []) → a ≡ v / 256 → b ≡ v % 256 → Wrote w0 w2 (big 2 v)
unfolding big
word_wrote v a b w0 w1 w2 r p q ea eb =
    wrote_same w0 w2 _ _
    (ap (λ (x : ℕ). x ∷ b ∷ []) ea ∙ ap (λ (x : ℕ). v / 256 ∷ x ∷ []) (eb ∙ omega arith))
    (wrote_more w0 w1 w2 (a ∷ []) (b ∷ []) (omega arith) p q)
