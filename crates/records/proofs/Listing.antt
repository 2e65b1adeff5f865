-- The bytes of items, one after another.
use Rattle.std.proofs.Common.{◌≡◌, ℕ, suc, ◌+◌, ◌*◌, ◌<◌, ◌≤◌, List, [], ◌∷◌, ◌++◌, length, get_or, take, sym, ap, ◌∙◌, append_assoc, append-nil, mul-le-mul_left, mul-suc, arith, length-append}
use Rattle.std.proofs.lemmas.List.{take_more, take_all, length-take-le}
use Rattle.records.specs.declared.writer.Writer.{Writer}
use Rattle.records.specs.Appending.{Room, Wrote}
use Rattle.records.specs.Claims.{big, each, listed}
use Rattle.records.specs.Puts.{length_big}

module _ {A : Type 0} (e : A → List ℕ) where
  each_push : (xs : List A) (a : A) → each e xs ++ e a ≡ each e (xs ++ a ∷ [])
  unfolding each
  each_push [] a = sym (append-nil (e a))
  each_push (x ∷ xs) a = append_assoc (e x) (each e xs) (e a) ∙ ap (λ (z : List ℕ). e x ++ z) (each_push xs a)

  pub each_more : (xs : List A) (i : ℕ) (a : A) → i < length xs → a ≡ get_or xs i a → each e (take i xs) ++ e a ≡ each e (take (i + 1) xs)
  each_more xs i a h q =
      each_push (take i xs) a ∙ ap (λ (x : A). each e (take i xs ++ x ∷ [])) q ∙ ap (each e) (sym (take_more xs i a h))

  pub each_whole : (xs : List A) (i : ℕ) → length xs ≤ i → each e (take i xs) ≡ each e xs
  each_whole xs i h = ap (each e) (take_all i xs h)

  module _ (most : ℕ) (short : (a : A) → length (e a) ≤ most) where
    pub length_each : (xs : List A) → length (each e xs) ≤ most * length xs
    unfolding each
    length_each [] = omega arith
    length_each (x ∷ xs) =
        let h = length_each xs in
        let s = short x in
        let l = length-append (e x) (each e xs) in
        let m = mul-suc most (length xs) in
        omega arith

    pub length_listed : (xs : List A) → length (listed e xs) ≤ 2 + most * length xs
    length_listed xs = omega (arith, length-append (big 2 (length xs)) (each e xs), length_big 2 (length xs), length_each xs)

    length_front : (xs : List A) (i : ℕ) → i ≤ length xs → length (each e (take i xs)) ≤ most * i
    length_front xs i h = let l = length-take-le i xs h in rw l at (length_each (take i xs))

    steps : (i n : ℕ) → i < n → most * i + most ≤ most * n
    steps i n h = let a = mul-suc most i in let b = mul-le-mul_left {m = suc i} {n = n} most h in omega arith

    -- room for the items so far, and for the next one
    pub room_front : (a : Writer) (xs : List A) (i : ℕ) → i < length xs → Room a (most * length xs) → Room a (length (each e (take i xs)))
    room_front a xs i h r = let l = length_front xs i (omega arith) in let s = steps i (length xs) h in omega arith

    pub room_item : (a b : Writer) (xs : List A) (i : ℕ) → i < length xs → Room a (most * length xs) → Wrote a b (each e (take i xs)) → Room b most
    room_item a b xs i h r w = let l = length_front xs i (omega arith) in let s = steps i (length xs) h in omega (arith, w.at, w.room)
