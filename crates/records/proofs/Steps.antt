-- The steps of the reader, as its code takes them.
use Rattle.std.proofs.Common.{◌≡◌, ℕ, zero, suc, ◌+◌, ◌*◌, ◌^◌, ◌<◌, Bool, true, false, ltb, List, [], ◌∷◌, ◌++◌, length, take, drop, None, Option, sym, refl, ap, ◌∙◌, arith}
use Rattle.std.proofs.lemmas.List.{take-append-drop, length-take-le}
use Rattle.std.proofs.lemmas.Nat.{be_bytes_2, be_bytes_8}
use Rattle.std.specs.Int.{bytes_high_first, from_be_bytes, w16, w64}
use Rattle.records.specs.Codes.{number_reads}
use Rattle.records.specs.Longs.{big_is}
use Rattle.records.specs.Parsing.{Got, lost, got, next, check, number, given, Front}

-- the exit of a `?`
pub given_none : {A : Type 0} (o : Option A) (r : List ℕ) → o ≡ None → lost ≡ given o r
given_none o r e = ap (λ (x : Option _). given x r) (sym e)

-- a number by its bytes
pub number_of_bytes : (k : ℕ) (bs : List ℕ) (n : ℕ) → n < 256 ^ k → bytes_high_first k n ≡ take k bs → number k 0 bs ≡ got n (drop k bs)
number_of_bytes k bs n h e =
    let r : List ℕ = drop k bs in
    ap (number k 0) (sym (take-append-drop k bs) ∙ ap (λ (xs : List ℕ). xs ++ drop k bs) (sym e ∙ sym (big_is k n h)))
    ∙ number_reads k 0 n (drop k bs) h
    ∙ ap (λ (m : ℕ). got m (drop k bs)) (omega arith)

lost_after : {A B : Type 0} (t : Bool) (a : A) (r : List ℕ) (f : A → List ℕ → Got B) → f a r ≡ lost → next (check t (got a r)) f ≡ lost
lost_after true a r f e = e
lost_after false a r f e = refl

-- too few bytes
pub number_short : (k v : ℕ) (bs : List ℕ) → length bs < k → number k v bs ≡ lost
unfolding number
number_short zero v bs h = absurd (omega arith)
number_short (suc k) v [] h = refl
number_short (suc k) v (x ∷ bs) h = lost_after (ltb x 256) x bs (λ b r. number k (v * 256 + b) r) (number_short k (v * 256 + x) bs (omega arith))

-- a number of two bytes, and one of eight, by std's conversions
module _ (bs xs r : List ℕ) (n : ℕ) where
  pub number_2 : n < 2 ^ 16 → Front 2 bs xs × (r ≡ drop 2 bs) → n ≡ from_be_bytes w16 xs → number 2 0 bs ≡ got n r
  number_2 h s q =
      let len : length xs ≡ 2 = ap length s.0.are ∙ length-take-le 2 bs s.0.long in
      number_of_bytes 2 bs n h (be_bytes_2 xs n len s.0.bytes q ∙ s.0.are) ∙ ap (λ (z : List ℕ). got n z) (sym s.1)

  pub number_8 : n < 2 ^ 64 → Front 8 bs xs × (r ≡ drop 8 bs) → n ≡ from_be_bytes w64 xs → number 8 0 bs ≡ got n r
  number_8 h s q =
      let len : length xs ≡ 8 = ap length s.0.are ∙ length-take-le 8 bs s.0.long in
      number_of_bytes 8 bs n h (be_bytes_8 xs n len s.0.bytes q ∙ s.0.are) ∙ ap (λ (z : List ℕ). got n z) (sym s.1)
