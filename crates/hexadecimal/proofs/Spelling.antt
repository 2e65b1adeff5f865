-- What the decoder makes of digits among which no capital stands.
use Rattle.std.proofs.Common.{◌≡◌, ◌≢◌, ℕ, zero, suc, ◌+◌, ◌*◌, ◌/◌, ◌%◌, ◌<◌, ◌⊎◌, inl, inr, List, [], ◌∷◌, length, get_or, drop, Option, Some, None, Result, Ok, Err, sym, refl, ap, ◌∙◌, arith}
use Rattle.std.specs.Prelude.{MatchResult}
use Rattle.std.specs.List.{All}
use Rattle.std.specs.Result.{result_ok}
use Rattle.std.proofs.lemmas.Bool.{cases_eq}
use Rattle.hex.specs.Hex.{decode_of, decode_pairs, digit_or_error, hex_digit_value, pair_value, value_at, ◌>>=◌}
use Rattle.hex.specs.declared.error.FromHexError.{FromHexError}
use Rattle.hex.specs.declared.error.FromHexError.TheVariants.{InvalidHexCharacter, OddLength, InvalidStringLength, OutOfMemory}
use Rattle.hex.proofs.HexLemmas.{decode_of-even, decode_of-odd}
use Rattle.hexadecimal.specs.Hex.{figure, spelled, IsSmall, Valued, Paired, Bytes, Unspelled, fault_of}

-- no bytes have these digits
abbrev pub NoBytes : List ℕ → Type 0
NoBytes digits = (bs : List ℕ) → Bytes bs → spelled bs ≢ digits

figure_read : (c d : ℕ) → d < 16 → figure d ≡ c → hex_digit_value c ≡ Some d
figure_read c d h e = grind arith

figure_written : (c d : ℕ) → IsSmall c → hex_digit_value c ≡ Some d → (d < 16) × (figure d ≡ c)
figure_written c d s e = (grind arith, grind arith)

-- the value of a small digit
valued : (c : ℕ) (o : Option ℕ) → IsSmall c → hex_digit_value c ≡ o → Valued c o
valued c None s e = λ d h f. cc (sym e ∙ figure_read c d h f)
valued c (Some d) s e = figure_written c d s e

-- the byte of two small digits
paired : (h l i : ℕ) (o p : Option ℕ) → IsSmall h → IsSmall l → hex_digit_value h ≡ o → hex_digit_value l ≡ p → Paired h l (result_ok (pair_value h l i))
paired h l i None p sh sl eh el =
    let upper : value_at h i ≡ Err _ = ap (digit_or_error h i) eh in
    rw upper (λ b small high low. valued h None sh eh (b / 16) (omega arith) high)
paired h l i (Some u) None sh sl eh el =
    let upper : value_at h i ≡ Ok u = ap (digit_or_error h i) eh in
    let lower : value_at l (i + 1) ≡ Err _ = ap (digit_or_error l (i + 1)) el in
    rw (upper, lower) (λ b small high low. valued l None sl el (b % 16) (omega arith) low)
paired h l i (Some u) (Some v) sh sl eh el =
    let upper : value_at h i ≡ Ok u = ap (digit_or_error h i) eh in
    let lower : value_at l (i + 1) ≡ Ok v = ap (digit_or_error l (i + 1)) el in
    let high = figure_written h u sh eh in
    let low = figure_written l v sl el in
    let first : (u * 16 + v) / 16 ≡ u = omega arith in
    let second : (u * 16 + v) % 16 ≡ v = omega arith in
    rw (upper, lower, first, second) (high.1, low.1)

length_spelled : (bs : List ℕ) → length (spelled bs) ≡ 2 * length bs
length_spelled [] = refl
length_spelled (b ∷ bs) = let e = length_spelled bs in omega arith

-- two digits before others that are read
one_more : (h l : ℕ) (rest : List ℕ) (p : Result ℕ FromHexError) (r : Result (List ℕ) FromHexError) → Paired h l (result_ok p)
    → MatchResult r (λ bs. spelled bs ≡ rest) (λ _. NoBytes rest)
    → MatchResult (p >>= (λ b. r >>= (λ bs. Ok (b ∷ bs)))) (λ bs. spelled bs ≡ h ∷ (l ∷ rest)) (λ _. NoBytes (h ∷ (l ∷ rest)))
one_more h l rest (Err e) r pair m = none
  where
    none : NoBytes (h ∷ (l ∷ rest))
    none [] y q = cc q
    none (b ∷ bs) y q = pair b y.0 (ap (λ s. get_or s 0 0) q) (ap (λ s. get_or s 1 0) q)
one_more h l rest (Ok b) (Err e) pair m = none
  where
    none : NoBytes (h ∷ (l ∷ rest))
    none [] y q = cc q
    none (c ∷ bs) y q = m bs y.1 (ap (λ s. drop 2 s) q)
one_more h l rest (Ok b) (Ok bs) pair m = cc (pair.0, pair.1, m)

-- small digits, two for each byte
pairs_read : (i : ℕ) (digits : List ℕ) → All IsSmall digits → MatchResult (decode_pairs i digits) (λ bs. spelled bs ≡ digits) (λ _. NoBytes digits)
unfolding decode_pairs
pairs_read i [] s = refl
pairs_read i (d ∷ []) s = λ bs y q. omega (arith, length_spelled bs, ap length q)
pairs_read i (h ∷ (l ∷ rest)) s =
    one_more h l rest (pair_value h l i) (decode_pairs (i + 2) rest) (paired h l i _ _ (s 0 0 (omega arith)) (s 1 0 (omega arith)) refl refl) (pairs_read (i + 2) rest (λ k d h. s (suc (suc k)) d (omega arith)))

-- small digits are read as what they spell, or spell nothing
pub small_read : (digits : List ℕ) → All IsSmall digits → MatchResult (decode_of digits) (λ bs. spelled bs ≡ digits) (λ _. NoBytes digits)
small_read digits s = elim (cases_eq (length digits % 2) 1) [
  | inl odd ↦ rw (decode_of-odd digits odd) (λ bs y q. omega (arith, length_spelled bs, ap length q))
  | inr even ↦ rw (decode_of-even digits (omega arith)) (pairs_read 0 digits s)
]

figure_small : (d : ℕ) → d < 16 → IsSmall (figure d)
figure_small d h = grind arith

spelled_small : (bs : List ℕ) → Bytes bs → All IsSmall (spelled bs)
spelled_small [] y k d h = absurd (omega arith)
spelled_small (b ∷ bs) y zero d h = figure_small (b / 16) (omega arith)
spelled_small (b ∷ bs) y (suc zero) d h = figure_small (b % 16) (omega arith)
spelled_small (b ∷ bs) y (suc (suc k)) d h = spelled_small bs y.1 k d (omega arith)

-- what has a capital spells nothing
pub capital_unread : (digits : List ℕ) → (All IsSmall digits → ⊥) → NoBytes digits
capital_unread digits capital bs y q = capital (rw (← q) (spelled_small bs y))

-- what the decoder refuses spells nothing, unless memory is wanting
pub refused : (digits : List ℕ) (e : FromHexError) → All IsSmall digits → (e ≡ OutOfMemory) ⊎ (decode_of digits ≡ Err e) → Unspelled digits (fault_of e)
refused digits OutOfMemory s w = tt
refused digits (InvalidHexCharacter c i) s (inl w) = absurd (cc w)
refused digits (InvalidHexCharacter c i) s (inr w) = rw w at (small_read digits s)
refused digits OddLength s (inl w) = absurd (cc w)
refused digits OddLength s (inr w) = rw w at (small_read digits s)
refused digits InvalidStringLength s (inl w) = absurd (cc w)
refused digits InvalidStringLength s (inr w) = rw w at (small_read digits s)
