-- The bytes of a number, one by one.
use Rattle.std.specs.Prelude.{◌≡◌, ℕ, zero, suc, ◌+◌, ◌-◌, ◌*◌, ◌/◌, ◌%◌, ◌^◌, ◌<◌, ◌≤◌, Bool, true, false, cond, List, [], ◌∷◌, ◌++◌, length, take, ◌==◌, ◌≢◌, slice_index, refl}
use Rattle.std.proofs.Common.{sym, ap, ◌∙◌, arith, mod-eq_of_lt, pow-add}
use Rattle.std.proofs.Math.Nat.{pow-succ'}
use Rattle.std.proofs.Math.Pow.{mod-mod-pow}
use Rattle.std.proofs.lemmas.Nat.{div_below, mod_below, field_of}
use Rattle.std.specs.Int.{byte_at, bytes_high_first}
use Rattle.std.proofs.lemmas.List.{take_more, take_all, length-take-le}
use Rattle.std.proofs.lemmas.Bool.{ne_eqb, eq-eqb}
use Rattle.records.specs.Claims.{big, field}
use Rattle.records.specs.Codes.{base_pos}
use Rattle.records.specs.Puts.{length_big}

pub base_two : (k : ℕ) → 256 ^ k ≡ 2 ^ (8 * k)
base_two zero = refl
base_two (suc k) =
    let e : 8 * suc k ≡ 8 + 8 * k = omega arith in
    pow-succ' 256 k ∙ ap (λ (x : ℕ). 256 * x) (base_two k) ∙ sym (pow-add 2 8 (8 * k)) ∙ ap (λ (x : ℕ). 2 ^ x) (sym e)

-- the byte at place j from the end does not see what lies above byte k
low_digit : (n j k : ℕ) → j < k → n % 2 ^ (8 * k) / 2 ^ (8 * j) % 256 ≡ n / 2 ^ (8 * j) % 256
low_digit n j k h =
    let a : ℕ = 8 * (k - j) in
    let e : 8 * k ≡ 8 * (k - j) + 8 * j = omega arith in
    let f : 8 * (k - j) ≡ (8 * (k - j) - 8) + 8 = omega arith in
    ap (λ (x : ℕ). n % 2 ^ x / 2 ^ (8 * j) % 256) e
    ∙ ap (λ (x : ℕ). x % 256) (field_of n (8 * (k - j)) (8 * j))
    ∙ ap (λ (x : ℕ). n / 2 ^ (8 * j) % 2 ^ x % 256) f
    ∙ mod-mod-pow (n / 2 ^ (8 * j)) (8 * (k - j) - 8) 8

get_or_big : (k n i : ℕ) → i < k → n < 256 ^ k → slice_index (big k n) i ≡ n / 2 ^ (8 * (k - 1 - i)) % 256
unfolding big
get_or_big zero n i h l = absurd (omega arith)
get_or_big (suc k) n zero h l =
    let p = pow-succ' 256 k in
    let q : n / 256 ^ k < 256 = div_below n (256 ^ k) 256 (base_pos k) (omega arith) in
    let e : suc k - 1 - 0 ≡ k = omega arith in
    sym (mod-eq_of_lt q) ∙ ap (λ (x : ℕ). n / x % 256) (base_two k) ∙ ap (λ (x : ℕ). n / 2 ^ (8 * x) % 256) (sym e)
get_or_big (suc k) n (suc i) h l =
    let e : suc k - 1 - suc i ≡ k - 1 - i = omega arith in
    get_or_big k (n % 256 ^ k) i (omega arith) (mod_below n (256 ^ k) (base_pos k))
    ∙ ap (λ (x : ℕ). n % x / 2 ^ (8 * (k - 1 - i)) % 256) (base_two k)
    ∙ low_digit n (k - 1 - i) k (omega arith)
    ∙ ap (λ (x : ℕ). n / 2 ^ (8 * x) % 256) (sym e)

-- one more byte of a number of eight
pub long_more : (n i b : ℕ) → i < 8 → n < 2 ^ 64 → b ≡ n / 2 ^ (56 - 8 * i) % 256 → take i (big 8 n) ++ (b ∷ []) ≡ take (i + 1) (big 8 n)
long_more n i b h l q =
    let e : 8 * (8 - 1 - i) ≡ 56 - 8 * i = omega arith in
    let len : length (big 8 n) ≡ 8 = length_big 8 n in
    ap (λ (x : ℕ). take i (big 8 n) ++ (x ∷ [])) (q ∙ ap (λ (x : ℕ). n / 2 ^ x % 256) (sym e) ∙ sym (get_or_big 8 n i h l))
    ∙ sym (take_more (big 8 n) i 0 (omega arith))

pub long_all : (n i : ℕ) → 8 ≤ i → take i (big 8 n) ≡ big 8 n
long_all n i h = let len : length (big 8 n) ≡ 8 = length_big 8 n in take_all i (big 8 n) (omega arith)

pub field_none : (k v : ℕ) → v ≡ 0 → [] ≡ field k v
field_none k v e = ap (λ (t : Bool). cond t [] (big k v)) (sym (eq-eqb v 0 e))

pub field_some : (k v : ℕ) → (v ≢ 0) → big k v ≡ field k v
field_some k v e = ap (λ (t : Bool). cond t [] (big k v)) (sym (ne_eqb v 0 e))

byte_is : (k n : ℕ) → byte_at k n ≡ n / 2 ^ (8 * k) % 256
byte_is zero n = ap (λ (x : ℕ). x % 256) (omega arith)
byte_is (suc k) n = ap (λ (x : ℕ). n / x % 256) (base_two (suc k))

byte_low : (n j k : ℕ) → j < k → byte_at j (n % 256 ^ k) ≡ byte_at j n
byte_low n j k h =
    byte_is j (n % 256 ^ k) ∙ ap (λ (x : ℕ). n % x / 2 ^ (8 * j) % 256) (base_two k) ∙ low_digit n j k h ∙ sym (byte_is j n)

bytes_low : (n j k : ℕ) → j ≤ k → bytes_high_first j (n % 256 ^ k) ≡ bytes_high_first j n
bytes_low n zero k h = refl
bytes_low n (suc j) k h = ap (λ (x : ℕ). x ∷ bytes_high_first j (n % 256 ^ k)) (byte_low n j k (omega arith)) ∙ ap (λ (xs : List ℕ). byte_at j n ∷ xs) (bytes_low n j k (omega arith))

first_is : (k n : ℕ) → n < 256 ^ suc k → n / 256 ^ k ≡ byte_at k n
first_is zero n h = omega arith
first_is (suc k) n h = let q : n / 256 ^ suc k < 256 = div_below n (256 ^ suc k) 256 (base_pos (suc k)) (omega (arith, pow-succ' 256 (suc k))) in sym (mod-eq_of_lt q)

-- the bytes of a number are those that std has
pub big_is : (k n : ℕ) → n < 256 ^ k → big k n ≡ bytes_high_first k n
unfolding big
big_is zero n h = refl
big_is (suc k) n h =
    ap (λ (x : ℕ). x ∷ big k (n % 256 ^ k)) (first_is k n h)
    ∙ ap (λ (xs : List ℕ). byte_at k n ∷ xs) (big_is k (n % 256 ^ k) (mod_below n (256 ^ k) (base_pos k)) ∙ bytes_low n k k (omega arith))

field_len : (k v : ℕ) (t : Bool) → length (cond t [] (big k v)) ≤ k
field_len k v true = omega arith
field_len k v false = let h = length_big k v in omega arith

pub length_field : (k v : ℕ) → length (field k v) ≤ k
length_field k v = field_len k v (v == 0)

pub length_front : (n i : ℕ) → i ≤ 8 → length (take i (big 8 n)) ≡ i
length_front n i h = let len : length (big 8 n) ≡ 8 = length_big 8 n in length-take-le i (big 8 n) (omega arith)
