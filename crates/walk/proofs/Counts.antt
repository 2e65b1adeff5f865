-- How many eventualities stand below a line, counted in their set.
use Rattle.std.proofs.Common.{◌≡◌, ℕ, zero, suc, ◌+◌, ◌-◌, ◌/◌, ◌%◌, ◌^◌, ◌<◌, ◌≤◌, Bool, true, false, cond, count_ones, sym, refl, ap, ◌∙◌, inl, inr, mod-eq_of_lt, pow-suc, arith}
use native.Mathlib.Nat.{mul-mod_left}
use lib.Bits.{bit_and, bit_or}
use lib.Count.{ones_step}
use Rattle.std.specs.Int.Bits.{or_zero_r}
use Rattle.std.proofs.lemmas.Bool.{cases_eq}
use Rattle.std.proofs.lemmas.Nat.{or_shr, or_mod, and_mask, pow-add}
use Rattle.tables.specs.Lines.{Lines, number}
use Rattle.graph.specs.Sets.{add, set_of}
use Rattle.graph.specs.Numbers.{eventuality}
use Rattle.graph.proofs.Masks.{set_of_lt}
use Rattle.walk.specs.Fits.{event_at}

-- a bit above the others counts one more
ones_top : (k m : ℕ) → m < 2 ^ k → count_ones (bit_or m (2 ^ k)) ≡ suc (count_ones m)
unfolding lib.Count.ones
ones_top zero m h =
    let e : m ≡ 0 = omega arith in
    ap (λ (x : ℕ). count_ones (bit_or x 1)) e ∙ sym (ap (λ (x : ℕ). suc (count_ones x)) e)
ones_top (suc k) m h =
    let p = pow-suc 2 k in
    let r = bit_or m (2 ^ suc k) in
    let even : 2 ^ suc k % 2 ≡ 0 = omega arith in
    let half : 2 ^ suc k / 2 ≡ 2 ^ k = omega arith in
    let low : r % 2 ≡ m % 2 = or_mod m (2 ^ suc k) 1 ∙ ap (bit_or (m % 2)) even ∙ or_zero_r (m % 2) in
    let high : r / 2 ≡ bit_or (m / 2) (2 ^ k) = or_shr m (2 ^ suc k) 1 ∙ ap (bit_or (m / 2)) half in
    let s = ones_step r in
    let t = ones_step m in
    let i : count_ones (r / 2) ≡ suc (count_ones (m / 2)) = ap count_ones high ∙ ones_top k (m / 2) (omega arith) in
    omega arith

ones_next : (k m : ℕ) (b : Bool) → m < 2 ^ k → count_ones (cond b (add m k) m) ≡ cond b (suc (count_ones m)) (count_ones m)
unfolding add
ones_next k m true h = ones_top k m h
ones_next k m false h = refl

-- the set of the first k counts as many as pass among the first k
pub ones_first : (t : Lines) (k : ℕ) → count_ones (set_of k (event_at t)) ≡ eventuality t k
unfolding set_of number lib.Count.ones
ones_first t zero = refl
ones_first t (suc k) =
    ones_next k (set_of k (event_at t)) (event_at t k) (set_of_lt k (event_at t))
    ∙ ap (λ (n : ℕ). cond (event_at t k) (suc n) n) (ones_first t k)

low_add : (b : Bool) (m n k : ℕ) → k ≤ n → cond b (add m n) m % 2 ^ k ≡ m % 2 ^ k
unfolding add
low_add true m n k h =
    let e : n ≡ n - k + k = omega arith in
    let none : 2 ^ n % 2 ^ k ≡ 0 = ap (λ (x : ℕ). 2 ^ x % 2 ^ k) e ∙ ap (λ (x : ℕ). x % 2 ^ k) (pow-add 2 (n - k) k) ∙ mul-mod_left (2 ^ (n - k)) (2 ^ k) in
    or_mod m (2 ^ n) k ∙ ap (bit_or (m % 2 ^ k)) none ∙ or_zero_r (m % 2 ^ k)
low_add false m n k h = refl

-- the lowest bits of the set of the first n are the set of the first k
set_low : (f : ℕ → Bool) (n k : ℕ) → k ≤ n → set_of n f % 2 ^ k ≡ set_of k f
unfolding set_of
set_low f zero k h =
    let e : k ≡ 0 = omega arith in
    ap (λ (x : ℕ). 0 % 2 ^ x) e ∙ sym (ap (λ (x : ℕ). set_of x f) e)
set_low f (suc n) k h =
    elim (cases_eq k (suc n)) [
      | inl e ↦ ap (λ (x : ℕ). set_of (suc n) f % 2 ^ x) e ∙ mod-eq_of_lt (set_of_lt (suc n) f) ∙ sym (ap (λ (x : ℕ). set_of x f) e)
      | inr d ↦ low_add (f n) (set_of n f) n k (omega arith) ∙ set_low f n k (omega arith)
    ]

-- those below line k, counted in the set of all
pub ones_below : (t : Lines) (n k s : ℕ) → k ≤ n → s ≡ set_of n (event_at t) → count_ones (bit_and s (2 ^ k - 1)) ≡ eventuality t k
ones_below t n k s h e =
    ap count_ones (and_mask s k ∙ ap (λ (x : ℕ). x % 2 ^ k) e ∙ set_low (event_at t) n k h) ∙ ones_first t k
