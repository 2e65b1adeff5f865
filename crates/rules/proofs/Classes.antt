use Rattle.std.proofs.Common.{◌≡◌, ℕ, ◌+◌, ◌<◌, false, List, length, get_or, drop, sym, subst, ◌≢◌, arith}
use Rattle.std.specs.List.{prefix_len}
use Rattle.std.proofs.lemmas.Bool.{ne_eqb}
use Rattle.std.proofs.lemmas.List.{get_or-drop, length-drop}
use Rattle.std.proofs.lemmas.List.Sums.{prefix_len_stops}
use Rattle.rules.specs.Letters.{blank, small}
use Rattle.rules.specs.Text.{other, class}

-- what stands after the blanks is none
pub blanks_stop : (xs : List ℕ) (i n : ℕ) → n ≡ prefix_len blank (drop i xs) → i + n < length xs → blank (get_or xs (i + n) 0) ≡ false
blanks_stop xs i n e h =
    let s = subst (λ (k : ℕ). blank (get_or (drop i xs) k 0) ≡ false) (sym e) (prefix_len_stops blank (drop i xs) 0 (omega (arith, length-drop i xs))) in
    subst (λ (b : ℕ). blank b ≡ false) (get_or-drop i xs n 0) s

-- what begins no blank, no name and no sign
pub class_other : (b : ℕ) → blank b ≡ false → small b ≡ false →
    (b ≢ 84) × (b ≢ 70) × (b ≢ 126) × (b ≢ 65) × (b ≢ 69) × (b ≢ 78) × (b ≢ 38) × (b ≢ 124) × (b ≢ 62) × (b ≢ 61) × (b ≢ 40) × (b ≢ 41) → class b ≡ other
class_other b n s (t, f, x, a, e, m, i, o, g, q, l, r) =
    simp (
      n,
      s,
      ne_eqb b 84 t,
      ne_eqb b 70 f,
      ne_eqb b 126 x,
      ne_eqb b 65 a,
      ne_eqb b 69 e,
      ne_eqb b 78 m,
      ne_eqb b 38 i,
      ne_eqb b 124 o,
      ne_eqb b 62 g,
      ne_eqb b 61 q,
      ne_eqb b 40 l,
      ne_eqb b 41 r,
    )
