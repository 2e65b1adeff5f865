-- Entering a line into the first n lines of an array.
use Rattle.std.proofs.Common.{◌≡◌, ℕ, ◌+◌, ◌<◌, ◌≤◌, max, Some, None, length, take, sym, ap, ◌∙◌, ap₂, inl, inr, arith}
use Rattle.std.proofs.lemmas.Bool.{cases_lt}
use Rattle.std.proofs.lemmas.List.{get_or-take, length-take-le, take_more_set}
use Rattle.tables.specs.declared.line.Line.{Line}
use Rattle.tables.specs.Keys.{Missing, First, Numbered}
use Rattle.tables.specs.Lines.{Lines, line}
use Rattle.tables.specs.Numbering.{find, enter}
use Rattle.tables.proofs.Lawful.{Equals, equal, unequal}
use Rattle.tables.proofs.Same.{found, find_le, find_first}
use Rattle.tables.proofs.Places.{length_one, enter_old, enter_new, enter_at}

module _ (xs : Lines) (n : ℕ) (l : Line) (h : n ≤ length xs) where
  abbrev t : Lines
  t = take n xs

  long : length t ≡ n
  long = length-take-le n xs h

  read : (k : ℕ) → k < n → line t k ≡ line xs k
  read k a = get_or-take n xs k Line.True a

  -- a line that is there is found
  is_found : (i : ℕ) → First Equals xs l i → i < n → find l t ≡ i
  is_found i f a =
      let p : find l t ≤ i = find_first l t i (omega (arith, long)) (read i a ∙ equal _ l (f.equal Line.True)) in
      elim (cases_lt (find l t) i) [
        | inl b ↦ absurd (unequal _ l (f.before (find l t) Line.True b) (sym (read (find l t) (omega arith)) ∙ found l t (omega (arith, long))))
        | inr b ↦ omega arith
      ]

  is_missing : Missing Equals xs l n → find l t ≡ length t
  is_missing m =
      elim (cases_lt (find l t) (length t)) [
        | inl b ↦ absurd (unequal _ l (m (find l t) Line.True (omega (arith, long))) (sym (read (find l t) (omega (arith, long))) ∙ found l t b))
        | inr b ↦ omega (arith, find_le l t)
      ]

  placed_at : (u : Lines) (k : ℕ) → (enter l t).table ≡ u → find l t ≡ k → enter l t ≡ record { table = u; at = k }
  placed_at u k e f = ap₂ (λ (x : Lines) (y : ℕ). record { table = x; at = y }) e (enter_at l t ∙ f)

  -- the array keeps its first n lines, or one more
  pub numbered : (i : ℕ) (ys : Lines) → Numbered Equals xs n l (Some i) ys → enter l t ≡ record { table = take (max n (i + 1)) ys; at = i }
  numbered i ys (inl z) =
      let f : find l t ≡ i = is_found i z.0 z.1 in
      let same : max n (i + 1) ≡ n = omega (arith, z.1) in
      placed_at _ i (enter_old l t (omega (arith, f, long, z.1)) ∙ ap₂ (λ (k : ℕ) (zs : Lines). take k zs) (sym same) (sym z.2)) f
  numbered i ys (inr z) =
      let f : find l t ≡ length t = is_missing z.0 in
      let more : max n (i + 1) ≡ n + 1 = omega (arith, z.1) in
      placed_at _ i (enter_new l t (omega (arith, f)) ∙ sym (take_more_set xs n l z.2) ∙ ap₂ (λ (k : ℕ) (zs : Lines). take k zs) (sym more) (sym z.3))
      (f ∙ long ∙ sym z.1)

  pub full : (ys : Lines) → Numbered Equals xs n l None ys → length xs < length (enter l t).table
  full ys z =
      let f : find l t ≡ length t = is_missing (λ k d a. z.0 k d (omega (arith, h))) in
      omega (arith, ap length (enter_new l t (omega (arith, f))), length_one t l, long, z.1)
