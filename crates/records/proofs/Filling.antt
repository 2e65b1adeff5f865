-- Items that are read into a table, one after another.
use Rattle.std.proofs.Common.{◌≡◌, ℕ, suc, ◌+◌, ◌-◌, ◌<◌, ◌≤◌, List, [], ◌∷◌, ◌++◌, length, take, set, sym, refl, ap, ◌∙◌, append_assoc, append-nil, arith, length-set}
use Rattle.std.proofs.lemmas.List.{take_all, take_more_set}
use Rattle.records.specs.Parsing.{Got, lost, got, next, many}

-- what was read, and what a reading goes on to give
abbrev pub after : {A : Type 0} → List A → Got (List A) → Got (List A)
after xs g = next g (λ ys r. got (xs ++ ys) r)

after_none : {A : Type 0} (g : Got (List A)) → g ≡ after [] g
after_none lost = refl
after_none (got xs r) = refl

after_push : {A : Type 0} (xs : List A) (a : A) (g : Got (List A)) → after xs (next g (λ ys q. got (a ∷ ys) q)) ≡ after (xs ++ a ∷ []) g
after_push xs a lost = refl
after_push xs a (got ys r) = ap (λ (zs : List _). got zs r) (sym (append_assoc xs (a ∷ []) ys))

many_step : {A : Type 0} (p : List ℕ → Got A) (n i : ℕ) (bs : List ℕ) → i < n → many (n - i) p bs ≡ next (p bs) (λ a r. next (many (n - (i + 1)) p r) (λ xs q. got (a ∷ xs) q))
unfolding many
many_step p n i bs h = let e : n - i ≡ suc (n - (i + 1)) = omega arith in ap (λ (k : ℕ). many k p bs) e

-- the first i items of the table have been read, and the bytes rest are left
abbrev pub Filled : {A : Type 0} → (List ℕ → Got A) → ℕ → List A → List ℕ → List ℕ → Type 0
Filled p i table whole rest = many (length table) p whole ≡ after (take i table) (many (length table - i) p rest)

module _ {A : Type 0} (p : List ℕ → Got A) where
  pub filled_none : (table : List A) (bs : List ℕ) → Filled p 0 table bs bs
  filled_none table bs =
      let z : length table ≡ length table - 0 = omega arith in
      ap (λ (k : ℕ). many k p bs) z ∙ after_none (many (length table - 0) p bs)

  pub filled_more : (table : List A) (i : ℕ) (whole rest : List ℕ) (a : A) (r : List ℕ) → i < length table → Filled p i table whole rest → p rest ≡ got a r
      → Filled p (i + 1) (set table i a) whole r
  filled_more table i whole rest a r h f e =
      let n : ℕ = length table in
      let same : length (set table i a) ≡ length table = length-set table i a in
      ap (λ (k : ℕ). many k p whole) same
      ∙ f
      ∙ ap (after (take i table)) (many_step p n i rest h ∙ ap (λ (g : Got A). next g (λ a r. next (many (n - (i + 1)) p r) (λ xs q. got (a ∷ xs) q))) e)
      ∙ after_push (take i table) a (many (n - (i + 1)) p r)
      ∙ ap (λ (xs : List A). after xs (many (n - (i + 1)) p r)) (sym (take_more_set table i a h))
      ∙ ap (λ (k : ℕ). after (take (i + 1) (set table i a)) (many (k - (i + 1)) p r)) (sym same)

  pub filled_lost : (table : List A) (i : ℕ) (whole rest : List ℕ) → i < length table → Filled p i table whole rest → p rest ≡ lost → many (length table) p whole ≡ lost
  filled_lost table i whole rest h f e =
      let n : ℕ = length table in
      f ∙ ap (after (take i table)) (many_step p n i rest h ∙ ap (λ (g : Got A). next g (λ a r. next (many (n - (i + 1)) p r) (λ xs q. got (a ∷ xs) q))) e)

  pub filled_all : (table : List A) (i : ℕ) (whole rest : List ℕ) → length table ≤ i → Filled p i table whole rest → many (length table) p whole ≡ got table rest
  unfolding many
  filled_all table i whole rest h f =
      let z : length table - i ≡ 0 = omega arith in
      f ∙ ap (λ (k : ℕ). after (take i table) (many k p rest)) z
      ∙ ap (λ (xs : List A). got xs rest) (append-nil (take i table) ∙ take_all i table h)
