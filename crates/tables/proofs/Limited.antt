-- A form and that of the negation have the same limits, line for line.
use Rattle.std.proofs.Common.{◌≡◌, ℕ, zero, suc, ◌≤◌, true, List, [], length, get_or, replicate, Some, None, Option, sym, ap, ◌∙◌, subst, inl, inr, IsSome, rules, arith}
use Rattle.std.proofs.lemmas.Option.{none-some}
use Rattle.rules.specs.declared.arena.Rule.{Rule}
use Rattle.rules.specs.declared.syntax.Entry.{Entry}
use Rattle.rules.specs.declared.syntax.Entry.TheVariants.{Leaf, One, Two}
use Rattle.rules.specs.Entries.{nothing, Stands}
use Rattle.rules.specs.Formula.{Formula}
use Rattle.rules.specs.Rules.{Shows}
use Rattle.tables.specs.declared.memo.Memo.{Memo}
use Rattle.tables.specs.Normal.{Normal, nnf}
use Rattle.tables.specs.Lines.{Lines, is_dual_choice, total, choices}
use Rattle.tables.specs.Numbering.{Placed, place, tabled}
use Rattle.tables.specs.Limits.{kept, broken, Long, Choosy, Chooses}
use Rattle.tables.specs.Memos.{place_of, Remembers}
use Rattle.tables.specs.Parts.{formulas, told, Told}
use Rattle.tables.specs.Tables.{drafted, Leads}
use Rattle.tables.specs.declared.table.Draft.{Draft}
use Rattle.tables.proofs.Duals.{nnf_dual, length_dual, choices_dual}

pub broken_length : (f : Formula) → length (broken f) ≡ length (kept f)
broken_length f = ap (λ (F : Normal). length (tabled F)) (nnf_dual f) ∙ length_dual (nnf true f)

pub broken_choices : (f : Formula) → choices (broken f) ≡ total is_dual_choice (kept f)
broken_choices f = ap (λ (F : Normal). choices (tabled F)) (nnf_dual f) ∙ choices_dual (nnf true f)

pub not_long : (f : Formula) → length (kept f) ≤ 60 → Long f → ⊥
not_long f h (inl a) = omega arith
not_long f h (inr a) = omega (arith, broken_length f)

pub choosy_from : (f : Formula) → Chooses (kept f) → Choosy f
choosy_from f (inl a) = inl a
choosy_from f (inr a) = inr (omega (arith, broken_choices f))

pub choosy_to : (f : Formula) → Choosy f → Chooses (kept f)
choosy_to f (inl a) = inl a
choosy_to f (inr a) = inr (omega (arith, broken_choices f))

-- what the numbering of a whole rule begins with
pub stands_told : (f : ℕ → Formula) (e : Entry) (F : Formula) → Stands f e F → told f e ≡ F
stands_told f (Leaf a) F h = sym h
stands_told f (One u i) F h = sym h
stands_told f (Two b i j) F h = sym h

pub shows_told : (r : Rule) (xs : List Entry) → Shows r xs → Told xs
shows_told r xs h i l b = ap (nnf b) (stands_told (formulas xs) (get_or xs i nothing) (formulas xs i) (h.each i l))

nothing_beside : (n p k : ℕ) → get_or (replicate n None) p None ≡ Some k → ⊥
nothing_beside zero p k e = none-some k e
nothing_beside (suc n) zero k e = none-some k e
nothing_beside (suc n) (suc p) k e = nothing_beside n p k e

nothing_there : (n i p k : ℕ) → get_or (get_or (replicate n (replicate 2 None)) i []) p None ≡ Some k → ⊥
nothing_there zero i p k e = none-some k e
nothing_there (suc n) zero p k e = nothing_beside 2 p k e
nothing_there (suc n) (suc i) p k e = nothing_there n i p k e

pub knows_nothing : (f : ℕ → Formula) (m : Memo) (t : Lines) → m.numbers ≡ replicate 512 (replicate 2 None) → Remembers f m t
knows_nothing f m t h b i k e =
    absurd (nothing_there 512 i (place_of b) k (ap (λ (xs : List (List (Option ℕ))). get_or (get_or xs i []) (place_of b) None) (sym h) ∙ e))

-- the lines of a form that was numbered from nothing
pub leads_tabled : (F : Normal) (s : Draft) (r : Option (Draft × ℕ)) (d : Draft × ℕ) → drafted s ≡ [] → Leads (place F (drafted s)) r → r ≡ Some d → drafted d.0 ≡ tabled F
leads_tabled F s r d e h q = sym (ap (λ (p : Placed). p.table) (subst (Leads (place F (drafted s))) q h)) ∙ ap (λ (x : Lines). (place F x).table) e

-- a form that is small enough is numbered
pub leads_some : (p : Placed) (r : Option (Draft × ℕ)) → Leads p r → length p.table ≤ 121 → IsSome r
leads_some p (Some d) h l = search rules
leads_some p None h l = absurd (omega arith)
