-- Lines that come one by one, and the lines of a table.
use Rattle.std.proofs.Common.{◌≡◌, ℕ, ◌<◌, ◌≤◌, Bool, true, false, [], ◌∷◌, ◌++◌, length, take, ◌↔◌, IsSome, OnSome, Decides, nat_lt, sym, refl, ap, ◌∙◌, subst, inl, inr, arith, rules}
use Rattle.std.proofs.lemmas.Bool.{both_ways, cases_lt, lt-ltb}
use Rattle.std.specs.Bool.{then_some}
use Rattle.std.proofs.lemmas.List.{get_or-take, length-take-le}
use Rattle.tables.specs.declared.line.Line.{Line}
use Rattle.tables.specs.declared.table.Draft.{Draft}
use Rattle.tables.specs.Lines.{Lines, line, under, Lawful}
use Rattle.tables.specs.Numbering.{find, Placed, enter}
use Rattle.tables.specs.Tables.{drafted, Next}
use Rattle.tables.proofs.Same.{found, find_le, find_first}
use Rattle.tables.proofs.Places.{length_one, Tidy, Entered, enter_new, enter_at, entered}

pub length_drafted : (d : Draft) → length (drafted d) ≡ d.len
length_drafted d = length-take-le d.len d.lines (omega (arith, d.room, d.short))

pub draft_tidy : (d : Draft) → Tidy (drafted d)
draft_tidy d = record { earlier = d.earlier; apart = d.apart }

-- the number of a line that is there
pub number_under : (d : Draft) (k : ℕ) → k < length (drafted d) → nat_lt k d.len ≡ true
number_under d k h = lt-ltb k d.len (omega (arith, length_drafted d))

-- a line with operands below the next number may be entered
pub draft_entered : (d : Draft) (l : Line) → under d.len l ≡ true → Entered l (drafted d) (enter l (drafted d))
draft_entered d l u = entered l (drafted d) (draft_tidy d) (subst (λ (n : ℕ). under n l ≡ true) (sym (length_drafted d)) u)

-- a line that gets the next number is added, and was new
pub added : (t u : Lines) (l : Line) → enter l t ≡ record { table = u; at = length t } → u ≡ t ++ (l ∷ [])
added t u l e = sym (ap (λ (p : Placed). p.table) e) ∙ enter_new l t (omega (arith, sym (enter_at l t) ∙ ap (λ (p : Placed). p.at) e))

pub added_next : (t u : Lines) (l : Line) → enter l t ≡ record { table = u; at = length t } → length u ≤ 121 → under (length t) l ≡ true → Next t l
added_next t u l e s o = (
  omega (arith, ap length (added t u l e), length_one t l),
  o,
  λ k b q. omega (arith, find_first l t k b q, sym (enter_at l t) ∙ ap (λ (p : Placed). p.at) e),
)

-- and a new line gets the next number
next_last : (t : Lines) (l : Line) → Next t l → find l t ≡ length t
next_last t l n = elim (cases_lt (find l t) (length t)) [ inl a ↦ absurd (n.2 (find l t) a (found l t a)) | inr a ↦ omega (arith, find_le l t) ]

pub next_at : (t u : Lines) (l : Line) (k : ℕ) → enter l t ≡ record { table = u; at = k } → Next t l → k ≡ length t
next_at t u l k e n = sym (ap (λ (p : Placed). p.at) e) ∙ enter_at l t ∙ next_last t l n

-- so the number tells whether the line may come next
pub tells_next : (t u : Lines) (l : Line) (k : ℕ) → enter l t ≡ record { table = u; at = k } → length u ≤ 121 → under (length t) l ≡ true
    → (b : Bool) → Decides b (k ≡ length t) → (IsSome (then_some b k) ↔ Next t l) × OnSome (then_some b k) (u ≡ t ++ (l ∷ []))
tells_next t u l k e s o true d =
    let last : enter l t ≡ record { table = u; at = length t } = e ∙ ap (λ (n : ℕ). record { table = u; at = n }) (d.0 refl) in
    ((λ h. added_next t u l last s o, λ n. search rules), added t u l last)
tells_next t u l k e s o false d = ((λ h. absurd (search rules), λ n. absurd (both_ways false refl (d.1 (next_at t u l k e n)))), search rules)

pub next_fits : (t : Lines) (l : Line) → 121 < length (enter l t).table → Next t l → ⊥
next_fits t l h n =
    let room = n.0 in
    omega (arith, ap length (enter_new l t (omega (arith, next_last t l n))), length_one t l)

-- of lawful lines each may come next
pub lawful_next : (t : Lines) → Lawful t → (k : ℕ) → k < length t → Next (take k t) (line t k)
lawful_next t o k h =
    let n = length-take-le k t (omega arith) in (
      omega (arith, n, o.short),
      subst (λ (i : ℕ). under i (line t k) ≡ true) (sym n) (o.earlier k h),
      λ i a e. o.apart i k (omega arith) h (sym (get_or-take k t i Line.True (omega arith)) ∙ e),
    )
