use Rattle.std.proofs.Common.{◌≡◌, ℕ, ◌<◌, not, List, length, sym, ap, subst, rules}
use Rattle.rules.specs.declared.syntax.Entry.{Entry}
use Rattle.tables.specs.declared.line.Line.{Line}
use Rattle.tables.specs.declared.memo.Memo.{Memo}
use Rattle.tables.specs.Memos.{Remembers}
use Rattle.tables.specs.Normal.{nnf}
use Rattle.tables.specs.Numbering.{Placed, enter, place}
use Rattle.tables.specs.Parts.{signed, joined, formulas, form_at}
use Rattle.tables.specs.Tables.{drafted, Goes}
use Rattle.tables.proofs.Made.{draft_tidy, number_under}
use Rattle.tables.proofs.Laid.{joined_place, place_within, both_number_under, goes_over, goes_join, full_over, full_left, full_right, laid_leaf, laid_always, laid_eventually, laid_next, laid_equivalent, known_place, remembers_learnt}
use Rattle.tables.proofs.normal.Numberer.+place_lay_join.Goals as goal

pub place-returns-in-Some-clause-goes : goal.place-returns-in-Some-clause-goes
place-returns-in-Some-clause-goes t c = known_place c.args.self.now c.args.part c.in-Some.number (sym c.in-Some.ensures)

pub place-invariant_of-self-clause-remembered : goal.place-invariant_of-self-clause-remembered
place-invariant_of-self-clause-remembered t c =
    let r = c.lay.new.self in
    subst (λ (m : Memo). Remembers (formulas r.entries.now) m (drafted r.draft)) (sym c.learn.ensures)
    (remembers_learnt c.args.self.now r c.args.part c.in_ok-number.number c.lay.ensures.entries c.in_ok-number.ensures.goes)

pub lay-returns-in-Leaf-clause-goes : goal.lay-returns-in-Leaf-clause-goes
lay-returns-in-Leaf-clause-goes t c =
    let s = c.args.self.now in
    let e = laid_leaf s c.args.part c.requires c.in-Leaf.atom (search rules) in
    subst (λ (p : Placed). Goes p (drafted c.enter.new.self.draft) c.enter.result) (sym e)
    (subst (λ (l : Line). Goes (enter (signed c.args.part.1 l) (drafted s.draft)) (drafted c.enter.new.self.draft) c.enter.result) c.from.ensures c.enter.ensures.goes)

pub lay-returns-in_err-inner-in-One-Always-default-clause-goes : goal.lay-returns-in_err-inner-in-One-Always-default-clause-goes
lay-returns-in_err-inner-in-One-Always-default-clause-goes t c =
    let s = c.args.self.now in
    rw c.from_residual.ensures (full_over _ (drafted s.draft) _ _ (laid_always s c.args.part c.requires c.in-One-Always-default.inner (search rules)) c.in_err-inner-in-One-Always-default.ensures.goes)

pub lay-enter-requires-in-One-Always-default : goal.lay-enter-requires-in-One-Always-default
lay-enter-requires-in-One-Always-default t c =
    let s = c.args.self.now in
    let d = c.place-in-One-Always-default.new.self.draft in
    let k : ℕ = c.in_ok-inner-in-One-Always-default.inner in
    number_under d k (place_within _ (drafted s.draft) (drafted d) k (draft_tidy s.draft) c.in_ok-inner-in-One-Always-default.ensures.goes).0

pub lay-returns-in_ok-inner-in-One-Always-default-clause-goes : goal.lay-returns-in_ok-inner-in-One-Always-default-clause-goes
lay-returns-in_ok-inner-in-One-Always-default-clause-goes t c =
    let s = c.args.self.now in
    let e = laid_always s c.args.part c.requires c.in-One-Always-default.inner (search rules) in
    goes_over _ (drafted s.draft) _ _ _ _ _ _ e c.in_ok-inner-in-One-Always-default.ensures.goes c.enter-in-One-Always-default.ensures.goes

pub lay-returns-in_err-inner-in-One-Eventually-default-clause-goes : goal.lay-returns-in_err-inner-in-One-Eventually-default-clause-goes
lay-returns-in_err-inner-in-One-Eventually-default-clause-goes t c =
    let s = c.args.self.now in
    rw c.from_residual-in_err-inner-in-One-Eventually-default.ensures (full_over _ (drafted s.draft) _ _ (laid_eventually s c.args.part c.requires c.in-One-Eventually-default.inner (search rules)) c.in_err-inner-in-One-Eventually-default.ensures.goes)

pub lay-enter-requires-in-One-Eventually-default : goal.lay-enter-requires-in-One-Eventually-default
lay-enter-requires-in-One-Eventually-default t c =
    let s = c.args.self.now in
    let d = c.place-in-One-Eventually-default.new.self.draft in
    let k : ℕ = c.in_ok-inner-in-One-Eventually-default.inner in
    number_under d k (place_within _ (drafted s.draft) (drafted d) k (draft_tidy s.draft) c.in_ok-inner-in-One-Eventually-default.ensures.goes).0

pub lay-returns-in_ok-inner-in-One-Eventually-default-clause-goes : goal.lay-returns-in_ok-inner-in-One-Eventually-default-clause-goes
lay-returns-in_ok-inner-in-One-Eventually-default-clause-goes t c =
    let s = c.args.self.now in
    let e = laid_eventually s c.args.part c.requires c.in-One-Eventually-default.inner (search rules) in
    goes_over _ (drafted s.draft) _ _ _ _ _ _ e c.in_ok-inner-in-One-Eventually-default.ensures.goes c.enter-in-One-Eventually-default.ensures.goes

pub lay-returns-in_err-inner-in-One-Next-default-clause-goes : goal.lay-returns-in_err-inner-in-One-Next-default-clause-goes
lay-returns-in_err-inner-in-One-Next-default-clause-goes t c =
    let s = c.args.self.now in
    rw c.from_residual-in_err-inner-in-One-Next-default.ensures (full_over _ (drafted s.draft) _ _ (laid_next s c.args.part c.requires c.in-One-Next-default.inner (search rules)) c.in_err-inner-in-One-Next-default.ensures.goes)

pub lay-enter-requires-in-One-Next-default : goal.lay-enter-requires-in-One-Next-default
lay-enter-requires-in-One-Next-default t c =
    let s = c.args.self.now in
    let d = c.place-in-One-Next-default.new.self.draft in
    let k : ℕ = c.in_ok-inner-in-One-Next-default.inner in
    number_under d k (place_within _ (drafted s.draft) (drafted d) k (draft_tidy s.draft) c.in_ok-inner-in-One-Next-default.ensures.goes).0

pub lay-returns-in_ok-inner-in-One-Next-default-clause-goes : goal.lay-returns-in_ok-inner-in-One-Next-default-clause-goes
lay-returns-in_ok-inner-in-One-Next-default-clause-goes t c =
    let s = c.args.self.now in
    let e = laid_next s c.args.part c.requires c.in-One-Next-default.inner (search rules) in
    goes_over _ (drafted s.draft) _ _ _ _ _ _ e c.in_ok-inner-in-One-Next-default.ensures.goes c.enter-in-One-Next-default.ensures.goes

pub lay-returns-in_err-alike-in-Two-Equivalent-default-default-clause-goes : goal.lay-returns-in_err-alike-in-Two-Equivalent-default-default-clause-goes
lay-returns-in_err-alike-in-Two-Equivalent-default-default-clause-goes t c =
    let s = c.args.self.now in
    let e = laid_equivalent s c.args.part c.requires c.in-Two-Equivalent-default-default.left c.in-Two-Equivalent-default-default.right (search rules) in
    rw (c.from_residual-in_err-alike-in-Two-Equivalent-default-default).ensures (full_left _ (drafted s.draft) _ _ _ e (draft_tidy s.draft) c.in_err-alike-in-Two-Equivalent-default-default.ensures.goes)

pub lay-returns-in_err-opposite-in-Two-Equivalent-default-default-clause-goes : goal.lay-returns-in_err-opposite-in-Two-Equivalent-default-default-clause-goes
lay-returns-in_err-opposite-in-Two-Equivalent-default-default-clause-goes t c =
    let s = c.args.self.now in
    let r = c.join-in-Two-Equivalent-default-default.new.self in
    let i : ℕ = c.in-Two-Equivalent-default-default.left in
    let j : ℕ = c.in-Two-Equivalent-default-default.right in
    let b = c.args.part.1 in
    let e = laid_equivalent s c.args.part c.requires i j (search rules) in
    let full = subst (λ (xs : List Entry). 121 < length (place (joined b (nnf (not b) (formulas xs i)) (nnf (not b) (formulas xs j))) (drafted r.draft)).table)
    (ap (λ x. x.now) c.join-in-Two-Equivalent-default-default.ensures.entries) c.in_err-opposite-in-Two-Equivalent-default-default.ensures.goes in
    rw (c.from_residual-in_err-opposite-in-Two-Equivalent-default-default).ensures (full_right _ (drafted s.draft) _ _ _ _ _ e c.in_ok-alike-in-Two-Equivalent-default-default.ensures.goes full)

pub lay-enter-requires-in-Two-Equivalent-default-default : goal.lay-enter-requires-in-Two-Equivalent-default-default
lay-enter-requires-in-Two-Equivalent-default-default t c =
    let d = c.join-in-Two-Equivalent-default-default.new.self.draft in
    let u = c.join-in-Two-Equivalent-default-default-2.new.self.draft in
    both_number_under c.args.self.now.draft d u c.in_ok-alike-in-Two-Equivalent-default-default.alike c.in_ok-opposite-in-Two-Equivalent-default-default.opposite _ _ c.in_ok-alike-in-Two-Equivalent-default-default.ensures.goes c.in_ok-opposite-in-Two-Equivalent-default-default.ensures.goes

pub lay-returns-in_ok-opposite-in-Two-Equivalent-default-default-clause-goes : goal.lay-returns-in_ok-opposite-in-Two-Equivalent-default-default-clause-goes
lay-returns-in_ok-opposite-in-Two-Equivalent-default-default-clause-goes t c =
    let s = c.args.self.now in
    let r = c.join-in-Two-Equivalent-default-default.new.self in
    let v = c.join-in-Two-Equivalent-default-default-2.new.self in
    let i : ℕ = c.in-Two-Equivalent-default-default.left in
    let j : ℕ = c.in-Two-Equivalent-default-default.right in
    let b = c.args.part.1 in
    let e = laid_equivalent s c.args.part c.requires i j (search rules) in
    let second = subst (λ (xs : List Entry). place (joined b (nnf (not b) (formulas xs i)) (nnf (not b) (formulas xs j))) (drafted r.draft) ≡ record { table = drafted v.draft; at = c.in_ok-opposite-in-Two-Equivalent-default-default.opposite })
    (ap (λ x. x.now) c.join-in-Two-Equivalent-default-default.ensures.entries) c.in_ok-opposite-in-Two-Equivalent-default-default.ensures.goes in
    goes_join _ (drafted s.draft) _ _ _ _ _ _ _ _ _ e c.in_ok-alike-in-Two-Equivalent-default-default.ensures.goes second c.enter-in-Two-Equivalent-default-default.ensures.goes

pub join-returns-in_err-left-clause-goes : goal.join-returns-in_err-left-clause-goes
join-returns-in_err-left-clause-goes t c =
    let s = c.args.self.now in
    rw c.from_residual.ensures (full_left _ (drafted s.draft) _ _ _ (joined_place c.args.sign _ _ (drafted s.draft)) (draft_tidy s.draft) c.in_err-left.ensures.goes)

pub join-returns-in_err-right-clause-goes : goal.join-returns-in_err-right-clause-goes
join-returns-in_err-right-clause-goes t c =
    let s = c.args.self.now in
    let r = c.place.new.self in
    let full = subst (λ (xs : List Entry). 121 < length (place (form_at xs c.args.right) (drafted r.draft)).table)
    (ap (λ x. x.now) c.place.ensures.entries) c.in_err-right.ensures.goes in
    rw c.from_residual-in_err-right.ensures
    (full_right _ (drafted s.draft) _ _ _ _ _ (joined_place c.args.sign _ _ (drafted s.draft)) c.in_ok-left.ensures.goes full)

pub join-enter-requires : goal.join-enter-requires
join-enter-requires t c =
    both_number_under c.args.self.now.draft c.place.new.self.draft c.place-2.new.self.draft c.in_ok-left.left c.in_ok-right.right _ _ c.in_ok-left.ensures.goes c.in_ok-right.ensures.goes

pub join-returns-clause-goes : goal.join-returns-clause-goes
join-returns-clause-goes t c =
    let s = c.args.self.now in
    let r = c.place.new.self in
    let v = c.place-2.new.self in
    let l : ℕ = c.in_ok-right.right in
    let second = subst (λ (xs : List Entry). place (form_at xs c.args.right) (drafted r.draft) ≡ record { table = drafted v.draft; at = l })
    (ap (λ x. x.now) c.place.ensures.entries) c.in_ok-right.ensures.goes in
    goes_join _ (drafted s.draft) _ _ _ _ _ _ _ _ _ (joined_place c.args.sign _ _ (drafted s.draft)) c.in_ok-left.ensures.goes second c.enter.ensures.goes
