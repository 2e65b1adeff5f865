use Rattle.std.proofs.Common.{◌≡◌, ℕ, ◌++◌, [], ◌∷◌, ◌↔◌, true, IsSome, OnSome, sym, subst, Decides, ◌==◌, rules, arith}
use Rattle.std.proofs.lemmas.Bool.Decides.{Decides-eqb}
use Rattle.tables.specs.Lines.{under}
use Rattle.tables.specs.Tables.{drafted, Next}
use Rattle.tables.proofs.Made.{length_drafted, next_fits, tells_next}
use Rattle.tables.proofs.table.Draft.push.Goals as goal

told : (c : goal.After-then_some) → (IsSome c.then_some.result ↔ Next (drafted c.args.self.now) c.args.line) × OnSome c.then_some.result (drafted c.enter.new.self ≡ drafted c.args.self.now ++ (c.args.line ∷ []))
told c =
    let d = c.args.self.now in
    let u = c.enter.new.self in
    let k : ℕ = c.in_ok-number.number in
    rw c.then_some.ensures
    (tells_next (drafted d) (drafted u) c.args.line k c.in_ok-number.ensures.goes (omega (arith, length_drafted u, u.short))
    (subst (λ (n : ℕ). under n c.args.line ≡ true) (sym (length_drafted d)) (sym c.if-not-is_under.ensures)) _
    (subst (λ (n : ℕ). Decides (k == d.len) (k ≡ n)) (sym (length_drafted d)) (Decides-eqb k d.len)))

pub returns-in_err-number-clause-next : goal.returns-in_err-number-clause-next
returns-in_err-number-clause-next c =
    rw c.from_residual.ensures (λ s. absurd (search rules), λ n. absurd (next_fits (drafted c.args.self.now) c.args.line c.in_err-number.ensures.goes n))

pub returns-clause-next : goal.returns-clause-next
returns-clause-next c = (told c).0

pub returns-clause-added : goal.returns-clause-added
returns-clause-added c = (told c).1
