use Rattle.std.proofs.Common.{◌≡◌, ◌+◌, ◌≤◌, max, length, take, ap, subst, arith}
use Rattle.tables.specs.Lines.{Lines, Earlier, Apart}
use Rattle.tables.specs.Numbering.{Placed, enter}
use Rattle.tables.specs.Tables.{drafted}
use Rattle.tables.proofs.Drafts.{numbered, full}
use Rattle.tables.proofs.Made.{draft_entered}
use Rattle.tables.proofs.table.Draft.enter.Goals as goal

-- the array as the numbering leaves it, and the larger of two lengths
after : (c : goal.After-max-self) → enter c.args.line (drafted c.args.self.now) ≡ record { table = take c.max-self.result c.number.new.keys; at = c.in_ok-number.number }
after c =
    let d = c.args.self.now in
    let h : d.len ≤ length d.lines = omega (arith, d.room, d.short) in
    let m : c.max-self.result ≡ max d.len (c.in_ok-number.number + 1) = omega (arith, d.short) in
    rw m (numbered d.lines d.len c.args.line h c.in_ok-number.number c.number.new.keys c.in_ok-number.ensures)

kept : (c : goal.After-max-self) (P : Lines → Type 0) → P (enter c.args.line (drafted c.args.self.now)).table → P (take c.max-self.result c.number.new.keys)
kept c P = subst P (ap (λ (p : Placed). p.table) (after c))

pub returns-in_err-number-clause-goes : goal.returns-in_err-number-clause-goes
returns-in_err-number-clause-goes c =
    let d = c.args.self.now in
    let h : d.len ≤ length d.lines = omega (arith, d.room, d.short) in
    rw c.from_residual.ensures (omega (arith, d.room, full d.lines d.len c.args.line h c.number.new.keys c.in_err-number.ensures))

pub invariant_of-self-2-clause-earlier : goal.invariant_of-self-2-clause-earlier
invariant_of-self-2-clause-earlier c =
    let d = c.args.self.now in
    kept c Earlier (draft_entered d c.args.line c.requires).tidy.earlier

pub invariant_of-self-2-clause-apart : goal.invariant_of-self-2-clause-apart
invariant_of-self-2-clause-apart c =
    let d = c.args.self.now in
    kept c Apart (draft_entered d c.args.line c.requires).tidy.apart

pub returns-clause-goes : goal.returns-clause-goes
returns-clause-goes c = after c.before
