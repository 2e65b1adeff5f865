use Rattle.std.proofs.Common.{◌≡◌, ℕ, ◌-◌, ◌%◌, ltb, length, get_or, sym, ap, ◌∙◌, mod-eq_of_lt, arith}
use Rattle.std.proofs.lemmas.Bool.{lt-ltb, le-ltb, cond-true, cond-false}
use Rattle.rules.specs.Runs.{at}
use Rattle.truth.proofs.run.Run.position.Goals as goal

pub returns-then-i-self : goal.returns-then-i-self
unfolding at
returns-then-i-self c lasts = sym (cond-true (ltb c.args.i (length c.args.self.now.lead.now)) _ _ (lt-ltb _ _ c.if-i-self.true))

pub returns-else-i-self : goal.returns-else-i-self
unfolding at
returns-else-i-self c lasts =
    let e : (c.args.i - length c.args.self.now.lead.now) % length c.args.self.now.cycle.now ≡ c.args.i - length c.args.self.now.lead.now = mod-eq_of_lt (omega arith) in
    ap (λ (k : ℕ). get_or c.args.self.now.cycle.now k 0) (sym e) ∙ sym (cond-false (ltb c.args.i (length c.args.self.now.lead.now)) _ _ (le-ltb _ _ c.if-i-self.false))
