use Rattle.std.proofs.Common.{◌^◌, ◌<◌, ◌≤◌, sym, ◌∙◌, arith, pow_mono, rules}
use Rattle.std.proofs.lemmas.Bool.{lt-ltb, le-leb}
use Rattle.records.proofs.within.fits.Goals as goal

pub returns-then-bits-ge-WIDTH : goal.returns-then-bits-ge-WIDTH
returns-then-bits-ge-WIDTH c =
    let small : c.args.value < 2 ^ 128 = search rules in
    let wide : 2 ^ 128 ≤ 2 ^ c.args.bits = pow_mono c.if-bits-ge-WIDTH.true in
    le-leb 128 c.args.bits c.if-bits-ge-WIDTH.true ∙ sym (lt-ltb c.args.value (2 ^ c.args.bits) (omega arith))
