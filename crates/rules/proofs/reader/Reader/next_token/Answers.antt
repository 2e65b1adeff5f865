use Rattle.std.proofs.Common.{◌≡◌, ℕ, ◌+◌, ◌<◌, false, length, get_or, drop, take_all, length-drop, ap, ◌∙◌, subst, arith, rules}
use Rattle.std.specs.List.{prefix_len}
use Rattle.rules.specs.Letters.{blank, small}
use Rattle.rules.specs.Text.{class, other}
use Rattle.rules.proofs.Classes.{blanks_stop, class_other}
use Rattle.rules.proofs.reader.Reader.next_token.Goals as goal

pub returns-in_default-2-2-clause-reads : goal.returns-in_default-2-2-clause-reads
returns-in_default-2-2-clause-reads c =
    let xs = c.args.self.now.text.now in
    let i : ℕ = c.args.self.now.at in
    let n : ℕ = c.run_length.result in
    let byte : ℕ = c.in-Some.first.now in
    let m : n ≡ prefix_len blank (drop i xs) = c.run_length.ensures.run blank (λ b r p. search rules) ∙ ap (prefix_len blank) (take_all _ (drop i xs) (omega (arith, length-drop i xs))) in
    let l : i + n < length xs = search rules in
    let read : get_or xs (i + n) 0 ≡ byte = search rules in
    let b : blank byte ≡ false = subst (λ (b : ℕ). blank b ≡ false) read (blanks_stop xs i n m l) in
    let s : small byte ≡ false = search rules in
    let k : class (get_or xs (i + n) 0) ≡ other = ap class read ∙ class_other byte b s (search rules) in
    (omega (arith, m), omega arith, omega arith, rw (c.at-in_default-2-2.ensures.kind, c.at-in_default-2-2.ensures.offset) k)
