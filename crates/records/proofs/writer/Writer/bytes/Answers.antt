use Rattle.std.proofs.Common.{◌≡◌, ℕ, ◌+◌, ◌-◌, List, ◌++◌, length, take, refl, ap, ◌∙◌, arith}
use borrow.Rule.Slice.PartMut.{put_mid, post_of, Post-is}
use Rattle.records.specs.Appending.{put}
use Rattle.records.specs.Puts.{length_put}
use Rattle.records.proofs.writer.Writer.bytes.Goals as goal

mid_put : (xs : List ℕ) (i : ℕ) (ys zs : List ℕ) → zs ≡ ys → put_mid i ((i + length ys) - i) xs zs ≡ put xs i ys
unfolding put
mid_put xs i ys zs e =
    ap (λ (z : List ℕ). take i xs ++ (z ++ post_of i ((i + length ys) - i) xs)) e
    ∙ ap (λ (z : List ℕ). take i xs ++ (ys ++ z)) (Post-is i (i + length ys) xs (omega arith))

pub returns : goal.returns
returns c =
    let m = mid_put c.args.self.now.buffer.now c.args.self.now.at c.args.bytes.now c.copy_from_slice.new.self c.copy_from_slice.ensures.after in
    record { bytes = m; at = refl; room = ap length m ∙ length_put _ _ _ c.requires; lender = refl }
