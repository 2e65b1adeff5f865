-- What an outline's array keeps of the lines that were copied into it.
use Rattle.std.proofs.Common.{◌≡◌, ◌&&◌, List, ◌++◌, length, get_or, take, sym, ap, ◌∙◌}
use Rattle.std.proofs.Math.Seq.{take-append_seam}
use Rattle.std.proofs.lemmas.Bool.{and_from}
use Rattle.std.proofs.lemmas.List.{get_or-take}
use Rattle.tables.specs.declared.line.Line.{Line}
use Rattle.tables.specs.Lines.{Lines, line, under, Earlier}
use Rattle.walk.specs.Fits.{narrow, Narrow, Fit}

pub front_copied : (front rest : List Line) (given : Lines) → front ≡ given → take (length given) (front ++ rest) ≡ given
front_copied front rest given e = ap (λ (ls : List Line). take (length given) (ls ++ rest)) e ∙ take-append_seam given rest

pub fit_array : (xs ys : Lines) → take (length ys) xs ≡ ys → Earlier ys → Narrow ys → Fit xs (length ys)
fit_array xs ys e u n k l =
    let q : get_or xs k Line.True ≡ line ys k = sym (get_or-take (length ys) xs k Line.True l) ∙ ap (λ (zs : List Line). get_or zs k Line.True) e in
    ap (λ (x : Line). under k x && narrow x) q ∙ and_from (under k (line ys k)) (narrow (line ys k)) (u k l) (n k l)
