-- The proof of `part`: what the search leaves.
use Rattle.std.proofs.Common.{◌≡◌, ◌+◌, ◌-◌, ◌++◌, length, take, drop, replicate, pos, sym, ap, ◌∙◌, arith, rules}
use Rattle.std.proofs.lemmas.List.{length-take-le, length-drop, drop-replicate}
use Rattle.text.specs.Lines.{row_width}
use Rattle.case.proofs.equations.part.Goals as goal

pub returns : goal.returns
returns g c =
    let row = c.args.row.now in
    let from = c.args.from in
    let count = c.args.count in
    let n : c.args.from + c.args.count - c.args.from ≡ c.args.count = omega arith in
    let w : length c.args.row.now ≡ row_width = search rules in
    let l : length (take count (drop from row)) ≡ count = length-take-le count (drop from row) (omega (arith, length-drop from row)) in
    ap (λ t. t ++ drop count (replicate g.row.N (pos 0))) (c.copy_from_slice.ensures.after ∙ ap (λ k. take k (drop from row)) n)
    ∙ ap (λ t. take count (drop from row) ++ t) (drop-replicate count g.row.N (pos 0) ∙ ap (λ k. replicate (g.row.N - k) (pos 0)) (sym l))
