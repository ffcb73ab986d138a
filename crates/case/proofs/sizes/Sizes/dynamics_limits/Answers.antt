-- The proof of `Sizes::dynamics_limits`: what the search leaves.
use Rattle.std.proofs.Common.{◌+◌, take, replicate, ap, ◌∙◌, arith}
use native.Mathlib.Nat.{sub-zero}
use Rattle.std.proofs.lemmas.List.{take-replicate}
use Rattle.text.specs.Lines.{row_width}
use Rattle.case.specs.Fields.{around}
use Rattle.case.specs.Limits.{entry_limit}
use Rattle.case.proofs.sizes.Sizes.dynamics_limits.Goals as goal

pub returns : goal.returns
returns c =
    let k = c.args.self in
    let width = k.states + k.inputs + k.pushes in
    let s = k.sizes in
    let p = k.counts.0 in
    ap (λ n. take n (replicate row_width (around entry_limit))) (sub-zero width) ∙ take-replicate width row_width (around entry_limit) (omega arith)
