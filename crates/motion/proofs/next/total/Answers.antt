-- The proof of `total`: what the search leaves.
use Rattle.std.proofs.Common.{◌+ℤ◌, sym, ap, ◌∙◌, subst, lit<, w64, SFits, to_z, of_z}
use mir.Syntax.{w128}
use Rattle.std.proofs.lemmas.Int.{to_z-of_z}
use Rattle.arith.proofs.Bounds.{sfits_within}
use Rattle.arith.proofs.Widths.{wide_within}
use Rattle.motion.specs.Moves.{aim_limit}
use Rattle.motion.proofs.Aims.{total_read}
use Rattle.motion.proofs.next.total.Goals as goal

narrow : (c : goal.After-from) → SFits w64 (c.args.ax +ℤ c.args.bu +ℤ c.args.ew +ℤ c.args.constant)
narrow c = sfits_within aim_limit _ (lit< tt) c.requires.sum

wide : (c : goal.After-from) → SFits w128 (c.args.ax +ℤ c.args.bu +ℤ c.args.ew +ℤ c.args.constant)
wide c = wide_within aim_limit _ (lit< tt) c.requires.sum

pub overflow_add-result-3 : goal.overflow_add-result-3
overflow_add-result-3 c = subst (SFits w128) (sym (total_read _ _ _ _ _ c.ranges.constant c.from.ensures c.requires.states c.requires.inputs c.requires.pushes)) (wide c)

pub overflow_cast-result : goal.overflow_cast-result
overflow_cast-result c =
    let e = ap (λ z. to_z w128 (of_z w128 z)) (total_read _ _ _ _ _ c.ranges.constant c.from.ensures c.requires.states c.requires.inputs c.requires.pushes) ∙ to_z-of_z w128 _ (wide c) in
    subst (SFits w64) (sym e) (narrow c)

pub returns : goal.returns
returns c =
    let e = ap (λ z. to_z w128 (of_z w128 z)) (total_read _ _ _ _ _ c.ranges.constant c.from.ensures c.requires.states c.requires.inputs c.requires.pushes) ∙ to_z-of_z w128 _ (wide c) in
    ap (λ z. to_z w64 (of_z w64 z)) e ∙ to_z-of_z w64 _ (narrow c)
