-- The proof of `wide_product`: what the search leaves.
use Rattle.std.proofs.Common.{get_or, ℤ, pos, ◌∙◌, arith, w64, SFits, rules}
use Rattle.std.proofs.lemmas.Int.{ints}
use Rattle.arith.proofs.Bounds.{product_read}
use Rattle.arith.proofs.Dots.{dot_end}
use Rattle.arith.proofs.Sums.{Summed, Turn, turn, turned, sum_fits}
use Rattle.arith.proofs.wide_product.Goals as goal

at_turn : (c : goal.After-product-sum) (s : ℤ) → Summed c.args.factors.now c.args.values.now c.loop-i.i s → Turn c.args.factors.now c.args.values.now c.loop-i.i s c.product-sum.result
at_turn c s sum =
    let f : SFits w64 (get_or c.args.factors.now c.loop-i.i (pos 0)) = search rules in
    let g : SFits w64 (get_or c.args.values.now c.loop-i.i (pos 0)) = search rules in
    turn _ _ _ s _ c.loop-i-test.true c.requires.same c.requires.few c.requires.small g (c.product-sum.ensures ∙ product_read _ _ f g) sum

pub overflow_add-sum : goal.overflow_add-sum
overflow_add-sum c = sum_fits _ _ _ _ _ (at_turn c _ c.loop-i.invariant)

pub loop-i-preserved : goal.loop-i-preserved
loop-i-preserved c = turned _ _ _ _ _ (at_turn c _ c.loop-i.invariant)

pub returns : goal.returns
returns c = omega (arith, ints, c.loop-i.invariant.0, dot_end c.args.factors.now c.args.values.now c.loop-i.i c.loop-i-test.false)
