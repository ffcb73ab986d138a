-- The proof of `Limited::high_line`: what the search leaves.
use Rattle.std.proofs.Common.{◌≡◌, negsuc, refl, arith}
use Rattle.arith.proofs.Bounds.{difference_is, difference_fits}
use Rattle.control.specs.declared.input.Digit.TheVariants.{High}
use Rattle.control.specs.Saturated.{lines}
use Rattle.control.specs.Lawful.Inputs.{fit, line_is}
use Rattle.control.proofs.input.Limited.high_line.Goals as goal

pub overflow_sub-result : goal.overflow_sub-result
overflow_sub-result c =
    let k = fit c.args.self.now.input c.args.self.now.kept in
    difference_fits _ _ _ _ refl c.high_edge.ensures k.k k.high k.high_right

pub returns-in_default : goal.returns-in_default
returns-in_default c =
    let i = c.args.self.now.input in
    let k = fit i c.args.self.now.kept in
    let e : c.args.k ≡ 2 = omega arith in
    line_is (lines i High) c.args.k 2 (negsuc 0) _ _ _ _ e refl refl (difference_is _ _ _ _ refl c.high_edge.ensures k.k k.high k.high_right)
