-- The proof of `Limited::middle_line`: what the search leaves.
use Rattle.std.proofs.Common.{pos, refl, arith, lit<}
use Rattle.std.proofs.lemmas.Int.{ints}
use Rattle.arith.proofs.Bounds.{negated_read}
use Rattle.control.specs.declared.input.Digit.TheVariants.{Middle}
use Rattle.control.specs.Saturated.{most_divisor, lines}
use Rattle.control.specs.Lawful.Inputs.{ok_input, fit, middle_read, line_is}
use Rattle.control.proofs.input.Limited.middle_line.Goals as goal

pub returns-in-1 : goal.returns-in-1
returns-in-1 c =
    let i = c.args.self.now.input in
    let ok = ok_input i c.args.self.now.kept in
    let k = fit i c.args.self.now.kept in
    line_is (lines i Middle) c.args.k 1 (pos 1) _ _ _ _ c.in-1.is refl
    (negated_read most_divisor _ (lit< tt) (omega (arith, ints, ok.divisor_low), ok.divisor_high))
    (middle_read _ _ k.q k.k k.q1 k.middle_right)
