use Rattle.std.proofs.Common.{sym, ap, ◌∙◌, arith, rules}
use Rattle.std.specs.Option.{option_map}
use Rattle.text.specs.Numbers.{capped}
use Rattle.text.proofs.Reading.{more_digits, finished, stopped, magnitude_plain}
use Rattle.text.proofs.number.magnitude.Goals as goal

pub returns-in_default : goal.returns-in_default
returns-in_default c =
    stopped c.args.digits.now c.loop-b.b-index c.loop-b.value _ c.loop-b-test.true
    (λ d e. c.in_default.not-Digit d (c.class_of.ensures ∙ e))
    (c.loop-b.invariant.1 ∙ ap (option_map capped) (sym (magnitude_plain c.args.digits.now (grind arith) (λ h e. grind arith))))

pub loop-b-preserved : goal.loop-b-preserved
loop-b-preserved c = (
  omega arith,
  more_digits c.args.digits.now c.loop-b.b-index c.loop-b.value c.saturating_add-value.result c.in-Digit.d _ c.loop-b-test.true
      (search rules) (search rules) c.loop-b.invariant.1,
)

pub returns : goal.returns
returns c =
    finished c.args.digits.now c.loop-b.b-index c.loop-b.value _ c.loop-b-test.false c.loop-b.invariant.0
    (c.loop-b.invariant.1 ∙ ap (option_map capped) (sym (magnitude_plain c.args.digits.now (grind arith) (λ h e. grind arith))))
