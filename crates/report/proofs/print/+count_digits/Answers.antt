-- The count is the length of the number's text.
use Rattle.std.proofs.Common.{◌/◌, sym, arith}
use Rattle.report.proofs.Rendering.{length_digit, length_step, length_render_le}
use Rattle.report.proofs.print.+count_digits.Goals as goal

pub overflow_add-result : goal.overflow_add-result
overflow_add-result t c = omega (arith, length_render_le 20 (c.args.n / 10) (omega arith) (omega arith))

pub returns-then-n-lt10 : goal.returns-then-n-lt10
returns-then-n-lt10 t c = sym (length_digit c.args.n c.if-n-lt10.true)

pub returns-else-n-lt10 : goal.returns-else-n-lt10
returns-else-n-lt10 t c = omega (arith, length_step c.args.n (omega arith))
