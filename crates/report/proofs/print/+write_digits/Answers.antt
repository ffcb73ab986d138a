-- The digits that are written are the number's text.
use Rattle.std.proofs.Common.{◌+◌, ◌/◌, ◌%◌, set, sym, ap, ◌∙◌, arith}
use Rattle.report.proofs.Rendering.{length_digit, length_step, length_render_le}
use Rattle.report.proofs.Writing.{written_digit, written_step}
use Rattle.report.proofs.print.+write_digits.Goals as goal

pub bounds-out-0 : goal.bounds-out-0
bounds-out-0 t c = omega (arith, length_digit c.args.n c.if-n-lt10.true)

pub returns-then-n-lt10 : goal.returns-then-n-lt10
returns-then-n-lt10 t c =
    let e = length_digit c.args.n c.if-n-lt10.true in
    record { count = sym e; bytes = written_digit c.args.n c.args.out.now c.if-n-lt10.true (omega arith) }

pub write_digits-at-requires : goal.write_digits-at-requires
write_digits-at-requires t c = (omega arith, omega (arith, length_step c.args.n (omega arith)))

pub bounds-out-at : goal.bounds-out-at
bounds-out-at t c = omega (arith, length_step c.args.n (omega arith))

pub overflow_add-result : goal.overflow_add-result
overflow_add-result t c = omega (arith, length_render_le 20 (c.args.n / 10) (omega arith) (omega arith))

pub returns : goal.returns
returns t c =
    let e = length_step c.args.n (omega arith) in
    record {
      count = omega arith;
      bytes = ap (λ xs. set xs c.write_digits-at.result (48 + c.args.n % 10)) c.write_digits-at.ensures.bytes
          ∙ written_step c.args.n c.write_digits-at.result c.args.out.now (omega arith) c.write_digits-at.ensures.count (omega arith);
    }
