-- The proof of `next_row`: what the search leaves.
use Rattle.std.proofs.Common.{◌/◌, pos, negsuc, ap, ◌∙◌, arith, lit<}
use Rattle.arith.proofs.Bounds.{negated_read}
use Rattle.case.specs.Limits.{divisor_limit}
use Rattle.case.specs.System.{equation_row}
use Rattle.case.specs.Values.{equation_of, values_of}
use Rattle.system.proofs.Filling.{equation_at, equation_test_at, equation_ok_at, high_next_is, low_next_is, same_row, up_is, down_is, divisor_within, divisor_read}
use Rattle.system.proofs.kinds.next_row.Goals as goal

pub fill_next-requires-clause-limits : goal.fill_next-requires-clause-limits
fill_next-requires-clause-limits c = equation_test_at c.args.case.now (c.args.j / 2) (omega (arith, c.requires.place))

pub fill_next-requires-2-clause-limits : goal.fill_next-requires-2-clause-limits
fill_next-requires-2-clause-limits c = equation_test_at c.args.case.now (c.args.j / 2) (omega (arith, c.requires.place))

pub overflow_add-result : goal.overflow_add-result
overflow_add-result c = (up_is (equation_at c.args.case.now (c.args.j / 2)) (equation_ok_at c.args.case.now (c.args.j / 2) (omega (arith, c.requires.place)))).1

pub returns-then-j-eq0 : goal.returns-then-j-eq0
returns-then-j-eq0 c =
    let v = c.args.case.now in
    let i = c.args.j / 2 in
    let s = equation_at v i in
    let t = up_is s (equation_ok_at v i (omega (arith, c.requires.place))) in
    same_row _ _ _ _ (c.fill_next.ensures ∙ ap (equation_row (values_of v) i (equation_of v.states v.inputs v.pushes s) (negsuc 0)) (divisor_read v)) t.0
    ∙ high_next_is v c.args.j c.requires.place c.if-j-eq0.true

pub overflow_sub-result : goal.overflow_sub-result
overflow_sub-result c = (down_is (equation_at c.args.case.now (c.args.j / 2)) (equation_ok_at c.args.case.now (c.args.j / 2) (omega (arith, c.requires.place)))).1

pub returns : goal.returns
returns c =
    let v = c.args.case.now in
    let i = c.args.j / 2 in
    let s = equation_at v i in
    let t = down_is s (equation_ok_at v i (omega (arith, c.requires.place))) in
    let d = negated_read divisor_limit v.divisor (lit< tt) (divisor_within v) in
    same_row _ _ _ _ (c.fill_next-2.ensures ∙ ap (equation_row (values_of v) i (equation_of v.states v.inputs v.pushes s) (pos 1)) d) t.0
    ∙ low_next_is v c.args.j c.requires.place c.if-j-eq0.false
