-- The proof of `test_state`: what the search leaves.
use Rattle.std.proofs.Common.{Err, ap, ◌∙◌}
use Rattle.std.proofs.lemmas.Result.{err_from_is_err_and}
use Rattle.case.specs.Values.{values_of}
use Rattle.motion.proofs.FaceTests.{inside_exactly, first_failing, wrong_length, bounds_refused, bounds_passed}
use Rattle.motion.proofs.faces.test_state.Goals as goal

pub returns-then-x-case : goal.returns-then-x-case
returns-then-x-case c =
    let k = c.args.case.now in
    let x = c.args.x.now in
    let e = wrong_length k x c.if-x-case.true in
    record { value = e; inside = inside_exactly (values_of k) x _ e; first = first_failing (values_of k) x _ e }

pub returns-in_err-test_bounds : goal.returns-in_err-test_bounds
returns-in_err-test_bounds c =
    let k = c.args.case.now in
    let x = c.args.x.now in
    let p = err_from_is_err_and c.from_residual.result c.from_residual.ensures.1 in
    let e = p.1 ∙ ap Err p.2 ∙ bounds_refused k x _ c.if-x-case.false c.in_err-test_bounds.ensures in
    record { value = e; inside = inside_exactly (values_of k) x _ e; first = first_failing (values_of k) x _ e }

pub returns : goal.returns
returns c =
    let k = c.args.case.now in
    let x = c.args.x.now in
    let e = bounds_passed k x _ c.if-x-case.false c.in_ok-test_bounds.ensures c.test_extras.ensures in
    record { value = e; inside = inside_exactly (values_of k) x _ e; first = first_failing (values_of k) x _ e }
