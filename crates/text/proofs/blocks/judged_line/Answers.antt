use Rattle.std.proofs.Common.{take, ap, ◌∙◌, Ok, Err}
use Rattle.text.specs.Lines.{with_rest, row_width}
use Rattle.text.proofs.Collecting.{told_is, numbers_refused, row_by}
use Rattle.text.proofs.Rows.{err_is}
use Rattle.text.proofs.blocks.judged_line.Goals as goal

pub returns-in_err-row : goal.returns-in_err-row
returns-in_err-row g c told judged t j =
    ap with_rest (told_is g.E.From.from_gives told _ _ t c.from_residual.ensures.1)
    ∙ numbers_refused told judged (take row_width c.args.limits.now) c.args.line c.args.text.now _ c.in_err-row.ensures.value

pub returns-in_err-judge : goal.returns-in_err-judge
returns-in_err-judge g c told judged t j =
    ap with_rest (err_is c.from_residual-in_err-judge.result _ c.from_residual-in_err-judge.ensures.1)
    ∙ row_by told judged (take row_width c.args.limits.now) c.args.line c.args.text.now c.in_ok-row.row c.in_ok-row.rest.now (Err _) c.in_ok-row.ensures.value
    (λ zs e. j _ _ _ _ e c.in_err-judge.ensures)

pub returns : goal.returns
returns g c told judged t j =
    row_by told judged (take row_width c.args.limits.now) c.args.line c.args.text.now c.in_ok-row.row c.in_ok-row.rest.now (Ok _) c.in_ok-row.ensures.value
    (λ zs e. j _ _ _ _ e c.in_ok-judge.ensures)
