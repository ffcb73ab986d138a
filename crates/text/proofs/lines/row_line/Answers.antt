use Rattle.std.proofs.Common.{take, Err, ap, ◌∙◌}
use Rattle.text.specs.Lines.{numbers_by, padded_line, with_rest, row_width}
use Rattle.text.proofs.Forming.{row_form}
use Rattle.text.proofs.Rows.{absent_told, err_is, line_err, line_ok, seen_none, seen_some}
use Rattle.text.proofs.lines.row_line.Goals as goal

pub returns-in_err-bytes : goal.returns-in_err-bytes
returns-in_err-bytes c = record {
  value = ap with_rest (err_is c.from_residual.result c.in_err-bytes.field-0.0 c.from_residual.ensures.1 ∙ ap Err (absent_told _ _ _ c.in_err-bytes.ensures.value c.in_err-bytes.ensures.ok_part))
      ∙ ap (λ o. padded_line (numbers_by c.args.line (take row_width c.args.limits.now) o)) (seen_none _ _ _ c.in_err-bytes.ensures.ok_part c.cut.ensures);
  form = row_form (take row_width c.args.limits.now) c.args.text.now;
}

pub returns-in_err-row : goal.returns-in_err-row
returns-in_err-row c = record {
  value = ap with_rest (err_is c.from_residual-in_err-row.result c.in_err-row.field-0.0 c.from_residual-in_err-row.ensures.1)
      ∙ line_err c.args.line (take row_width c.args.limits.now) c.args.text.now c.in_ok-bytes.bytes.now c.in_ok-bytes.rest.now _ _ (seen_some _ _ _ _ c.in_ok-bytes.ensures.ok_part c.cut.ensures) c.of.ensures c.in_err-row.ensures;
  form = row_form (take row_width c.args.limits.now) c.args.text.now;
}

pub returns : goal.returns
returns c = record {
  value = line_ok c.args.line (take row_width c.args.limits.now) c.args.text.now c.in_ok-bytes.bytes.now c.in_ok-bytes.rest.now _ _ (seen_some _ _ _ _ c.in_ok-bytes.ensures.ok_part c.cut.ensures) c.of.ensures c.in_ok-row.ensures;
  form = row_form (take row_width c.args.limits.now) c.args.text.now;
}
