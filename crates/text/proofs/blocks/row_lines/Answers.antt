-- The proof of `row_lines`: what the search leaves.
use Rattle.std.proofs.Common.{take, ap, ◌∙◌, arith, length-set}
use Rattle.text.specs.Blocks.{zero_row}
use Rattle.text.specs.Lines.{with_rest, row_width}
use Rattle.text.proofs.Collecting.{more, stops, ends}
use Rattle.text.proofs.Rows.{err_is, rest_more}
use Rattle.text.proofs.blocks.row_lines.Goals as goal

pub returns-in_err-row : goal.returns-in_err-row
returns-in_err-row g c told judged t j =
    ap with_rest (err_is c.from_residual.result _ c.from_residual.ensures.1)
    ∙ stops told judged (take row_width c.args.limits.now) g.row.N c.args.count c.loop-i.i c.args.line c.loop-i.rest.now (take c.loop-i.i c.loop-i.rows) _ _
    c.loop-i-test.true (c.in_err-row.ensures told judged t j) (c.loop-i.invariant.2 told judged t j)

pub loop-i-preserved : goal.loop-i-preserved
loop-i-preserved g c = (
  length-set c.loop-i.rows c.loop-i.i c.in_ok-row.row ∙ c.loop-i.invariant.0,
  rest_more g.row.N c.loop-i.i c.loop-i.rows c.in_ok-row.row zero_row c.loop-i.invariant.1,
  λ told judged t j. more told judged (take row_width c.args.limits.now) g.row.N c.args.count c.loop-i.i c.args.line c.loop-i.rest.now _ _ c.loop-i.rows _
      c.loop-i-test.true (omega arith) (c.in_ok-row.ensures told judged t j) (c.loop-i.invariant.2 told judged t j),
)

pub returns : goal.returns
returns g c told judged t j =
    ends told judged (take row_width c.args.limits.now) g.row.N c.args.count c.loop-i.i c.args.line c.loop-i.rest.now c.loop-i.rows _
    c.loop-i-test.false (omega arith) c.loop-i.invariant.1 (c.loop-i.invariant.2 told judged t j)
