-- The proof of `eliminate`: what the search leaves.
use Rattle.std.proofs.Common.{ℕ, ◌+◌, ◌*◌, ◌≤◌, List, length, arith}
use Rattle.std.proofs.lemmas.Nat.{mul-le}
use Rattle.std.proofs.lemmas.List.Sums.{length-filter, count_by-le-length}
use Rattle.elimination.specs.declared.row.Row.{Row}
use Rattle.elimination.specs.Columns.{most_rows, zeros, positives, negatives}
use Rattle.elimination.proofs.Columns.{eliminated_proper, eliminated_traced}
use Rattle.elimination.proofs.column.eliminate.Goals as goal

few : (c : ℕ) (rows : List Row) → length rows ≤ most_rows → length (zeros c rows) + length (positives c rows) * length (negatives c rows) ≤ most_rows + most_rows * most_rows
few c rows h =
    let m = mul-le (length (positives c rows)) (length (negatives c rows)) most_rows most_rows (omega (arith, count_by-le-length, length-filter)) (omega (arith, count_by-le-length, length-filter)) in
    omega (arith, count_by-le-length, length-filter)

pub overflow_mul-signs : goal.overflow_mul-signs
overflow_mul-signs c = rw (c.count_signs-signs.ensures.positive, c.count_signs-signs.ensures.negative) (omega (arith, few c.args.column c.rows.inside.rows.now (rw c.rows.view_is c.requires.few)))

pub overflow_add-signs : goal.overflow_add-signs
overflow_add-signs c =
    rw (c.count_signs-signs.ensures.zero, c.count_signs-signs.ensures.positive, c.count_signs-signs.ensures.negative) (omega (arith, few c.args.column c.rows.inside.rows.now (rw c.rows.view_is c.requires.few)))

pub returns-clause-proper : goal.returns-clause-proper
returns-clause-proper c = rw (← c.rows.view_is) (eliminated_proper c.args.column c.rows.inside.rows.now c.rows.invariant)

pub returns-clause-traced : goal.returns-clause-traced
returns-clause-traced c = rw (← c.rows.view_is) (eliminated_traced c.args.column c.rows.inside.rows.now c.rows.invariant)
