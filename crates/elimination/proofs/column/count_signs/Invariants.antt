-- The loop invariant of `count_signs`.
use Rattle.std.proofs.Common.{◌≡◌, length, take}
use Rattle.elimination.specs.Columns.{zeros, positives, negatives}
use Rattle.elimination.proofs.column.count_signs.Given as goal

abbrev pub invariant-loop-row : goal.invariant-loop-row
invariant-loop-row l = record {
  zero : l.zero ≡ length (zeros l.column (take l.row-index l.rows));
  positive : l.positive ≡ length (positives l.column (take l.row-index l.rows));
  negative : l.negative ≡ length (negatives l.column (take l.row-index l.rows));
}
