-- The loop invariant of `copy_zeros`.
use Rattle.std.proofs.Common.{◌≡◌, ◌+◌, ◌++◌, length, take}
use Rattle.elimination.specs.Columns.{zeros}
use Rattle.elimination.specs.Standing.{standing, SamePlaces}
use Rattle.elimination.proofs.column.Rows.copy_zeros.Given as goal

abbrev pub invariant-loop-row : goal.invariant-loop-row
invariant-loop-row l = record {
  rows : standing l.self ≡ standing l.initial.self ++ zeros l.column (take l.row-index l.rows);
  count : l.self.count ≡ l.initial.self.count + length (zeros l.column (take l.row-index l.rows));
  places : SamePlaces l.initial.self l.self;
}
