-- The loop invariant of `join_all`.
use Rattle.std.proofs.Common.{◌≡◌, ◌+◌, ◌*◌, ◌++◌, true, length, take}
use Rattle.elimination.specs.Columns.{positives, negatives, pairs, all_allowed}
use Rattle.elimination.specs.Standing.{standing, SamePlaces}
use Rattle.elimination.proofs.column.Rows.join_all.Given as goal

abbrev pub invariant-loop-p : goal.invariant-loop-p
invariant-loop-p l = record {
  rows : standing l.self ≡ standing l.initial.self ++ pairs l.column (positives l.column (take l.p-index l.rows)) (negatives l.column l.rows);
  allowed : all_allowed (pairs l.column (positives l.column (take l.p-index l.rows)) (negatives l.column l.rows)) ≡ true;
  count : l.self.count ≡ l.initial.self.count + length (positives l.column (take l.p-index l.rows)) * length (negatives l.column l.rows);
  places : SamePlaces l.initial.self l.self;
}
