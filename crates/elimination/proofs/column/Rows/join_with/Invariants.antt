-- The loop invariant of `join_with`.
use Rattle.std.proofs.Common.{◌≡◌, ◌+◌, ◌++◌, map, true, length, take}
use Rattle.elimination.specs.Rows.{joined_row}
use Rattle.elimination.specs.Columns.{negatives, all_allowed}
use Rattle.elimination.specs.Standing.{standing, SamePlaces}
use Rattle.elimination.proofs.column.Rows.join_with.Given as goal

abbrev pub invariant-loop-q : goal.invariant-loop-q
invariant-loop-q l = record {
  rows : standing l.self ≡ standing l.initial.self ++ map (joined_row l.column l.p) (negatives l.column (take l.q-index l.rows));
  allowed : all_allowed (map (joined_row l.column l.p) (negatives l.column (take l.q-index l.rows))) ≡ true;
  count : l.self.count ≡ l.initial.self.count + length (negatives l.column (take l.q-index l.rows));
  places : SamePlaces l.initial.self l.self;
}
