-- The loop invariant of `divide_all`.
use Rattle.std.proofs.Common.{◌≡◌, ◌++◌, length, take, drop}
use Rattle.elimination.specs.Rows.{quotients}
use Rattle.elimination.proofs.lists.divide_all.Given as goal

abbrev pub invariant-loop-value : goal.invariant-loop-value
invariant-loop-value g l =
    (length l.initial.value-items ≡ g.row.N) × (length l.value-items ≡ g.row.N) × (l.value-items ≡ quotients l.d (take l.value-index l.initial.value-items) ++ drop l.value-index l.initial.value-items)
