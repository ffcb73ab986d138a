-- The loop invariant of `weigh_all`.
use Rattle.std.proofs.Common.{◌≡◌, length}
use Rattle.elimination.proofs.Mixed.{MixedTo}
use Rattle.elimination.proofs.lists.weigh_all.Given as goal

abbrev pub invariant-loop-k : goal.invariant-loop-k
invariant-loop-k g l = (length l.sum ≡ g.row.N) × MixedTo l.x l.y l.p l.q l.sum l.k
