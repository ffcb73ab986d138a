-- The proof of `places`: the invariant of its loop.
use Rattle.std.proofs.Common.{◌≡◌, List, take, length}
use Rattle.text.specs.Blocks.{filled}
use Rattle.case.specs.Stored.{Makes}
use Rattle.case.proofs.equations.places.Given as goal

abbrev pub invariant-loop-i : goal.invariant-loop-i
invariant-loop-i g l = (length l.places ≡ g.row.N) × ((ys : List g.row.T.Denot) → Makes (goal.F-post g l.make) l.count l.fn.blank ys → l.places ≡ filled g.row.N l.fn.blank (take l.i ys))
