-- The loop invariant of `check_lines`: the flags tell which pairs the lines before name, and the rest decides.
use Rattle.std.proofs.Common.{◌≡◌, ◌+◌, ◌≤◌, List, [], length}
use Rattle.control.specs.Means.{meaning_of}
use Rattle.case.specs.Values.{values_of}
use Rattle.checking.specs.Checking.{ProofLine, text_check}
use Rattle.checking.specs.Marks.{Marks}
use Rattle.checking.proofs.lines.check_lines.Given as goal

abbrev pub invariant-loop-rest : goal.invariant-loop-rest
invariant-loop-rest g l =
    let m = meaning_of g.C.Controller l.closed.controller.now in
    let k = values_of l.case in
    (l.line + length l.rest ≤ l.initial.line + length l.initial.rest)
    × ((ls : List ProofLine) × Marks l.named.flags ls × (text_check k m ls l.line l.rest ≡ text_check k m [] l.initial.line l.initial.rest))

abbrev pub decreases-loop-rest : goal.decreases-loop-rest
decreases-loop-rest g l = length l.rest
