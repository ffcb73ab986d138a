-- The loop invariants of `test_bounds`.
use Rattle.std.proofs.Common.{◌≡◌}
use Rattle.case.specs.Faces.{box_faces}
use Rattle.case.specs.Values.{values_of}
use Rattle.motion.specs.Tests.{rows_test}
use Rattle.motion.proofs.FaceTests.{bounds_left}
use Rattle.motion.proofs.faces.test_bounds.Given as goal

abbrev pub invariant-loop-i : goal.invariant-loop-i
invariant-loop-i l = bounds_left l.case.states l.x (values_of l.case).equations l.i ≡ rows_test l.x 1 (box_faces l.case.states 0 (values_of l.case).equations)
