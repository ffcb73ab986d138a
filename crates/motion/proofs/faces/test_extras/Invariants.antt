-- The loop invariants of `test_extras`.
use Rattle.std.proofs.Common.{◌≡◌, ◌+◌, ◌*◌, map}
use Rattle.case.specs.Faces.{extra_face}
use Rattle.case.specs.Values.{values_of}
use Rattle.motion.specs.Tests.{rows_test}
use Rattle.motion.proofs.FaceTests.{extras_left}
use Rattle.motion.proofs.faces.test_extras.Given as goal

abbrev pub invariant-loop-k : goal.invariant-loop-k
invariant-loop-k l = extras_left l.case l.x l.k ≡ rows_test l.x (2 * l.case.states + 1) (map extra_face (values_of l.case).extra)
