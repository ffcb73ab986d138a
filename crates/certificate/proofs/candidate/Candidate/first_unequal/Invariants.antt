-- The loop invariant of `first_unequal`.
use Rattle.std.proofs.Common.{◌≡◌, ◌+◌, ◌++◌, drop}
use Rattle.case.specs.System.{none}
use Rattle.certificate.specs.Certificates.{scaled}
use Rattle.certificate.specs.Tests.{first_unequal}
use Rattle.certificate.proofs.candidate.Candidate.first_unequal.Given as goal

abbrev pub invariant-loop-j : goal.invariant-loop-j
invariant-loop-j l =
    first_unequal (l.j + 1) (drop l.j l.sums) (drop l.j (scaled l.self.scale (none l.width ++ l.face)))
    ≡ first_unequal 1 l.sums (scaled l.self.scale (none l.width ++ l.face))
