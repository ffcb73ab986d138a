-- The proof of `check`: what the search leaves.
use Rattle.std.proofs.Common.{sym}
use Rattle.control.specs.Means.{meaning_of}
use Rattle.checking.proofs.Trusting.{accepted_invariant}
use Rattle.checking.proofs.trusted.check.Goals as goal

pub returns-clause-sound : goal.returns-clause-sound
returns-clause-sound g c =
    let v = c.args.case.now in
    let k = c.args.controller.now in
    accepted_invariant v (meaning_of g.C.Controller k) (g.met.C.Controller.limits k) (g.met.C.Controller.cover k) v.line v.proofs.now (sym c.in_ok-judge.ensures)
