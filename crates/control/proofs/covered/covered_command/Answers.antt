-- The proof of `covered_command`: what the search leaves.
use Rattle.control.specs.Means.{meaning_of}
use Rattle.control.proofs.Meanings.{taken_covered}
use Rattle.control.proofs.covered.covered_command.Goals as goal

pub returns : goal.returns
returns g c =
    let k = c.args.c.now in
    record {
      answer = c.command.ensures.answer;
      fills = c.command.ensures.fills;
      covered = taken_covered (meaning_of g.C.Controller k) (g.met.C.Controller.cover k) c.args.x.now c.args.u.now _ _ c.command.ensures.answer c.command.ensures.fills;
    }
