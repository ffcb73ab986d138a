-- The proof of `test_proof`: what the search leaves.
use Rattle.std.proofs.Common.{◌≡◌, ◌&&◌, true, false, length, Err, sym, ◌∙◌, rules, arith}
use Rattle.control.specs.Means.{meaning_of}
use Rattle.control.specs.Answers.{present}
use Rattle.case.specs.Values.{values_of}
use Rattle.system.specs.Answers.{fits, system_of}
use Rattle.certificate.specs.Tests.{in_limit, all_in_limit, equations_of, face_of}
use Rattle.certificate.specs.declared.fault.ProofFault.TheVariants.{Range}
use Rattle.certificate.proofs.Outcomes.{face_there, face_missing, answer_missing, answer_length, answer_range, answer_tested}
use Rattle.certificate.proofs.proof.test_proof.Goals as goal
use Rattle.certificate.proofs.proof.test_proof.Goals.{then-face-lt1-via-then-face-lt1, then-face-lt1-via-else-face-lt1+then-face-face_count}

pub returns-then-face-lt1-clause-value : goal.returns-then-face-lt1-clause-value
returns-then-face-lt1-clause-value g c =
    let v = c.args.case.now in
    let m = meaning_of g.C.Controller c.args.controller.now in
    let agree : fits (values_of v) m ≡ true = search rules in
    let there : present m.regions c.args.region ≡ true = search rules in
    answer_missing (values_of v) m c.args.region c.args.face c.args.scale c.args.multipliers.now agree there
    (face_missing v c.args.face
    (λ low high.
    elim c.then-face-lt1.branch [ then-face-lt1-via-then-face-lt1 w ↦ omega arith | then-face-lt1-via-else-face-lt1+then-face-face_count w ↦ omega arith ]))

pub returns-then-multipliers-system-clause-value : goal.returns-then-multipliers-system-clause-value
returns-then-multipliers-system-clause-value g c =
    let v = c.args.case.now in
    let m = meaning_of g.C.Controller c.args.controller.now in
    let agree : fits (values_of v) m ≡ true = search rules in
    let there : present m.regions c.args.region ≡ true = search rules in
    let rows : c.in_ok-system.system.rows ≡ length (system_of (values_of v) m c.args.region) = search rules in
    answer_length (values_of v) m c.args.region c.args.face c.args.scale c.args.multipliers.now agree there
    (face_there v c.args.face (omega arith) (omega arith)) (λ e. c.if-multipliers-system.true (e ∙ sym rows))

pub returns-in_err-candidate-clause-value : goal.returns-in_err-candidate-clause-value
returns-in_err-candidate-clause-value g c =
    let v = c.args.case.now in
    let k = values_of v in
    let m = meaning_of g.C.Controller c.args.controller.now in
    let agree : fits k m ≡ true = search rules in
    let there : present m.regions c.args.region ≡ true = search rules in
    let rows : length c.args.multipliers.now ≡ length (system_of k m c.args.region) = search rules in
    let out : (in_limit c.args.scale && all_in_limit c.args.multipliers.now) ≡ false = search rules in
    let e : c.from_residual-in_err-candidate.result ≡ Err Range = search rules in
    e ∙ answer_range k m c.args.region c.args.face c.args.scale c.args.multipliers.now agree there (face_there v c.args.face (omega arith) (omega arith)) rows out

pub test_equations-requires-clause-face : goal.test_equations-requires-clause-face
test_equations-requires-clause-face g c = let e = face_there c.args.case.now c.args.face (omega arith) (omega arith) in search rules

pub returns-clause-value : goal.returns-clause-value
returns-clause-value g c =
    let v = c.args.case.now in
    let k = values_of v in
    let m = meaning_of g.C.Controller c.args.controller.now in
    let agree : fits k m ≡ true = search rules in
    let there : present m.regions c.args.region ≡ true = search rules in
    let rows : length c.args.multipliers.now ≡ length (system_of k m c.args.region) = search rules in
    let within : (in_limit c.args.scale && all_in_limit c.args.multipliers.now) ≡ true = search rules in
    let is : c.test_equations.result ≡ equations_of k (system_of k m c.args.region) (face_of k c.args.face) c.args.scale c.args.multipliers.now = search rules in
    answer_tested k m c.args.region c.args.face c.args.scale c.args.multipliers.now agree there
    (face_there v c.args.face (omega arith) (omega arith)) rows within _ is
