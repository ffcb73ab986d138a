-- The proof of `prove`: what the search leaves.
use Rattle.std.proofs.Common.{◌≡◌, eqb, get_or, pos, sym, ◌∙◌, w64, SFits, rules}
use Rattle.std.proofs.lemmas.Bool.{and_from, eq-eqb}
use Rattle.std.proofs.lemmas.Int.{to_z-of_z}
use Rattle.case.specs.Faces.{faces}
use Rattle.case.specs.Values.{state_count}
use Rattle.case.proofs.Stored.{states_are}
use Rattle.system.specs.Systems.{case_in, control_in}
use Rattle.checking.specs.Checking.{proved_at}
use Rattle.checking.proofs.Indices.{present_from}
use Rattle.checking.proofs.Proving.{equations_answered}
use Rattle.checking.proofs.lines.prove.Goals as goal

pub returns : goal.returns
returns g c =
    let k = case_in c.args.closed.now in
    let m = control_in c.args.closed.now in
    let i = c.args.index in
    let numbers = c.args.numbers.now in
    let told : c.map_err.result ≡ proved_at c.args.line i.region i.face c.test_proof.result = search rules in
    let l = c.args.closed.now in
    let sizes = and_from (eqb m.states (state_count k)) (eqb m.inputs k.inputs) (eq-eqb _ _ (l.states ∙ sym (states_are l.case.now))) (eq-eqb _ _ l.inputs) in
    let region = present_from m.regions i.region i.region_in.0 c.requires.region in
    let face = present_from (faces k) i.face i.face_in.0 c.requires.face in
    let f : SFits w64 (get_or numbers 0 (pos 0)) = search rules in
    told ∙ equations_answered k m i.region i.face c.args.line numbers _ c.test_proof.result (to_z-of_z w64 (get_or numbers 0 (pos 0)) f) sizes region face c.requires.long c.requires.limits c.test_proof.ensures.value
