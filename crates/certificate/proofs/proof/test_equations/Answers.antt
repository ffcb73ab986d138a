-- The proof of `test_equations`: what the search leaves.
use Rattle.std.proofs.Common.{◌≡◌, ℕ, ◌+◌, ◌-◌, true, drop, sym, ◌∙◌, subst, w64, SFits, rules}
use Rattle.std.specs.List.{AllByRecursion}
use Rattle.std.proofs.lemmas.Int.{to_z-of_z}
use Rattle.arith.specs.Bounds.{Within}
use Rattle.control.specs.Answers.{present}
use Rattle.control.specs.Limits.{coefficient_limit, right_limit}
use Rattle.case.specs.Faces.{faces}
use Rattle.case.specs.System.{none}
use Rattle.case.proofs.Faces.{case_columns}
use Rattle.system.specs.Systems.{case_of, control_of, rows_of}
use Rattle.system.specs.declared.system.System.{System}
use Rattle.certificate.specs.Tests.{face_of}
use Rattle.certificate.proofs.Faced.{FaceReady, face_small, face_right, right_small, face_front, sums_front, first_is, answer_unequal, answer_equal}
use Rattle.certificate.proofs.Found.{blank_is}
use Rattle.certificate.proofs.proof.test_equations.Given as given
use Rattle.certificate.proofs.proof.test_equations.Goals as goal

-- region and face are there
ready_of : (g : given.Over) (s : System g.row.C.Denot g.C.Controller) (face : ℕ) → present (faces (case_of s)) face ≡ true → FaceReady s.closed.now.case.now (control_of s) s.region face
ready_of g s face there =
    let l = s.closed.now in
    record { ready = record { states = l.states; inputs = l.inputs; there = s.there }; limits = g.met.C.Controller.limits l.controller.now; there = there }

pub add_up-sum-requires-clause-clear : goal.add_up-sum-requires-clause-clear
add_up-sum-requires-clause-clear g c = let v = c.args.system.now.closed.now.case.now in blank_is v (v.states + v.inputs + v.pushes + v.states) (case_columns v)

pub first_unequal-requires-clause-small : goal.first_unequal-requires-clause-small
first_unequal-requires-clause-small g c =
    let v = c.args.system.now.closed.now.case.now in
    let t = ready_of g c.args.system.now c.args.face c.requires.face in
    subst (AllByRecursion (Within coefficient_limit)) (sym (face_front t c.row-right.ensures (drop (v.states + v.inputs + v.pushes + v.states - 0) (none 12)))) (face_small t)

pub returns-in-Some : goal.returns-in-Some
returns-in-Some g c =
    let s = c.args.system.now in
    let v = s.closed.now.case.now in
    let ms = c.args.candidate.now.multipliers.now in
    let rest = drop (v.states + v.inputs + v.pushes + v.states - 0) (none 12) in
    let t = ready_of g s c.args.face c.requires.face in
    answer_unequal (case_of s) (rows_of s) (face_of (case_of s) c.args.face) c.args.candidate.now.scale ms c.in-Some.column
    (first_is t ms c.add_up-sum.ensures.columns _ _ c.args.candidate.now.scale _ (sums_front t ms c.add_up-sum.ensures.columns rest) (face_front t c.row-right.ensures rest) c.in-Some.ensures)

pub is_excess-requires : goal.is_excess-requires
is_excess-requires g c =
    let f : SFits w64 c.row-right.result = search rules in
    subst (Within right_limit) (sym (to_z-of_z w64 _ f)) (right_small (ready_of g c.args.system.now c.args.face c.requires.face) c.row-right.ensures)

pub returns-then-is_excess : goal.returns-then-is_excess
returns-then-is_excess g c =
    let s = c.args.system.now in
    let v = s.closed.now.case.now in
    let ms = c.args.candidate.now.multipliers.now in
    let rest = drop (v.states + v.inputs + v.pushes + v.states - 0) (none 12) in
    let t = ready_of g s c.args.face c.requires.face in
    let equal = first_is t ms c.add_up-sum.ensures.columns _ _ c.args.candidate.now.scale _ (sums_front t ms c.add_up-sum.ensures.columns rest) (face_front t c.row-right.ensures rest) c.in_default.ensures in
    let fs : SFits w64 c.add_up-sum.result = search rules in
    let fr : SFits w64 c.row-right.result = search rules in
    answer_equal (case_of s) (rows_of s) (face_of (case_of s) c.args.face) c.args.candidate.now.scale ms _ _ _
    equal (to_z-of_z w64 _ fs ∙ c.add_up-sum.ensures.right) (to_z-of_z w64 _ fr ∙ face_right t c.row-right.ensures) c.if-is_excess.ensures

pub returns : goal.returns
returns g c =
    let s = c.args.system.now in
    let v = s.closed.now.case.now in
    let ms = c.args.candidate.now.multipliers.now in
    let rest = drop (v.states + v.inputs + v.pushes + v.states - 0) (none 12) in
    let t = ready_of g s c.args.face c.requires.face in
    let equal = first_is t ms c.add_up-sum.ensures.columns _ _ c.args.candidate.now.scale _ (sums_front t ms c.add_up-sum.ensures.columns rest) (face_front t c.row-right.ensures rest) c.in_default.ensures in
    let fs : SFits w64 c.add_up-sum.result = search rules in
    let fr : SFits w64 c.row-right.result = search rules in
    answer_equal (case_of s) (rows_of s) (face_of (case_of s) c.args.face) c.args.candidate.now.scale ms _ _ _
    equal (to_z-of_z w64 _ fs ∙ c.add_up-sum.ensures.right) (to_z-of_z w64 _ fr ∙ face_right t c.row-right.ensures) c.if-is_excess.ensures
