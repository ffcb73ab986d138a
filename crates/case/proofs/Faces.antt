-- How many faces a case has, and how many columns its systems have.
use Rattle.std.proofs.Common.{◌≡◌, ℕ, suc, ◌+◌, ◌*◌, List, [], ◌∷◌, map, length, refl, arith}
use Rattle.std.proofs.lemmas.List.{length-append, length-map}
use Rattle.case.specs.Faces.{box_faces, extra_face, faces}
use Rattle.case.specs.System.{column_count}
use Rattle.case.specs.Values.{CaseValues, state_count, values_of}
use Rattle.case.specs.declared.values.Case.{Case}
use Rattle.case.specs.declared.values.StateEquation.{StateEquation}
use Rattle.case.proofs.Stored.{states_are, pushes_are, extras_are}

pub box_count : (n i : ℕ) (ss : List StateEquation) → length (box_faces n i ss) ≡ 2 * length ss
box_count n i [] = refl
box_count n i (s ∷ ss) = omega (arith, box_count n (suc i) ss)

pub faces_count : (k : CaseValues) → length (faces k) ≡ 2 * state_count k + length k.extra
faces_count k =
    omega (arith, length-append (box_faces (state_count k) 0 k.equations) (map extra_face k.extra), box_count (state_count k) 0 k.equations, length-map k.extra extra_face)

pub case_faces : (c : Case) → 2 * c.states + c.extras ≡ length (faces (values_of c))
case_faces c = omega (arith, faces_count (values_of c), states_are c, extras_are c)

pub case_columns : (c : Case) → c.states + c.inputs + c.pushes + c.states ≡ column_count (values_of c)
case_columns c = omega (arith, states_are c, pushes_are c)
