-- How many rows and columns the system of a region has.
use Rattle.std.proofs.Common.{◌≡◌, ℕ, suc, ◌+◌, ◌*◌, List, [], ◌∷◌, ◌++◌, map, length, refl, arith}
use Rattle.std.proofs.lemmas.List.{length-append, length-map}
use Rattle.control.specs.Meaning.{Row}
use Rattle.case.specs.declared.values.StateEquation.{StateEquation}
use Rattle.case.specs.declared.values.PushBounds.{PushBounds}
use Rattle.case.specs.declared.values.Case.{Case}
use Rattle.case.specs.Faces.{faces}
use Rattle.case.specs.System.{over_states, over_commands, push_rows, next_rows, system}
use Rattle.case.specs.Values.{CaseValues, state_count, push_count, values_of}
use Rattle.case.proofs.Faces.{faces_count}
use Rattle.case.proofs.Stored.{states_are, pushes_are, extras_are}

pub push_rows_count : (k : CaseValues) (j : ℕ) (bs : List PushBounds) → length (push_rows k j bs) ≡ 2 * length bs
push_rows_count k j [] = refl
push_rows_count k j (b ∷ bs) = omega (arith, push_rows_count k (suc j) bs)

pub next_rows_count : (k : CaseValues) (i : ℕ) (ss : List StateEquation) → length (next_rows k i ss) ≡ 2 * length ss
next_rows_count k i [] = refl
next_rows_count k i (s ∷ ss) = omega (arith, next_rows_count k (suc i) ss)

pub system_count : (k : CaseValues) (fs region : List Row) → length (system k fs region) ≡ length fs + length region + 2 * push_count k + 2 * state_count k
system_count k fs region =
    let F = map (over_states k) fs in
    let G = map (over_commands k) region in
    let W = push_rows k 0 k.bounds in
    let N = next_rows k 0 k.equations in
    omega (arith, length-append F (G ++ (W ++ N)), length-append G (W ++ N), length-append W N, length-map fs (over_states k), length-map region (over_commands k), push_rows_count k 0 k.bounds, next_rows_count k 0 k.equations)

-- of a case, with their limits
pub case_rows : (c : Case) (region : List Row) → 2 * c.states + c.extras + length region + 2 * c.pushes + 2 * c.states ≡ length (system (values_of c) (faces (values_of c)) region)
case_rows c region =
    omega (arith, system_count (values_of c) (faces (values_of c)) region, faces_count (values_of c), states_are c, pushes_are c, extras_are c)
