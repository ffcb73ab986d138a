-- Row j of a system, by the group in which it lies.
use Rattle.std.proofs.Common.{◌≡◌, ℕ, ◌+◌, ◌-◌, ◌*◌, ◌<◌, ◌≤◌, List, ◌++◌, map, length, get_or, sym, refl, ap, ◌∙◌, arith}
use Rattle.std.proofs.lemmas.List.{get_or_append_left, get_or-append_right, get_or-map, length-map}
use Rattle.control.specs.Answers.{no_row}
use Rattle.control.specs.Meaning.{Row}
use Rattle.case.specs.declared.values.Case.{Case}
use Rattle.case.specs.Faces.{faces}
use Rattle.case.specs.System.{over_states, over_commands, push_rows, next_rows, system}
use Rattle.case.specs.Values.{CaseValues, values_of}
use Rattle.case.proofs.Faces.{case_faces}
use Rattle.case.proofs.Stored.{pushes_are}
use Rattle.system.proofs.Counts.{push_rows_count, case_rows}

-- the groups after the faces, and after the region's rows
abbrev after_faces : CaseValues → List Row → List Row
after_faces k region = map (over_commands k) region ++ (push_rows k 0 k.bounds ++ next_rows k 0 k.equations)

abbrev after_region : CaseValues → List Row
after_region k = push_rows k 0 k.bounds ++ next_rows k 0 k.equations

past_faces : (k : CaseValues) (fs region : List Row) (j f : ℕ) → length fs ≡ f → f ≤ j → get_or (system k fs region) j no_row ≡ get_or (after_faces k region) (j - f) no_row
past_faces k fs region j f e le = get_or-append_right (map (over_states k) fs) (after_faces k region) f j no_row (length-map fs (over_states k) ∙ e) le

past_region : (k : CaseValues) (fs region : List Row) (j f r : ℕ) → length fs ≡ f → length region ≡ r → f + r ≤ j → get_or (system k fs region) j no_row ≡ get_or (after_region k) (j - f - r) no_row
past_region k fs region j f r e h le =
    past_faces k fs region j f e (omega arith)
    ∙ get_or-append_right (map (over_commands k) region) (after_region k) r (j - f) no_row (length-map region (over_commands k) ∙ h) (omega arith)

pub face_at : (c : Case) (region : List Row) (j : ℕ) → j < 2 * c.states + c.extras → over_states (values_of c) (get_or (faces (values_of c)) j no_row) ≡ get_or (system (values_of c) (faces (values_of c)) region) j no_row
face_at c region j lt =
    let k = values_of c in
    let h : j < length (faces k) = omega (arith, case_faces c) in
    let h' : j < length (map (over_states k) (faces k)) = omega (arith, length-map (faces k) (over_states k)) in
    sym (get_or_append_left (map (over_states k) (faces k)) (after_faces k region) no_row j h' ∙ get_or-map (over_states k) (faces k) j no_row no_row h)

faces_are : (c : Case) → length (faces (values_of c)) ≡ 2 * c.states + c.extras
faces_are c = sym (case_faces c)

pub region_at : (c : Case) (region : List Row) (j : ℕ) → 2 * c.states + c.extras ≤ j → j < 2 * c.states + c.extras + length region → over_commands (values_of c) (get_or region (j - (2 * c.states + c.extras)) no_row) ≡ get_or (system (values_of c) (faces (values_of c)) region) j no_row
region_at c region j le lt =
    let k = values_of c in
    let f = 2 * c.states + c.extras in
    let h : j - f < length region = omega arith in
    let h' : j - f < length (map (over_commands k) region) = omega (arith, length-map region (over_commands k)) in
    sym (past_faces k (faces k) region j f (faces_are c) le
    ∙ get_or_append_left (map (over_commands k) region) (after_region k) no_row (j - f) h' ∙ get_or-map (over_commands k) region (j - f) no_row no_row h)

-- the last two groups, counted from the number of all rows
pub push_at_row : (c : Case) (region : List Row) (rows j : ℕ) → rows ≡ length (system (values_of c) (faces (values_of c)) region) → rows - 2 * c.states - 2 * c.pushes ≤ j → j < rows - 2 * c.states → get_or (push_rows (values_of c) 0 (values_of c).bounds) (j - (rows - 2 * c.states - 2 * c.pushes)) no_row ≡ get_or (system (values_of c) (faces (values_of c)) region) j no_row
push_at_row c region rows j e le lt =
    let k = values_of c in
    let f = 2 * c.states + c.extras in
    let r = length region in
    let W = push_rows k 0 k.bounds in
    let all = case_rows c region in
    let i : j - f - r ≡ j - (rows - 2 * c.states - 2 * c.pushes) = omega arith in
    let h : j - (rows - 2 * c.states - 2 * c.pushes) < length W = omega (arith, push_rows_count k 0 k.bounds, pushes_are c) in
    let le' : f + r ≤ j = omega arith in
    sym (past_region k (faces k) region j f r (faces_are c) refl le'
    ∙ ap (λ t. get_or (after_region k) t no_row) i ∙ get_or_append_left W (next_rows k 0 k.equations) no_row _ h)

pub next_at_row : (c : Case) (region : List Row) (rows j : ℕ) → rows ≡ length (system (values_of c) (faces (values_of c)) region) → rows - 2 * c.states ≤ j → get_or (next_rows (values_of c) 0 (values_of c).equations) (j - (rows - 2 * c.states)) no_row ≡ get_or (system (values_of c) (faces (values_of c)) region) j no_row
next_at_row c region rows j e le =
    let k = values_of c in
    let f = 2 * c.states + c.extras in
    let r = length region in
    let W = push_rows k 0 k.bounds in
    let all = case_rows c region in
    let p : length W ≡ 2 * c.pushes = omega (arith, push_rows_count k 0 k.bounds, pushes_are c) in
    let i : j - f - r - 2 * c.pushes ≡ j - (rows - 2 * c.states) = omega arith in
    sym (past_region k (faces k) region j f r (faces_are c) refl (omega arith)
    ∙ get_or-append_right W (next_rows k 0 k.equations) (2 * c.pushes) (j - f - r) no_row p (omega arith)
    ∙ ap (λ t. get_or (next_rows k 0 k.equations) t no_row) i)
