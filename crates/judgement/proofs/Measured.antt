-- The proof part of a text that renders a case is one that a case text can have.
use Rattle.std.proofs.Common.{ℕ, ◌≤◌, List, [], ◌∷◌, length, ℤ, refl, arith}
use Rattle.std.proofs.lemmas.List.{length-map}
use Rattle.text.specs.Lines.{text_limit}
use Rattle.text.specs.Render.{line_before}
use Rattle.case.specs.Forms.{case_before, rows_before, section_before, sizes_from, sizes_row, CaseKept}
use Rattle.case.specs.Stored.{bounds_from, extra_from, case_values}
use Rattle.case.specs.Texts.{CaseText, sizes_names, state_names, push_names, dynamics_names, extra_names, proof_names}
use Rattle.case.proofs.Storing.{count_is}
use Rattle.checking.specs.Checking.{most_first_line}
use Rattle.judgement.specs.Judging.{first_line}
use Rattle.judgement.proofs.Longer.{line_longer, rows_longer}

section_longer : (names : List ℕ) (rows : List (List ℤ)) (rest : List ℕ) → length rest ≤ length (section_before names rows rest)
section_longer names rows rest = omega (arith, rows_longer rows rest, line_longer names (rows_before rows rest))

case_longer : (t : CaseText) (proofs : List ℕ) → length proofs ≤ length (case_before t proofs)
case_longer t proofs =
    let names = line_before proof_names proofs in
    let extras = section_before extra_names t.extras names in
    let dynamics = section_before dynamics_names t.dynamics extras in
    let pushes = section_before push_names t.pushes dynamics in
    let states = section_before state_names t.states pushes in
    let a = line_longer proof_names proofs in
    let b = section_longer extra_names t.extras names in
    let d = section_longer dynamics_names t.dynamics extras in
    let e = section_longer push_names t.pushes dynamics in
    let f = section_longer state_names t.states pushes in
    let g = section_longer sizes_names (sizes_row (sizes_from t) ∷ []) states in
    omega arith

first_line_early : (t : CaseText) → CaseKept t → first_line (case_values t) ≤ most_first_line
first_line_early t h =
    omega (arith, count_is t h (sizes_from t) refl, length-map t.pushes bounds_from, length-map t.extras (extra_from (length t.states)), h.sizes.states_high, h.sizes.pushes_high, h.sizes.extras_high)

pub measured : (t : CaseText) (proofs : List ℕ) → CaseKept t → length (case_before t proofs) ≤ text_limit → (first_line (case_values t) ≤ most_first_line) × (length proofs ≤ text_limit)
measured t proofs h small = (first_line_early t h, omega (arith, case_longer t proofs, small))
