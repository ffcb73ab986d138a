-- The form of a case text, said by rendering.
use Rattle.std.specs.Prelude.{◌≡◌, ℕ, ◌+◌, ◌≤◌, List, [], ◌∷◌, length, ℤ, pos, ◌+ℤ◌, ◌*ℤ◌, ◌≤ℤ◌, Ok, slice_index_or}
use Rattle.std.specs.List.{AllByRecursion}
use Rattle.control.specs.Limits.{most_states, most_inputs}
use Rattle.text.specs.Forms.{Iff}
pub use Rattle.text.specs.Blocks.{rows_before, RowKept}
use Rattle.text.specs.Lines.{text_limit}
use Rattle.text.specs.Render.{line_before}
use Rattle.case.specs.Fields.{state_limits, push_limits, dynamics_limits, extra_limits}
use Rattle.case.specs.Limits.{most_pushes, most_extras, divisor_limit}
use Rattle.case.specs.Texts.{CaseText, CaseSizes, sizes_names, state_names, push_names, dynamics_names, extra_names, proof_names, case_of}

-- a section before the rest of a text
abbrev pub section_before : List ℕ → List (List ℤ) → List ℕ → List ℕ
section_before names rows rest = line_before names (rows_before rows rest)

-- the numbers of states, inputs, pushes and extra faces, and the divisor
abbrev pub sizes_from : CaseText → CaseSizes
sizes_from t = record { states = length t.states; inputs = t.inputs; pushes = length t.pushes; extras = length t.extras; divisor = t.divisor }

abbrev pub sizes_row : CaseSizes → List ℤ
sizes_row k = pos k.states ∷ pos k.inputs ∷ pos k.pushes ∷ pos k.extras ∷ k.divisor ∷ []

-- the sections behind the sizes, and then the proof part
abbrev pub body_before : CaseText → List ℕ → List ℕ
body_before t proofs =
    section_before state_names t.states (section_before push_names t.pushes
    (section_before dynamics_names t.dynamics (section_before extra_names t.extras (line_before proof_names proofs))))

-- a case text, whose proof part is given
abbrev pub case_before : CaseText → List ℕ → List ℕ
case_before t proofs = section_before sizes_names (sizes_row (sizes_from t) ∷ []) (body_before t proofs)

pub record SizesKept (k : CaseSizes) : Type 0 where
  pub states_low : 1 ≤ k.states
  pub states_high : k.states ≤ most_states
  pub inputs_low : 1 ≤ k.inputs
  pub inputs_high : k.inputs ≤ most_inputs
  pub pushes_high : k.pushes ≤ most_pushes
  pub extras_high : k.extras ≤ most_extras
  pub divisor_low : pos 1 ≤ℤ k.divisor
  pub divisor_high : k.divisor ≤ℤ pos divisor_limit

-- low not above high, and 2 × leeway + 1 not below the divisor
abbrev pub InOrder : List ℤ → Type 0
InOrder row = slice_index_or row 0 (pos 0) ≤ℤ slice_index_or row 1 (pos 0)

abbrev pub GoodState : ℤ → List ℤ → Type 0
GoodState divisor row = InOrder row × (divisor ≤ℤ (pos 2 *ℤ slice_index_or row 2 (pos 0) +ℤ pos 1))

abbrev pub AnyRow : List ℤ → Type 0
AnyRow row = Unit {0}

pub record CaseKept (t : CaseText) : Type 0 where
  pub sizes : SizesKept (sizes_from t)
  pub long : length t.dynamics ≡ length t.states
  pub each_state : AllByRecursion (RowKept state_limits (GoodState t.divisor)) t.states
  pub each_push : AllByRecursion (RowKept push_limits InOrder) t.pushes
  pub each_dynamics : AllByRecursion (RowKept (dynamics_limits (length t.states + t.inputs + length t.pushes)) AnyRow) t.dynamics
  pub each_extra : AllByRecursion (RowKept (extra_limits (length t.states)) AnyRow) t.extras

-- a text is read as these values, with this proof part, exactly when it is their rendering followed by the proof part, the values keep the limits, and the whole is not too long
unfoldable pub CaseForm : List ℕ → Type 0
CaseForm text =
    (t : CaseText) (proofs : List ℕ)
    → Iff (case_of text ≡ Ok (t, proofs)) ((text ≡ case_before t proofs) × CaseKept t × (length text ≤ text_limit))
