-- What reading a case text gives, and the first fault in reading it from the front.
use Rattle.std.specs.Prelude.{ℕ, ◌+◌, ◌*◌, cond, List, [], ℤ, pos, ◌+ℤ◌, ◌*ℤ◌, Ok, Err, codes, Result, int_le, slice_index_or}
use Rattle.text.specs.Blocks.{told_as, Judgement}
pub use Rattle.text.specs.Blocks.{size_at}
use Rattle.text.specs.Blocks as blocks
use Rattle.text.specs.Lines.{bind, size_of, names_line, place}
use Rattle.text.specs.declared.faults.TextFault.{TextFault}
use Rattle.text.specs.declared.number.Limit.{Limit}
use Rattle.case.specs.Fields.{sizes_limits, state_limits, push_limits, dynamics_limits, extra_limits}
use Rattle.case.specs.declared.faults.CaseFault.{CaseFault}
use Rattle.case.specs.declared.faults.CaseFault.TheVariants.{Text, Order, Narrow}

-- the values of a case text: the number of inputs, the divisor, and for each section the numbers of its lines
pub record CaseText : Type 0 where
  pub inputs : ℕ
  pub divisor : ℤ
  pub states : List (List ℤ)
  pub pushes : List (List ℤ)
  pub dynamics : List (List ℤ)
  pub extras : List (List ℤ)

abbrev pub sizes_names : List ℕ
sizes_names = codes "states inputs disturbances extra divisor"

abbrev pub state_names : List ℕ
state_names = codes "low high leeway constant"

abbrev pub push_names : List ℕ
push_names = codes "push-low push-high"

abbrev pub dynamics_names : List ℕ
dynamics_names = codes "A B E"

abbrev pub extra_names : List ℕ
extra_names = codes "F f"

abbrev pub proof_names : List ℕ
proof_names = codes "region face scale multipliers"

-- a fault of the text is a fault of the case
abbrev pub as_case : {X : Type 0} → Result X TextFault → Result X CaseFault
as_case = told_as Text

-- low is not above high, which are the first two numbers of a row
abbrev pub in_order : ℕ → List ℤ → Result (Unit {0}) CaseFault
in_order line row = cond (int_le (slice_index_or row 0 (pos 0)) (slice_index_or row 1 (pos 0))) (Ok tt) (Err (Order (place line 2)))

-- 2 × leeway + 1 reaches the divisor, where the leeway is the third number of a row
abbrev pub wide_enough : ℤ → ℕ → List ℤ → Result (Unit {0}) CaseFault
wide_enough divisor line row = cond (int_le divisor (pos 2 *ℤ slice_index_or row 2 (pos 0) +ℤ pos 1)) (Ok tt) (Err (Narrow (place line 3)))

-- what is judged over a whole line: nothing, that low is not above high, and of a state also that its leeway suffices
abbrev pub unjudged : ℕ → List ℤ → Result (Unit {0}) CaseFault
unjudged line row = Ok tt

abbrev pub state_judged : ℤ → ℕ → List ℤ → Result (Unit {0}) CaseFault
state_judged divisor line row = bind (in_order line row) (λ _. wide_enough divisor line row)

-- k lines of values from a line on, and the text after them
abbrev pub rows_of : List Limit → Judgement CaseFault → ℕ → ℕ → List ℕ → Result (List (List ℤ) × List ℕ) CaseFault
rows_of limits judged k line text = blocks.rows_of Text judged limits k line text

-- a section, whose names stand at a line: k lines of values, and the text after them
abbrev pub section_of : List ℕ → List Limit → Judgement CaseFault → ℕ → ℕ → List ℕ → Result (List (List ℤ) × List ℕ) CaseFault
section_of names limits judged k line text = bind (as_case (names_line line names text)) (λ rest. rows_of limits judged k (line + 1) rest)

-- the numbers of states, inputs, pushes and extra faces, and the divisor
pub record CaseSizes : Type 0 where
  pub states : ℕ
  pub inputs : ℕ
  pub pushes : ℕ
  pub extras : ℕ
  pub divisor : ℤ

abbrev pub sizes_of : List ℤ → CaseSizes
sizes_of row = record { states = size_at row 0; inputs = size_at row 1; pushes = size_at row 2; extras = size_at row 3; divisor = slice_index_or row 4 (pos 0) }

-- the size of the text, and then its first section
abbrev pub sizes_section : List ℕ → Result (CaseSizes × List ℕ) CaseFault
sizes_section text =
    bind (as_case (size_of text)) (λ _.
    bind (section_of sizes_names sizes_limits unjudged 1 1 text) (λ p. Ok (sizes_of (slice_index_or p.0 0 []), p.1)))

-- The sections behind the sizes.

abbrev pub state_section : CaseSizes → List ℕ → Result (List (List ℤ) × List ℕ) CaseFault
state_section k text = section_of state_names state_limits (state_judged k.divisor) k.states 3 text

abbrev pub push_section : CaseSizes → List ℕ → Result (List (List ℤ) × List ℕ) CaseFault
push_section k text = section_of push_names push_limits in_order k.pushes (4 + k.states) text

abbrev pub dynamics_section : CaseSizes → List ℕ → Result (List (List ℤ) × List ℕ) CaseFault
dynamics_section k text = section_of dynamics_names (dynamics_limits (k.states + k.inputs + k.pushes)) unjudged k.states (5 + k.states + k.pushes) text

abbrev pub extra_section : CaseSizes → List ℕ → Result (List (List ℤ) × List ℕ) CaseFault
extra_section k text = section_of extra_names (extra_limits k.states) unjudged k.extras (6 + 2 * k.states + k.pushes) text

-- the line of the proofs' names
abbrev pub proofs_line : CaseSizes → ℕ
proofs_line k = 7 + 2 * k.states + k.pushes + k.extras

-- all of them, up to the names of the proofs
abbrev pub body_of : CaseSizes → List ℕ → Result (CaseText × List ℕ) CaseFault
body_of k text =
    bind (state_section k text) (λ a.
    bind (push_section k a.1) (λ b.
    bind (dynamics_section k b.1) (λ c.
    bind (extra_section k c.1) (λ d.
    bind (as_case (names_line (proofs_line k) proof_names d.1)) (λ rest.
    Ok (record { inputs = k.inputs; divisor = k.divisor; states = a.0; pushes = b.0; dynamics = c.0; extras = d.0 }, rest))))))

-- a case text: its values and the rest of the text, which holds the proof lines
abbrev pub case_of : List ℕ → Result (CaseText × List ℕ) CaseFault
case_of text = bind (sizes_section text) (λ p. body_of p.0 p.1)
