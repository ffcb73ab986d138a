-- What each question answers and leaves in the lent list, from the meaning; regions and rows count from 1.
use Rattle.std.specs.Prelude.{ℕ, ◌+◌, ◌-◌, Bool, cond, ◌&&◌, List, [], length, ℤ, pos, is_ok, Ok, Err, Result, ◌==◌, nat_lt, slice_index_or}
use Rattle.arith.specs.Bounds.{all_within}
use Rattle.causes.specs.Causes.{number_of}
use Rattle.causes.specs.declared.Cause.{Cause}
use Rattle.control.specs.declared.fault.ControlFault.{ControlFault}
use Rattle.control.specs.declared.fault.ControlFault.TheVariants.{Missing, Length, Range}
use Rattle.control.specs.Meaning.{Row, Meaning}
use Rattle.control.specs.Limits.{state_limit}

-- the cause of each refusal, and its number
abbrev pub cause_of : ControlFault → Cause
cause_of Missing = Cause.Missing
cause_of Length = Cause.Length
cause_of Range = Cause.Outside

abbrev pub control_cause : ControlFault → ℕ
control_cause fault = number_of (cause_of fault)

abbrev pub present : {X : Type 0} → List X → ℕ → Bool
present xs k = nat_lt 0 k && nat_lt (k - 1) (length xs)

abbrev pub region_of : Meaning → ℕ → List Row
region_of m k = slice_index_or m.regions (k - 1) []

abbrev pub no_row : Row
no_row = record { coefficients = []; right = pos 0 }

abbrev pub row_of : Meaning → ℕ → ℕ → Row
row_of m k j = slice_index_or (region_of m k) (j - 1) no_row

-- how many rows region k has
abbrev pub rows_answer : Meaning → ℕ → Result ℕ ControlFault
rows_answer m k = cond (present m.regions k) (Ok (length (region_of m k))) (Err Missing)

-- the right side of row j of region k, and its coefficients in the list
abbrev pub row_answer : Meaning → ℕ → ℕ → List ℤ → Result ℤ ControlFault
row_answer m k j list =
    cond (present m.regions k && present (region_of m k) j)
    (cond (length list == m.states + m.inputs) (Ok (row_of m k j).right) (Err Length))
    (Err Missing)

abbrev pub row_fills : Meaning → ℕ → ℕ → List ℤ → List ℤ
row_fills m k j list = cond (is_ok (row_answer m k j list)) (row_of m k j).coefficients list

-- whether x is a state in range, of n values
abbrev pub state_answer : ℕ → List ℤ → Result (Unit {0}) ControlFault
state_answer n x = cond (length x == n) (cond (all_within state_limit x) (Ok tt) (Err Range)) (Err Length)

-- whether the command at x is given, and the command in the list
abbrev pub command_answer : Meaning → List ℤ → List ℤ → Result (Unit {0}) ControlFault
command_answer m x list =
    cond (length x == m.states && length list == m.inputs)
    (cond (all_within state_limit x) (Ok tt) (Err Range))
    (Err Length)

abbrev pub command_fills : Meaning → List ℤ → List ℤ → List ℤ
command_fills m x list = cond (is_ok (command_answer m x list)) (m.command x) list
