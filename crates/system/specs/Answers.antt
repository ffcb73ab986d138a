-- What the questions on the system of a region answer, and what is left in the lent list; regions and rows count from 1.
use Rattle.std.specs.Prelude.{ℕ, ◌-◌, Bool, cond, ◌&&◌, List, length, ℤ, is_ok, Ok, Err, Result, ◌==◌, slice_index_or}
use Rattle.control.specs.Meaning.{Row, Meaning}
use Rattle.control.specs.Answers.{present, region_of, no_row}
use Rattle.case.specs.Values.{CaseValues, state_count}
use Rattle.case.specs.Faces.{faces}
use Rattle.case.specs.System.{column_count, system}
use Rattle.system.specs.declared.fault.SystemFault.{SystemFault}
use Rattle.system.specs.declared.fault.SystemFault.TheVariants.{Sizes, Missing, Length}
use Rattle.system.specs.declared.size.SystemSize.{SystemSize}

-- the most rows and columns of a system
abbrev pub most_system_rows : ℕ
most_system_rows = 40

abbrev pub most_columns : ℕ
most_columns = 12

-- the controller has as many states and inputs as the case
abbrev pub fits : CaseValues → Meaning → Bool
fits k m = m.states == state_count k && m.inputs == k.inputs

abbrev pub system_of : CaseValues → Meaning → ℕ → List Row
system_of k m region = system k (faces k) (region_of m region)

-- how many rows and columns the system of the region has
abbrev pub size_answer : CaseValues → Meaning → ℕ → Result SystemSize SystemFault
size_answer k m region =
    cond (fits k m)
    (cond (present m.regions region) (Ok (record { rows = length (system_of k m region); columns = column_count k })) (Err Missing))
    (Err Sizes)

abbrev pub system_row_of : CaseValues → Meaning → ℕ → ℕ → Row
system_row_of k m region row = slice_index_or (system_of k m region) (row - 1) no_row

-- the right side of a row of the system, and its coefficients in the list
abbrev pub system_row_answer : CaseValues → Meaning → ℕ → ℕ → List ℤ → Result ℤ SystemFault
system_row_answer k m region row list =
    cond (fits k m)
    (cond (present m.regions region && present (system_of k m region) row)
    (cond (length list == column_count k) (Ok (system_row_of k m region row).right) (Err Length))
    (Err Missing))
    (Err Sizes)

abbrev pub system_row_fills : CaseValues → Meaning → ℕ → ℕ → List ℤ → List ℤ
system_row_fills k m region row list =
    cond (is_ok (system_row_answer k m region row list)) (system_row_of k m region row).coefficients list
