-- What a saturated law holds, and what it means by that.
use Rattle.std.specs.Prelude.{ℕ, List, map, ℤ}
use Rattle.control.specs.declared.input.Input.{Input}
use Rattle.control.specs.declared.input.Limited.{Limited}
use Rattle.control.specs.declared.per_input.PerInput.{PerInput}
use Rattle.control.specs.declared.saturated.Saturated.{Saturated}
use Rattle.control.specs.Meaning.{Row}
use Rattle.control.specs.PerInput.{items}
use Rattle.control.specs.Saturated.{region_rows, saturated_partition, saturated_command}

abbrev pub inputs_of : PerInput Limited → List Input
inputs_of p = map (λ l. l.input) (items p)

-- the regions with their rows, the rows of the region with the index r, and the command
abbrev pub partition_of : Saturated → List (List Row)
partition_of s = saturated_partition s.states.count (inputs_of s.inputs)

abbrev pub rows_of : Saturated → ℕ → List Row
rows_of s r = region_rows s.states.count (inputs_of s.inputs) r

abbrev pub command_of : Saturated → List ℤ → List ℤ
command_of s x = saturated_command s.states.count (inputs_of s.inputs) x
