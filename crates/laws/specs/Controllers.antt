-- The controller that a law text means.
use Rattle.std.specs.Prelude.{ℕ, Bool, ◌&&◌, List, map, length, take, ℤ, pos, Ok, Err, Result, nat_le, slice_index_or}
use Rattle.std.specs.Borrow.{Bor}
use Rattle.control.specs.Fixed.{fixed_ok, fixed_partition}
use Rattle.control.specs.Held.{inputs_of}
use Rattle.control.specs.Limits.{most_inputs}
use Rattle.control.specs.Meaning.{Meaning, meaning}
use Rattle.control.specs.PerInput.{items}
use Rattle.control.specs.Saturated.{saturated_ok, saturated_partition, saturated_command}
use Rattle.control.specs.declared.input.Input.{Input}
use Rattle.text.specs.Lines.{bind}
use Rattle.laws.specs.Laws.{LawText, law_of}
use Rattle.laws.specs.Tables.{input_of}
use Rattle.laws.specs.declared.faults.LawFault.{LawFault}
use Rattle.laws.specs.declared.law.Law.{Law}
use Rattle.laws.specs.declared.law.Law.TheVariants.{Saturated as OfSaturated, Fixed as OfFixed}
use Rattle.laws.specs.declared.table.LawKind.{LawKind}
use Rattle.laws.specs.declared.table.LawKind.TheVariants.{Saturated, Fixed}
use Rattle.laws.specs.declared.table.LawTable.{LawTable}
use Rattle.laws.specs.declared.table.LawTable.TheVariants.{Saturated as SaturatedTable, Fixed as FixedTable}

-- a saturated law of n states with these inputs, and a fixed one with these commands
abbrev pub saturated_law : ℕ → List Input → Meaning
saturated_law n is = meaning n (length is) (saturated_partition n is) (saturated_command n is)

abbrev pub fixed_law : ℕ → List ℤ → Meaning
fixed_law n us = meaning n (length us) (fixed_partition n us) (λ _. us)

-- what a law of either make means
abbrev pub controlled : Law → Meaning
controlled (OfSaturated s) = saturated_law s.states.count (inputs_of s.inputs)
controlled (OfFixed f) = fixed_law f.states.count (items f.commands)

-- what n states, m inputs and a table mean, and whether they keep the limits
abbrev pub table_meaning : ℕ → ℕ → LawTable → Meaning
table_meaning n m (SaturatedTable is) = saturated_law n (take m is)
table_meaning n m (FixedTable us) = fixed_law n (take m us)

abbrev pub table_ok : ℕ → ℕ → LawTable → Bool
table_ok n m (SaturatedTable is) = nat_le m most_inputs && saturated_ok n (take m is)
table_ok n m (FixedTable us) = nat_le m most_inputs && fixed_ok n (take m us)

-- what the values of a law text mean
abbrev pub values_meaning : LawKind → ℕ → List (List ℤ) → Meaning
values_meaning Saturated n rows = saturated_law n (map (input_of n) rows)
values_meaning Fixed n rows = fixed_law n (map (λ row. slice_index_or row 0 (pos 0)) rows)

abbrev pub law_meaning : LawText → Meaning
law_meaning law = values_meaning law.kind law.states law.rows

-- a law text read as a controller: what it means, and the rest of the text
abbrev pub controller_of : List ℕ → Result (Meaning × List ℕ) LawFault
controller_of text = bind (law_of text) (λ p. Ok (law_meaning p.0, p.1))

abbrev pub controller_told : Result (Law × Bor (List ℕ)) LawFault → Result (Meaning × List ℕ) LawFault
controller_told (Ok p) = Ok (controlled p.0, p.1.now)
controller_told (Err e) = Err e
