-- A law has one input or two.
use Rattle.std.proofs.Common.{◌≤◌, length, arith}
use Rattle.control.specs.declared.per_input.PerInput.{PerInput}
use Rattle.control.specs.declared.per_input.PerInput.TheVariants.{One, Two}
use Rattle.control.specs.Limits.{most_inputs}
use Rattle.control.specs.PerInput.{items}

pub items_few : {X : Type 0} (p : PerInput X) → (1 ≤ length (items p)) × (length (items p) ≤ most_inputs)
items_few (One a) = (omega arith, omega arith)
items_few (Two a b) = (omega arith, omega arith)
