-- What is known of every saturated law.
use Rattle.std.proofs.Common.{length}
use Rattle.control.specs.Held.{inputs_of}
use Rattle.control.specs.declared.saturated.Saturated.{Saturated}
use Rattle.control.specs.Lawful.SaturatedLaws.{SaturatedOk, ok_held}

pub ok_of : (s : Saturated) → SaturatedOk s.states.count (length (inputs_of s.inputs)) (inputs_of s.inputs)
ok_of s = ok_held s.states s.inputs
