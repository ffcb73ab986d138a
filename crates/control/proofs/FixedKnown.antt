-- What is known of every fixed law.
use Rattle.std.proofs.Common.{length}
use Rattle.control.specs.PerInput.{items}
use Rattle.control.specs.declared.fixed.Fixed.{Fixed}
use Rattle.control.specs.Lawful.FixedLaws.{FixedOk, ok_held}

pub ok_of : (c : Fixed) → FixedOk c.states.count (length (items c.commands)) (items c.commands)
ok_of c = ok_held c.states c.commands c.small
