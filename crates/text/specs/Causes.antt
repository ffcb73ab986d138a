-- The cause of a fault of a field.
use Rattle.causes.specs.declared.Cause.{Cause}
use Rattle.text.specs.declared.faults.FieldFault.{FieldFault}
use Rattle.text.specs.declared.faults.FieldFault.TheVariants.{Malformed, Outside}

abbrev pub field_cause : FieldFault → Cause
field_cause Malformed = Cause.Malformed
field_cause Outside = Cause.Outside
