-- The fault of a proof that comes from a fault of its system, and the cause of each.
use Rattle.causes.specs.declared.Cause.{Cause}
use Rattle.system.specs.declared.fault.SystemFault.{SystemFault}
use Rattle.system.specs.declared.fault.SystemFault.TheVariants as system
use Rattle.certificate.specs.declared.fault.ProofFault.{ProofFault}
use Rattle.certificate.specs.declared.fault.ProofFault.TheVariants.{Sizes, Missing, Length, Range, Unequal, Excess}

abbrev pub of_system : SystemFault → ProofFault
of_system system.Sizes = Sizes
of_system system.Missing = Missing
of_system system.Length = Length

abbrev pub proof_cause : ProofFault → Cause
proof_cause Sizes = Cause.Sizes
proof_cause Missing = Cause.Missing
proof_cause Length = Cause.Length
proof_cause Range = Cause.Outside
proof_cause (Unequal column) = Cause.Unequal
proof_cause Excess = Cause.Excess
