-- The number that a host receives.
use Rattle.std.specs.Prelude.{ℕ, Ok, Err, Result}
use Rattle.checking.specs.Reports.{check_report}
use Rattle.checking.specs.declared.faults.CheckFault.{CheckFault}
use Rattle.judgement.specs.declared.Accepted.{Accepted}

-- 0 for accepted, otherwise the cause that the fault tells
abbrev pub verdict_cause : Result Accepted CheckFault → ℕ
verdict_cause (Ok accepted) = 0
verdict_cause (Err fault) = (check_report fault).cause
