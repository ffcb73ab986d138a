-- What check answers, apart from the case that it trusts.
use Rattle.std.specs.Prelude.{Ok, Err, Result}
use Rattle.checking.specs.declared.faults.CheckFault.{CheckFault}
use Rattle.checking.specs.declared.trusted.Trusted.{Trusted}

abbrev pub trusted_answer : Result Trusted CheckFault → Result (Unit {0}) CheckFault
trusted_answer (Ok t) = Ok tt
trusted_answer (Err e) = Err e
