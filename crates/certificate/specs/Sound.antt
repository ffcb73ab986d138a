-- What a certificate guarantees.
use Rattle.std.specs.Prelude.{◌≡◌}
use Rattle.control.specs.Cover.{Cover}
use Rattle.control.specs.Limits.{Limits}
use Rattle.control.specs.Meaning.{Meaning}
use Rattle.case.specs.declared.values.Case.{Case}
use Rattle.case.specs.Values.{values_of}
use Rattle.certificate.specs.Certificates.{Certified, Invariant}

-- a certificate makes the set of every case invariant, with every controller of its sizes that keeps its limits and cover
abbrev pub CertificatesSound : Type 0
CertificatesSound =
    (c : Case) (m : Meaning) → Limits m → Cover m → m.states ≡ c.states → m.inputs ≡ c.inputs
    → Certified (values_of c) m → Invariant (values_of c) m
