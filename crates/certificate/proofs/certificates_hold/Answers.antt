-- Certificates are sound.
use Rattle.certificate.proofs.Soundness.{certificates_sound}
use Rattle.certificate.proofs.certificates_hold.Goals as goal

pub returns : goal.returns
returns c = certificates_sound
