-- The proof of `new`: what the search leaves.
use Rattle.std.proofs.Common.{rules}
use Rattle.certificate.proofs.Found.{limited_within}
use Rattle.certificate.proofs.Tested.{decides_in_limit}
use Rattle.certificate.proofs.candidate.Candidate.new.Goals as goal

pub invariant_of-result-clause-scale_small : goal.invariant_of-result-clause-scale_small
invariant_of-result-clause-scale_small c = limited_within _ ((decides_in_limit _).0 (search rules))
