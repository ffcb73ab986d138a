-- The proof of `Case::blank`: what the search leaves.
use Rattle.std.proofs.Common.{refl, arith}
use Rattle.std.proofs.lemmas.Int.{ints}
use Rattle.case.proofs.values.Case.blank.Goals as goal

pub invariant_of-result : goal.invariant_of-result
invariant_of-result c =
    record {
      sizes = (omega arith, omega arith, omega arith, omega arith);
      counts = (omega arith, omega arith);
      lengths = (refl, refl, refl);
      divides = (omega (arith, ints), omega (arith, ints));
      limits = (refl, refl, refl);
      wide = refl;
    }
