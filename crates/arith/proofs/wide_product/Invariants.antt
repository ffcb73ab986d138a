-- The loop invariants of `wide_product`.
use Rattle.arith.proofs.Sums.{Summed}
use Rattle.arith.proofs.wide_product.Given as goal

abbrev pub invariant-loop-i : goal.invariant-loop-i
invariant-loop-i l = Summed l.factors l.values l.i l.sum
