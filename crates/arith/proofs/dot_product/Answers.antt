-- The proof of `dot_product`: what the search leaves.
use Rattle.arith.proofs.Sums.{narrowed}
use Rattle.arith.proofs.dot_product.Goals as goal

pub overflow_cast-result : goal.overflow_cast-result
overflow_cast-result c = (narrowed _ _ _ c.requires.same c.requires.few c.requires.first c.requires.second c.wide_product.ensures).0

pub returns : goal.returns
returns c = (narrowed _ _ _ c.requires.same c.requires.few c.requires.first c.requires.second c.wide_product.ensures).1
