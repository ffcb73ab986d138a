-- The proof of `weighted_sum`: what the search leaves.
use Rattle.std.proofs.Common.{arith, rules}
use Rattle.std.proofs.lemmas.Int.{to_z-of_z}
use Rattle.arith.proofs.Bounds.{all_wider}
use Rattle.elimination.specs.Rows.{multiplier_limit, number_limit}
use Rattle.elimination.proofs.pair.weighted_sum.Goals as goal

pub weigh_all-requires : goal.weigh_all-requires
weigh_all-requires c = search (rules, all_wider multiplier_limit number_limit (omega arith))

pub returns : goal.returns
returns c = record { value = grind (arith, to_z-of_z) }
