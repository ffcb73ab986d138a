-- The proof of `is_proper`: what the search leaves.
use Rattle.std.proofs.Common.{arith, rules}
use Rattle.elimination.proofs.Propers.{proper_both}
use Rattle.elimination.proofs.row.Row.is_proper.Goals as goal

pub returns-then-is_low-clause-fact : goal.returns-then-is_low-clause-fact
returns-then-is_low-clause-fact c = proper_both c.args.self.now _ (search rules) (search rules) (grind arith)

pub returns-else-is_low-clause-fact : goal.returns-else-is_low-clause-fact
returns-else-is_low-clause-fact c = proper_both c.args.self.now _ (search rules) (search rules) (grind arith)
