-- The proof of `Sizes::extra_limits`: what the search leaves.
use Rattle.case.proofs.Composing.{extra_last}
use Rattle.case.proofs.sizes.Sizes.extra_limits.Goals as goal

pub returns : goal.returns
returns c = extra_last c.args.self.states c.args.self.sizes.1
