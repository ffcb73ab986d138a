-- The proof of `LawHead::row_limits`: what the search leaves.
use Rattle.std.proofs.Common.{sym, ap, ◌∙◌}
use Rattle.laws.specs.Limits.{row_limits}
use Rattle.laws.proofs.Storing.{limits_last}
use Rattle.laws.proofs.head.LawHead.row_limits.Goals as goal

pub returns-in-Saturated : goal.returns-in-Saturated
returns-in-Saturated c = limits_last c.args.self.states c.args.self.sizes.1 ∙ ap (λ k. row_limits k c.args.self.states) (sym c.in-Saturated.is)
