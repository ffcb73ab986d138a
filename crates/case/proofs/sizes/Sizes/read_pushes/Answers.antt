-- The proof of `Sizes::read_pushes`: what the search leaves.
use Rattle.std.proofs.Common.{◌≡◌, ◌∙◌, rules}
use Rattle.case.specs.Texts.{in_order}
use Rattle.case.proofs.Judging.{in_order_padded}
use Rattle.case.proofs.sizes.Sizes.read_pushes.Goals as goal

pub returns : goal.returns
returns c = c.read.ensures in_order (λ line row zs r e h. let q : r ≡ in_order line row.now = search rules in q ∙ in_order_padded line zs row.now e)
