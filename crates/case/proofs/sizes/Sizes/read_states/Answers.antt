-- The proof of `Sizes::read_states`: what the search leaves.
use Rattle.std.proofs.Common.{◌≡◌, ap, ◌∙◌, rules, w64, to_z, of_z}
use Rattle.case.specs.Texts.{state_judged}
use Rattle.case.proofs.Composing.{divisor_back}
use Rattle.case.proofs.Judging.{state_padded}
use Rattle.case.proofs.sizes.Sizes.read_states.Goals as goal

pub returns : goal.returns
returns c =
    let D = c.args.self.divisor in
    c.read.ensures (state_judged D) (λ line row zs r e h.
    let q : r ≡ state_judged (to_z w64 (of_z w64 D)) line row.now = search rules in
    q ∙ ap (λ d. state_judged d line row.now) (divisor_back D c.args.self.divides) ∙ state_padded D line zs row.now e)
