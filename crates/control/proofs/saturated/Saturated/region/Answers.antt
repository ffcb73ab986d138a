-- The proof of `Saturated::region`: what the search leaves.
use Rattle.std.proofs.Common.{◌≡◌, true, sym, ap, ◌∙◌, rules}
use Rattle.arith.specs.Bounds.{all_within}
use Rattle.control.specs.Limits.{state_limit}
use Rattle.control.specs.Held.{inputs_of}
use Rattle.control.specs.Saturated.{index_of, digits_at}
use Rattle.control.proofs.SaturatedRows.{region_holds_at}
use Rattle.control.proofs.saturated.Saturated.region.Goals as goal

pub returns-clause-holds : goal.returns-clause-holds
returns-clause-holds c =
    let s = c.args.self.now in
    let t = c.in_ok-x.ensures.taken in
    let f : all_within state_limit c.args.x.now ≡ true = ap (all_within state_limit) (sym t.0) ∙ c.in_ok-x.x.small in
    let i : c.index.result ≡ index_of (digits_at s.states.count (inputs_of s.inputs) c.args.x.now) = search rules in
    region_holds_at s c.args.x.now c.index.result t.1 f i
