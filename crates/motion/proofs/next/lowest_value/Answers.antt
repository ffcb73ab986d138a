-- The proof of `lowest_value`: what the search leaves.
use Rattle.std.proofs.Common.{◌≡◌, ◌-ℤ◌, neg_ℤ, sym, ap, ◌∙◌, subst, SFits, to_z, of_z, rules}
use mir.Syntax.{w128}
use Rattle.std.specs.Int.{int_div_euclid}
use Rattle.std.proofs.lemmas.Int.{to_z-of_z}
use Rattle.arith.proofs.Widths.{widened}
use Rattle.motion.proofs.Roundings.{lowest_fits, widened_difference, quotient_read, negated_read}
use Rattle.motion.proofs.next.lowest_value.Goals as goal

quotient : (c : goal.After-div_euclid) → c.div_euclid.result ≡ int_div_euclid (c.args.leeway -ℤ c.args.v) c.args.divisor
quotient c =
    quotient_read _ _ _ _ _ c.div_euclid.ensures (widened_difference _ _ _ _ c.ranges.leeway c.ranges.v c.from.ensures c.from-2.ensures)
    (widened _ _ c.ranges.divisor c.from-3.ensures)

fits : (c : goal.After-div_euclid) → SFits w128 (neg_ℤ c.div_euclid.result)
fits c = subst (λ q. SFits w128 (neg_ℤ q)) (sym (quotient c)) (lowest_fits c.args.divisor c.args.leeway c.args.v c.requires c.ranges.leeway c.ranges.v)

pub overflow_sub-result : goal.overflow_sub-result
overflow_sub-result c =
    let f : SFits w128 c.div_euclid.result = search rules in
    subst (SFits w128) (sym (negated_read _ f)) (fits c)

pub returns : goal.returns
returns c =
    let f : SFits w128 c.div_euclid.result = search rules in
    ap (λ z. to_z w128 (of_z w128 z)) (negated_read _ f) ∙ to_z-of_z w128 _ (fits c) ∙ ap neg_ℤ (quotient c)
