-- The proof of `permitted`: what the search leaves.
use Rattle.std.proofs.Common.{◌≡◌, pos, ◌≤ℤ◌, ◌∙◌, arith, SFits, to_z, of_z, rules}
use mir.Syntax.{w128}
use Rattle.std.proofs.lemmas.Int.{ints, to_z-of_z}
use Rattle.case.specs.Next.{lowest, highest}
use Rattle.motion.proofs.Roundings.{permitted_is, exactly, some, numbers_read}
use Rattle.motion.proofs.next.permitted.Goals as goal

pub returns : goal.returns
returns c =
    let D = c.args.divisor in
    let r = c.args.leeway in
    let v = c.args.v in
    let one : pos 1 ≤ℤ D = omega (arith, ints) in
    let f : SFits w128 c.lowest_value.result = search rules in
    let g : SFits w128 c.highest_value.result = search rules in
    let l : to_z w128 (of_z w128 c.lowest_value.result) ≡ lowest D r v =
    to_z-of_z w128 _ f ∙ c.lowest_value.ensures ∙ numbers_read lowest D r v c.ranges.divisor c.ranges.leeway c.ranges.v in
    let u : to_z w128 (of_z w128 c.highest_value.result) ≡ highest D r v =
    to_z-of_z w128 _ g ∙ c.highest_value.ensures ∙ numbers_read highest D r v c.ranges.divisor c.ranges.leeway c.ranges.v in
    record {
      value = permitted_is D r v _ _ one l u;
      exactly = exactly D r v _ _ one l u;
      some = λ _ wide. some D r v _ _ one l u wide;
    }
