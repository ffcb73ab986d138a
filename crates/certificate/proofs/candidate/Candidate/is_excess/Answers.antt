-- The proof of `is_excess`: what the search leaves.
use Rattle.std.proofs.Common.{ℤ, pos, sym, ap, ◌∙◌, arith, lit<, w64, of_z}
use Rattle.std.proofs.lemmas.Int.{ints, to_z-of_z}
use Rattle.std.proofs.lemmas.Bool.{eqb-true, false≢true}
use Rattle.arith.specs.Bounds.{Within}
use Rattle.control.specs.Limits.{right_limit}
use Rattle.certificate.specs.Tests.{multiplier_limit}
use Rattle.certificate.proofs.Adding.{Computed, computed}
use Rattle.certificate.proofs.Tested.{is_above, not_above, excess_by}
use Rattle.certificate.proofs.candidate.Candidate.is_excess.Goals as goal

scaled_right : (scale right : ℤ) → Within multiplier_limit scale → Within right_limit right → Computed (pos 0) scale right
scaled_right scale right limit small = computed 0 multiplier_limit right_limit (pos 0) scale right (lit< tt) (lit< tt) (lit< tt) (omega (arith, ints), omega (arith, ints)) limit small

pub overflow_mul-self : goal.overflow_mul-self
overflow_mul-self c = (scaled_right c.args.self.now.scale c.args.right c.args.self.now.scale_small c.requires).product_fits

pub returns-then-sum-self : goal.returns-then-sum-self
returns-then-sum-self c =
    let right = (scaled_right c.args.self.now.scale c.args.right c.args.self.now.scale_small c.requires).product in
    let sum = to_z-of_z w64 _ c.ranges.sum in
    excess_by c.args.sum c.args.self.now.scale c.args.right _ (λ e h. is_above _ _ _ _ right sum e h.0) (λ e. absurd (false≢true (sym e ∙ c.if-sum-self.true)))

pub returns-else-self-eq0 : goal.returns-else-self-eq0
returns-else-self-eq0 c =
    let right = (scaled_right c.args.self.now.scale c.args.right c.args.self.now.scale_small c.requires).product in
    let sum = to_z-of_z w64 _ c.ranges.sum in
    excess_by c.args.sum c.args.self.now.scale c.args.right _ (λ e h. c.if-self-eq0.false (eqb-true _ _ e))
    (λ e. (not_above _ _ _ _ right sum c.if-sum-self.false, (λ z. absurd (c.if-self-eq0.false (ap (of_z w64) z)))))
