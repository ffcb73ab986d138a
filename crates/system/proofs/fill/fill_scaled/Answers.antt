-- The proof of `fill_scaled`: what the search leaves.
use Rattle.std.proofs.Common.{◌≡◌, ◌<◌, ◌≢◌, length, get_or, ℤ, pos, ◌*ℤ◌, sym, ap, ◌∙◌, arith, lit<, get_or-set_other, get_or-set_same, w64, SFits, to_z, of_z, below_more}
use Rattle.std.proofs.ByRecursion.{All-get_or}
use Rattle.std.proofs.lemmas.List.{ext_get_or, length-map, get_or-map}
use Rattle.std.proofs.lemmas.Int.{to_z-of_z}
use Rattle.arith.specs.Bounds.{Within}
use Rattle.arith.proofs.Bounds.{sign_within, sfits_within, product_read}
use Rattle.control.specs.Limits.{coefficient_limit}
use Rattle.system.proofs.fill.fill_scaled.Goals as goal

sign_read : (c : goal.After-coefficients-1) → to_z w64 (of_z w64 c.args.sign) ≡ c.args.sign
sign_read c = to_z-of_z w64 _ (sfits_within 1 _ (lit< tt) c.requires.sign)

product_small : (c : goal.After-coefficients-1) → SFits w64 (c.args.sign *ℤ get_or c.args.values.now c.loop-i.i (pos 0))
product_small c =
    sfits_within coefficient_limit _ (lit< tt) (sign_within coefficient_limit _ _ c.requires.sign (All-get_or (Within coefficient_limit) _ _ (pos 0) c.loop-i-test.true c.requires.small))

product_is : (c : goal.After-coefficients-1) → to_z w64 (of_z w64 c.args.sign) *ℤ to_z w64 (of_z w64 (get_or c.args.values.now c.loop-i.i (pos 0))) ≡ c.args.sign *ℤ get_or c.args.values.now c.loop-i.i (pos 0)
product_is c =
    let w = All-get_or (Within coefficient_limit) c.args.values.now c.loop-i.i (pos 0) c.loop-i-test.true c.requires.small in
    product_read _ _ (sfits_within 1 _ (lit< tt) c.requires.sign) (sfits_within coefficient_limit _ (lit< tt) w)

pub loop-i-preserved : goal.loop-i-preserved
loop-i-preserved c =
    let v = ap (λ z. to_z w64 (of_z w64 z)) (product_is c) ∙ to_z-of_z w64 _ (product_small c) ∙ ap (λ s. s *ℤ get_or c.args.values.now c.loop-i.i (pos 0)) (sym (sign_read c)) in
    let lt : c.loop-i.i < length c.loop-i.coefficients = omega arith in
    below_more _ _
    (λ k h. let ne : k ≢ c.loop-i.i = omega arith in rw get_or-set_other (c.loop-i.invariant k h))
    (rw get_or-set_same v)

pub returns : goal.returns
returns c =
    let f = λ (z : ℤ). c.args.sign *ℤ z in
    let vs = c.args.values.now in
    let e : length c.loop-i.coefficients ≡ length vs = omega arith in
    let r : to_z w64 (of_z w64 c.args.sign) ≡ c.args.sign = to_z-of_z w64 _ (sfits_within 1 _ (lit< tt) c.requires.sign) in
    ext_get_or (pos 0) _ _ (e ∙ sym (length-map vs f))
    (λ k h. let lt : k < length vs = omega arith in c.loop-i.invariant k (omega arith) ∙ ap (λ s. s *ℤ get_or vs k (pos 0)) r ∙ sym (get_or-map f vs k (pos 0) (pos 0) lt))
