-- The proof of `add_scaled`: what the search leaves.
use Rattle.std.proofs.Common.{◌≡◌, ℕ, ◌*◌, ◌<◌, ◌≢◌, List, length, get_or, ℤ, pos, ◌+ℤ◌, ◌*ℤ◌, sym, ap, ◌∙◌, subst, arith, lit<, get_or-set_other, get_or-set_same, w64, to_z, of_z, below_more}
use Rattle.std.specs.List.{AllByRecursion}
use Rattle.std.proofs.ByRecursion.{All-get_or}
use Rattle.std.proofs.lemmas.List.{ext_get_or, length-map, get_or-map}
use Rattle.std.proofs.lemmas.Int.{to_z-of_z}
use Rattle.arith.specs.Bounds.{Within}
use Rattle.arith.proofs.Bounds.{sfits_within}
use Rattle.control.specs.Limits.{coefficient_limit}
use Rattle.system.specs.Answers.{most_system_rows}
use Rattle.certificate.specs.Certificates.{scaled}
use Rattle.certificate.specs.Tests.{multiplier_limit}
use Rattle.certificate.proofs.Adding.{Computed, computed, length_added, get_or_added}
use Rattle.certificate.proofs.sums.add_scaled.Goals as goal

abbrev room : ℕ
room = most_system_rows * (multiplier_limit * coefficient_limit)

-- the entry at i, where the sums from i on are as they were
module _ (cs was sums : List ℤ) (i : ℕ) (m : ℤ) (same : length cs ≡ length was) (lt : i < length was) (e : get_or sums i (pos 0) ≡ get_or was i (pos 0)) (limit : Within multiplier_limit m) (small : AllByRecursion (Within coefficient_limit) cs) (fits : AllByRecursion (Within room) was) where
  at_was : to_z w64 (of_z w64 (get_or sums i (pos 0))) ≡ get_or was i (pos 0)
  at_was = ap (λ z. to_z w64 (of_z w64 z)) e ∙ to_z-of_z w64 (get_or was i (pos 0)) (sfits_within room (get_or was i (pos 0)) (lit< tt) (All-get_or (Within room) was i (pos 0) lt fits))

  at_turn : Computed (to_z w64 (of_z w64 (get_or sums i (pos 0)))) m (get_or cs i (pos 0))
  at_turn =
      computed room multiplier_limit coefficient_limit (to_z w64 (of_z w64 (get_or sums i (pos 0)))) m (get_or cs i (pos 0)) (lit< tt) (lit< tt) (lit< tt)
      (subst (Within room) (sym at_was) (All-get_or (Within room) was i (pos 0) lt fits)) limit (All-get_or (Within coefficient_limit) cs i (pos 0) (omega arith) small)

pub overflow_mul-sums : goal.overflow_mul-sums
overflow_mul-sums c = (at_turn c.args.coefficients.now c.args.sums.now c.loop-i.sums c.loop-i.i c.args.m c.requires.same (omega (arith, c.requires.same, c.loop-i-test.true)) (c.loop-i.invariant.1 c.loop-i.i (omega arith)) c.requires.multiplier c.requires.small c.requires.room).product_fits

pub overflow_add-sums : goal.overflow_add-sums
overflow_add-sums c = (at_turn c.args.coefficients.now c.args.sums.now c.loop-i.sums c.loop-i.i c.args.m c.requires.same (omega (arith, c.requires.same, c.loop-i-test.true)) (c.loop-i.invariant.1 c.loop-i.i (omega arith)) c.requires.multiplier c.requires.small c.requires.room).sum_fits

pub loop-i-preserved : goal.loop-i-preserved
loop-i-preserved c =
    let i = c.loop-i.i in
    let s = c.args.sums.now in
    let cs = c.args.coefficients.now in
    let lt : i < length c.loop-i.sums = omega arith in
    let value : to_z w64 (of_z w64 (to_z w64 (of_z w64 (get_or c.loop-i.sums i (pos 0))) +ℤ to_z w64 (of_z w64 (to_z w64 (of_z w64 c.args.m) *ℤ to_z w64 (of_z w64 (get_or cs i (pos 0))))))) ≡ get_or s i (pos 0) +ℤ to_z w64 (of_z w64 c.args.m) *ℤ get_or cs i (pos 0) =
    (at_turn c.args.coefficients.now c.args.sums.now c.loop-i.sums c.loop-i.i c.args.m c.requires.same (omega (arith, c.requires.same, c.loop-i-test.true)) (c.loop-i.invariant.1 c.loop-i.i (omega arith)) c.requires.multiplier c.requires.small c.requires.room).sum ∙ ap (λ z. z +ℤ c.args.m *ℤ get_or cs i (pos 0)) (at_was c.args.coefficients.now c.args.sums.now c.loop-i.sums c.loop-i.i c.args.m c.requires.same (omega (arith, c.requires.same, c.loop-i-test.true)) (c.loop-i.invariant.1 c.loop-i.i (omega arith)) c.requires.multiplier c.requires.small c.requires.room) ∙ ap (λ m. get_or s i (pos 0) +ℤ m *ℤ get_or cs i (pos 0)) (sym (to_z-of_z w64 c.args.m c.ranges.m)) in (
      below_more _ _ (λ k h. let ne : k ≢ i = omega arith in rw get_or-set_other (c.loop-i.invariant.0 k h)) (rw get_or-set_same value),
      (λ k h. let ne : k ≢ i = omega arith in rw get_or-set_other (c.loop-i.invariant.1 k (omega arith))),
    )

pub returns : goal.returns
returns c =
    let s = c.args.sums.now in
    let cs = c.args.coefficients.now in
    let t = scaled c.args.m cs in
    let e : length c.loop-i.sums ≡ length s = omega arith in
    let lt : length t ≡ length s = length-map cs (λ z. c.args.m *ℤ z) ∙ c.requires.same in
    let r = to_z-of_z w64 c.args.m c.ranges.m in
    ext_get_or (pos 0) _ _ (e ∙ sym (length_added s t (sym lt)))
    (λ k h.
    let hs : k < length s = omega arith in
    let hc : k < length cs = omega (arith, c.requires.same) in
    let ht : k < length t = omega arith in
    c.loop-i.invariant.0 k (omega arith) ∙ ap (λ m. get_or s k (pos 0) +ℤ m *ℤ get_or cs k (pos 0)) r
    ∙ ap (λ z. get_or s k (pos 0) +ℤ z) (sym (get_or-map (λ z. c.args.m *ℤ z) cs k (pos 0) (pos 0) hc)) ∙ sym (get_or_added s t k hs ht))
