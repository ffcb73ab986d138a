-- The proof of `Limited::value`: what the search leaves.
use Rattle.std.proofs.Common.{length, ◌+ℤ◌, sym, ap, ◌∙◌, subst, w64, SFits, rules}
use Rattle.std.proofs.lemmas.Int.{to_z-of_z}
use Rattle.arith.proofs.Bounds.{all_from_test, sum_read}
use Rattle.control.specs.Limits.{state_limit}
use Rattle.control.specs.Lawful.Inputs.{ok_input, gains_within, value_fits}
use Rattle.control.proofs.input.Limited.value.Goals as goal

pub dot_product-requires-clause-first : goal.dot_product-requires-clause-first
dot_product-requires-clause-first c = let i = c.args.self.now.input in gains_within (length c.args.x.now.values.now) i (ok_input i c.args.self.now.kept)

pub dot_product-requires-clause-second : goal.dot_product-requires-clause-second
dot_product-requires-clause-second c = all_from_test state_limit c.args.x.now.values.now c.args.x.now.small

pub overflow_add-result : goal.overflow_add-result
overflow_add-result c =
    let i = c.args.self.now.input in
    let x = c.args.x.now.values.now in
    let f : SFits w64 c.dot_product.result = search rules in
    let h : SFits w64 i.offset = search rules in
    subst (SFits w64) (sym (sum_read _ _ f h ∙ ap (λ z. z +ℤ i.offset) c.dot_product.ensures)) (value_fits i x c.args.x.now.few (all_from_test state_limit x c.args.x.now.small) c.args.self.now.kept)

pub returns : goal.returns
returns c =
    let i = c.args.self.now.input in
    let x = c.args.x.now.values.now in
    let f : SFits w64 c.dot_product.result = search rules in
    let h : SFits w64 i.offset = search rules in
    let e = sum_read _ _ f h ∙ ap (λ z. z +ℤ i.offset) c.dot_product.ensures in
    let v = value_fits i x c.args.x.now.few (all_from_test state_limit x c.args.x.now.small) c.args.self.now.kept in
    to_z-of_z w64 _ (subst (SFits w64) (sym e) v) ∙ e
