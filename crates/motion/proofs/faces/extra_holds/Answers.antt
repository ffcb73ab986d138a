-- The proof of `extra_holds`: what the search leaves.
use Rattle.std.proofs.Common.{length, ◌∙◌, arith, w64, SFits, rules}
use mir.Syntax.{w128}
use Rattle.std.proofs.lemmas.Int.{to_z-of_z}
use Rattle.control.specs.Limits.{most_states}
use Rattle.case.proofs.Stored.{ok_extra}
use Rattle.motion.proofs.Stored.{front}
use Rattle.arith.proofs.Widths.{widened}
use Rattle.motion.proofs.Widths.{same_order}
use Rattle.motion.proofs.faces.extra_holds.Goals as goal

pub wide_product-requires : goal.wide_product-requires
wide_product-requires c =
    let s = front (length c.args.x.now) most_states c.args.face.coefficients c.requires.few (omega arith) (ok_extra c.args.face c.requires.limits).row in
    record { same = s.long; few = s.few; small = s.small }

pub returns : goal.returns
returns c =
    let f : SFits w128 c.wide_product.result = search rules in
    let g : SFits w64 c.args.face.right = search rules in
    let e = to_z-of_z w128 _ f ∙ c.wide_product.ensures in
    same_order _ _ _ _ e (widened c.args.face.right _ g c.from.ensures)
