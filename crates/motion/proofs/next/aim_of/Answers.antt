-- The proof of `aim_of`: what the search leaves.
use Rattle.std.proofs.Common.{length, sym, ◌∙◌, subst, arith, w64, SFits, rules}
use mir.Syntax.{w128}
use Rattle.std.proofs.lemmas.Int.{to_z-of_z}
use Rattle.arith.specs.Bounds.{Within}
use Rattle.control.specs.Limits.{most_states, most_inputs}
use Rattle.case.specs.Limits.{most_pushes}
use Rattle.case.proofs.Stored.{ok_equation}
use Rattle.motion.specs.Moves.{aim_limit}
use Rattle.motion.proofs.Aims.{product_is, summed}
use Rattle.motion.proofs.Stored.{front}
use Rattle.motion.proofs.next.aim_of.Goals as goal

pub wide_product-ax-requires : goal.wide_product-ax-requires
wide_product-ax-requires c =
    let s = front (length c.args.step.now.state.now) most_states c.args.s.a c.requires.states (omega arith) (ok_equation c.args.s c.requires.limits).a_ok in
    record { same = s.long; few = s.few; small = s.small }

pub wide_product-bu-requires : goal.wide_product-bu-requires
wide_product-bu-requires c =
    let s = front (length c.args.step.now.command.now) most_inputs c.args.s.b c.requires.inputs (omega arith) (ok_equation c.args.s c.requires.limits).b_ok in
    record { same = s.long; few = s.few; small = s.small }

pub wide_product-ew-requires : goal.wide_product-ew-requires
wide_product-ew-requires c =
    let s = front (length c.args.step.now.pushes.now) most_pushes c.args.s.e c.requires.pushes (omega arith) (ok_equation c.args.s c.requires.limits).e_ok in
    record { same = s.long; few = s.few; small = s.small }

pub total-requires : goal.total-requires
total-requires c =
    let s = c.args.s in
    let f : SFits w128 c.wide_product-ax.result = search rules in
    let g : SFits w128 c.wide_product-bu.result = search rules in
    let h : SFits w128 c.wide_product-ew.result = search rules in
    let d : SFits w64 s.constant = search rules in
    let k =
    summed s c.args.step.now.state.now c.args.step.now.command.now c.args.step.now.pushes.now _ _ _ _ c.requires.limits c.requires.states c.requires.inputs c.requires.pushes c.args.step.now.small_state c.args.step.now.small_command c.args.step.now.small_pushes
    (product_is s.a c.args.step.now.state.now _ f c.wide_product-ax.ensures) (product_is s.b c.args.step.now.command.now _ g c.wide_product-bu.ensures) (product_is s.e c.args.step.now.pushes.now _ h c.wide_product-ew.ensures) (to_z-of_z w64 _ d) in
    record { states = k.states; inputs = k.inputs; pushes = k.pushes; sum = k.sum }

pub returns : goal.returns
returns c =
    let s = c.args.s in
    let f : SFits w128 c.wide_product-ax.result = search rules in
    let g : SFits w128 c.wide_product-bu.result = search rules in
    let h : SFits w128 c.wide_product-ew.result = search rules in
    let d : SFits w64 s.constant = search rules in
    let t : SFits w64 c.total.result = search rules in
    let k =
    summed s c.args.step.now.state.now c.args.step.now.command.now c.args.step.now.pushes.now _ _ _ _ c.requires.limits c.requires.states c.requires.inputs c.requires.pushes c.args.step.now.small_state c.args.step.now.small_command c.args.step.now.small_pushes
    (product_is s.a c.args.step.now.state.now _ f c.wide_product-ax.ensures) (product_is s.b c.args.step.now.command.now _ g c.wide_product-bu.ensures) (product_is s.e c.args.step.now.pushes.now _ h c.wide_product-ew.ensures) (to_z-of_z w64 _ d) in
    let e = to_z-of_z w64 _ t ∙ c.total.ensures in
    record { value = e ∙ k.is; bound = subst (Within aim_limit) (sym e) k.sum }
