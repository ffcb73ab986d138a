-- The proof of `aimed`: what the search leaves.
use Rattle.std.proofs.Common.{◌<◌, length, sym, ◌∙◌, subst, arith, w64, SFits, rules}
use Rattle.std.proofs.lemmas.Int.{to_z-of_z}
use Rattle.arith.specs.Bounds.{Within}
use Rattle.motion.specs.Moves.{aim_limit}
use Rattle.motion.proofs.Aims.{aim_held}
use Rattle.case.proofs.Stored.{equations_enough}
use Rattle.motion.proofs.Stored.{equation_ok_at}
use Rattle.motion.proofs.next.aimed.Goals as goal

pub aim_of-requires : goal.aim_of-requires
aim_of-requires c =
    let k = c.args.case.now in
    let lt : c.args.state < length k.equations = omega (arith, equations_enough k, c.requires.place) in
    record {
      limits = equation_ok_at k.equations c.args.state lt k.limits.0;
      states = omega (arith, k.sizes.1, c.requires.states);
      inputs = omega (arith, k.sizes.3, c.requires.inputs);
      pushes = omega (arith, k.counts.0, c.requires.pushes);
    }

pub returns : goal.returns
returns c =
    let k = c.args.case.now in
    let f : SFits w64 c.aim_of.result = search rules in
    let e = to_z-of_z w64 _ f in
    record {
      value = e ∙ aim_held k c.args.state c.args.step.now.state.now c.args.step.now.command.now c.args.step.now.pushes.now _ c.requires.place c.requires.states c.requires.inputs c.requires.pushes c.aim_of.ensures.value;
      bound = subst (Within aim_limit) (sym e) c.aim_of.ensures.bound;
    }
