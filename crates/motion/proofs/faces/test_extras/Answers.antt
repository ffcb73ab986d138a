-- The proof of `test_extras`: what the search leaves.
use Rattle.std.proofs.Common.{sym, ◌∙◌, arith}
use Rattle.motion.proofs.FaceTests.{extras_turn, extras_end}
use Rattle.motion.proofs.Stored.{extra_in_use_ok}
use Rattle.motion.proofs.faces.test_extras.Goals as goal

pub extra_holds-requires : goal.extra_holds-requires
extra_holds-requires c =
    let k = c.args.case.now in
    record { limits = extra_in_use_ok k c.loop-k.k c.loop-k-test.true; few = omega (arith, k.sizes.1) }

pub returns-then-not-extra_holds : goal.returns-then-not-extra_holds
returns-then-not-extra_holds c = sym (extras_turn c.args.case.now c.args.x.now c.loop-k.k _ c.loop-k-test.true c.requires c.if-not-extra_holds.ensures) ∙ c.loop-k.invariant

pub loop-k-preserved : goal.loop-k-preserved
loop-k-preserved c = sym (extras_turn c.args.case.now c.args.x.now c.loop-k.k _ c.loop-k-test.true c.requires c.if-not-extra_holds.ensures) ∙ c.loop-k.invariant

pub returns : goal.returns
returns c = sym (extras_end c.args.case.now c.args.x.now c.loop-k.k c.loop-k-test.false) ∙ c.loop-k.invariant
