-- The proof of `test_bounds`: what the search leaves.
use Rattle.std.proofs.Common.{get_or, pos, sym, ◌∙◌, arith, w64, SFits, rules}
use Rattle.std.proofs.lemmas.Bool.{cond-true, cond-false}
use Rattle.motion.specs.Moves.{no_equation}
use Rattle.motion.proofs.FaceTests.{case_turn, bounds_end}
use Rattle.motion.proofs.Widths.{not_above}
use Rattle.motion.proofs.faces.test_bounds.Goals as goal

pub returns-then-value-case : goal.returns-then-value-case
returns-then-value-case c =
    let f : SFits w64 (get_or c.args.case.now.equations c.loop-i.i no_equation).high = search rules in
    let g : SFits w64 (get_or c.args.x.now c.loop-i.i (pos 0)) = search rules in
    let no = not_above _ _ _ f g c.if-value-case.true in
    sym (case_turn c.args.case.now c.args.x.now c.loop-i.i (omega (arith, c.requires, c.loop-i-test.true)) c.requires ∙ cond-false _ _ _ no) ∙ c.loop-i.invariant

pub returns-then-value-case-2 : goal.returns-then-value-case-2
returns-then-value-case-2 c =
    let f : SFits w64 (get_or c.args.case.now.equations c.loop-i.i no_equation).high = search rules in
    let g : SFits w64 (get_or c.args.x.now c.loop-i.i (pos 0)) = search rules in
    let h : SFits w64 (get_or c.args.case.now.equations c.loop-i.i no_equation).low = search rules in
    let yes = not_above _ _ _ f g c.if-value-case.false in
    let no = not_above _ _ _ g h c.if-value-case-2.true in
    sym (case_turn c.args.case.now c.args.x.now c.loop-i.i (omega (arith, c.requires, c.loop-i-test.true)) c.requires ∙ cond-true _ _ _ yes ∙ cond-false _ _ _ no) ∙ c.loop-i.invariant

pub loop-i-preserved : goal.loop-i-preserved
loop-i-preserved c =
    let f : SFits w64 (get_or c.args.case.now.equations c.loop-i.i no_equation).high = search rules in
    let g : SFits w64 (get_or c.args.x.now c.loop-i.i (pos 0)) = search rules in
    let h : SFits w64 (get_or c.args.case.now.equations c.loop-i.i no_equation).low = search rules in
    let yes = not_above _ _ _ f g c.if-value-case.false in
    let also = not_above _ _ _ g h c.if-value-case-2.false in
    sym (case_turn c.args.case.now c.args.x.now c.loop-i.i (omega (arith, c.requires, c.loop-i-test.true)) c.requires ∙ cond-true _ _ _ yes ∙ cond-true _ _ _ also) ∙ c.loop-i.invariant

pub returns : goal.returns
returns c = sym (bounds_end c.args.case.now c.args.x.now c.loop-i.i (omega (arith, c.requires, c.loop-i-test.false))) ∙ c.loop-i.invariant
