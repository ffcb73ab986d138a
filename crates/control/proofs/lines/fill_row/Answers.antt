-- The proof of `fill_row`: what the search leaves.
use Rattle.std.proofs.Common.{◌≡◌, ◌+◌, ◌-◌, ◌<◌, ◌≤◌, ◌≢◌, length, get_or, set, pos, ◌*ℤ◌, ap, ◌∙◌, arith, lit<, get_or-set_other, get_or-set_same, w64, SFits, to_z, of_z, rules, below_more}
use Rattle.std.proofs.lemmas.Int.{to_z-of_z}
use Rattle.std.proofs.lemmas.List.{length-set}
use Rattle.std.proofs.ByRecursion.{All-get_or}
use Rattle.arith.specs.Bounds.{Within}
use Rattle.arith.proofs.Bounds.{sign_within, sfits_within, product_read}
use Rattle.control.specs.Limits.{coefficient_limit}
use Rattle.control.specs.Lines.{spread}
use Rattle.control.specs.Lawful.Spread.{spread_is}
use Rattle.control.proofs.lines.fill_row.Goals as goal

pub loop-i-preserved : goal.loop-i-preserved
loop-i-preserved c =
    let f : SFits w64 c.args.line.sign = search rules in
    let h : SFits w64 (get_or c.args.gains.now c.loop-i.i (pos 0)) = search rules in
    let small : SFits w64 (c.args.line.sign *ℤ get_or c.args.gains.now c.loop-i.i (pos 0)) =
    sfits_within coefficient_limit _ (lit< tt) (sign_within coefficient_limit _ _ c.requires.sign (All-get_or (Within coefficient_limit) _ _ (pos 0) c.loop-i-test.true c.requires.small)) in
    let v = ap (λ z. to_z w64 (of_z w64 z)) (product_read _ _ f h) ∙ to_z-of_z w64 _ small in
    let lt : c.loop-i.i < length c.loop-i.coefficients = omega arith in (
      below_more _ _ (λ k h. let ne : k ≢ c.loop-i.i = omega arith in rw get_or-set_other (c.loop-i.invariant.0 k h)) (rw get_or-set_same v),
      (λ k l h. let ne : k ≢ c.loop-i.i = omega arith in rw get_or-set_other (c.loop-i.invariant.1 k (omega arith) (simp length-set at h))),
    )

pub returns : goal.returns
returns c =
    let f : SFits w64 c.args.line.own = search rules in
    let le : length c.args.gains.now ≤ length c.loop-i.coefficients = omega arith in
    let e : length c.loop-i.coefficients ≡ length c.args.coefficients.now = omega arith in
    ap (set c.loop-i.coefficients (length c.args.gains.now + c.args.j)) (to_z-of_z w64 _ f)
    ∙ spread_is c.args.gains.now c.loop-i.coefficients c.args.j c.args.line le (λ k h. c.loop-i.invariant.0 k (omega arith)) (λ k low h. c.loop-i.invariant.1 k (omega arith) h)
    ∙ ap (λ n. spread c.args.gains.now (n - length c.args.gains.now) c.args.j c.args.line) e
