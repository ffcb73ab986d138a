-- The proof of `common_divisor`: what the search leaves.
use Rattle.std.proofs.Common.{◌≡◌, sym, ap, ◌∙◌, arith}
use Rattle.elimination.specs.Divisors.{gcd}
use Rattle.elimination.proofs.Divisors.{gcd_step, gcd_greatest}
use Rattle.elimination.proofs.divisor.common_divisor.Goals as goal

pub loop-y-preserved : goal.loop-y-preserved
loop-y-preserved c = gcd_step c.loop-y.x c.loop-y.y (omega arith) ∙ c.loop-y.invariant

pub returns-clause-greatest : goal.returns-clause-greatest
returns-clause-greatest c =
    let z : c.loop-y.y ≡ 0 = omega arith in
    rw (sym (ap (gcd c.loop-y.x) z) ∙ c.loop-y.invariant) (gcd_greatest c.args.a c.args.b)
