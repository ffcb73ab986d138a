-- The proof of `places`: what the search leaves.
use Rattle.std.proofs.Common.{◌∙◌, arith, length-set}
use Rattle.case.proofs.Filling.{filled_step}
use Rattle.case.proofs.equations.places.Goals as goal

pub loop-i-preserved : goal.loop-i-preserved
loop-i-preserved g c = (
  length-set c.loop-i.places c.loop-i.i c.make.result ∙ c.loop-i.invariant.0,
  λ ys m. filled_step g.row.N c.args.blank _ ys c.loop-i.places c.loop-i.i (omega arith) (c.loop-i.invariant.1 ys m)
      (m c.loop-i.i c.make.result c.loop-i-test.true c.make.ensures),
)
