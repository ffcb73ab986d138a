-- The proof of `all`: what the search leaves.
use Rattle.std.proofs.Common.{◌∙◌, arith}
use Rattle.std.specs.List.{range_with_len}
use Rattle.checking.specs.Marks.{marked}
use Rattle.checking.proofs.Marking.{region_named}
use Rattle.checking.proofs.named.Named.all.Goals as goal

pub loop-region-preserved : goal.loop-region-preserved
loop-region-preserved c =
    region_named (marked c.args.self.now.flags) (range_with_len 1 c.args.faces) c.loop-region.region c.args.regions (omega (arith, c.loop-region-test.true)) c.in_default.ensures.value
    ∙ c.loop-region.invariant
