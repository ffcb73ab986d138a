-- The proof of `divide_all`: what the search leaves.
use Rattle.std.proofs.Common.{get_or, pos, arith, w64, SFits, rules}
use Rattle.std.proofs.lemmas.List.{length-set}
use Rattle.elimination.proofs.Mixed.{quotients_more}
use Rattle.elimination.proofs.lists.divide_all.Goals as goal

pub loop-value-preserved : goal.loop-value-preserved
loop-value-preserved g c =
    let f : SFits w64 (get_or c.loop-value.value-items c.loop-value.value-index (pos 0)) = search rules in
    let i = c.loop-value.invariant in
    (i.0, search (rules, length-set, i.1), quotients_more c.args.d c.args.values c.loop-value.value-items c.loop-value.value-index c.ranges.d c.requires.above f (omega (arith, i.0)) (omega (arith, i.1)) i.2)
