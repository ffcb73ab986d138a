-- The proof of `weigh_all`: what the search leaves.
use Rattle.std.proofs.Common.{◌≡◌, ◌+ℤ◌, ◌*ℤ◌, get_or, pos, arith, w64, to_z, of_z, rules}
use Rattle.std.proofs.lemmas.Int.{to_z-of_z}
use Rattle.elimination.proofs.Mixed.{mixed_more, mixed_done}
use Rattle.elimination.proofs.lists.weigh_all.Goals as goal

pub loop-k-preserved : goal.loop-k-preserved
loop-k-preserved g c =
    let e : to_z w64 (of_z w64 c.weigh.result) ≡ to_z w64 (of_z w64 c.args.x) *ℤ get_or c.args.p.now c.loop-k.k (pos 0) +ℤ to_z w64 (of_z w64 c.args.y) *ℤ get_or c.args.q.now c.loop-k.k (pos 0) = grind (arith, to_z-of_z) in
    let i = c.loop-k.invariant in
    (search rules, mixed_more (to_z w64 (of_z w64 c.args.x)) (to_z w64 (of_z w64 c.args.y)) c.loop-k.sum c.args.p.now c.args.q.now c.loop-k.k _ (omega (arith, i.0)) e i.1)

pub returns : goal.returns
returns g c = record { value = mixed_done c.args.x c.args.y c.loop-k.sum c.args.p.now c.args.q.now c.loop-k.k c.ranges.x c.ranges.y (omega arith) (omega arith) (omega arith) c.loop-k.invariant.1 }
