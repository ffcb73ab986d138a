-- The proof of `weigh`: what the search leaves.
use Rattle.std.proofs.Common.{arith, w64}
use Rattle.std.proofs.lemmas.Int.{to_z-of_z}
use Rattle.elimination.proofs.Mixed.{sum_of}
use Rattle.elimination.proofs.lists.weigh.Goals as goal

pub overflow_mul-result : goal.overflow_mul-result
overflow_mul-result c =
    let f = sum_of c.args.x c.args.a c.args.y c.args.b c.requires.first.0 c.requires.first.1 c.requires.second.0 c.requires.second.1 in
    rw (to_z-of_z w64 c.args.x c.ranges.x, to_z-of_z w64 c.args.a c.ranges.a) f.first

pub overflow_mul-result-2 : goal.overflow_mul-result-2
overflow_mul-result-2 c =
    let f = sum_of c.args.x c.args.a c.args.y c.args.b c.requires.first.0 c.requires.first.1 c.requires.second.0 c.requires.second.1 in
    rw (to_z-of_z w64 c.args.y c.ranges.y, to_z-of_z w64 c.args.b c.ranges.b) f.second

pub overflow_add-result : goal.overflow_add-result
overflow_add-result c =
    let f = sum_of c.args.x c.args.a c.args.y c.args.b c.requires.first.0 c.requires.first.1 c.requires.second.0 c.requires.second.1 in
    let p = f.first in
    let q = f.second in
    rw (to_z-of_z w64 c.args.x c.ranges.x, to_z-of_z w64 c.args.a c.ranges.a, to_z-of_z w64 c.args.y c.ranges.y, to_z-of_z w64 c.args.b c.ranges.b, to_z-of_z w64 _ p, to_z-of_z w64 _ q) f.sum

pub returns : goal.returns
returns c =
    let f = sum_of c.args.x c.args.a c.args.y c.args.b c.requires.first.0 c.requires.first.1 c.requires.second.0 c.requires.second.1 in
    record { value = grind (arith, to_z-of_z, f.first, f.second, f.sum) }
