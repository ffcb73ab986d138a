-- The proof of `push_row`: what the search leaves.
use Rattle.std.proofs.Common.{◌≡◌, ◌/◌, arith, rules, w64, to_z, of_z}
use Rattle.system.proofs.Filling.{push_ok_at, push_row_is, bound_read}
use Rattle.system.proofs.kinds.push_row.Goals as goal

-- either bound keeps the limit
pub bound_row-requires-clause-low : goal.bound_row-requires-clause-low
bound_row-requires-clause-low c =
    let ok = push_ok_at c.args.case.now (c.args.j / 2) (omega (arith, c.requires.place)) in
    search (rules, ok.low_small, ok.high_small)

pub returns : goal.returns
returns c =
    let ok = push_ok_at c.args.case.now (c.args.j / 2) (omega (arith, c.requires.place)) in
    let r : to_z w64 (of_z w64 c.bound_row.result) ≡ c.bound_row.result = search rules in
    cc (c.bound_row.ensures, r, bound_read _ ok.low_small, bound_read _ ok.high_small, push_row_is c.args.case.now c.args.j c.requires.place)
