-- The proof of `content_of`: what the search leaves.
use Rattle.std.proofs.Common.{◌≡◌, ◌≤◌, pos, ap, ◌∙◌, arith, w64}
use Rattle.std.specs.List.{AllByRecursion}
use Rattle.std.proofs.lemmas.Int.{ints, to_z-of_z, to_z_pos}
use Rattle.arith.specs.Bounds.{Within}
use Rattle.elimination.specs.declared.row.Row.{Row}
use Rattle.elimination.specs.Rows.{sum_limit, content}
use Rattle.elimination.proofs.Divisors.{divisor_limit}
use Rattle.elimination.proofs.Mixed.{abs_within, all_abs_within}
use Rattle.elimination.proofs.pair.content_of.Goals as goal

small : (r : Row) → AllByRecursion (Within sum_limit) r.multipliers → Within sum_limit r.scale → content r ≤ sum_limit
small r m s = divisor_limit sum_limit _ r.multipliers (abs_within sum_limit r.scale s) (all_abs_within sum_limit r.multipliers m)

pub overflow_cast-result : goal.overflow_cast-result
overflow_cast-result c =
    let e : c.divisor_of.result ≡ content c.args.row.now = grind (arith, to_z-of_z) in
    omega (arith, ints, small c.args.row.now c.requires.multipliers c.requires.scale)

pub returns : goal.returns
returns c =
    let e : c.divisor_of.result ≡ content c.args.row.now = grind (arith, to_z-of_z) in
    record { value = to_z_pos w64 c.divisor_of.result (omega (arith, small c.args.row.now c.requires.multipliers c.requires.scale)) ∙ ap pos e }
