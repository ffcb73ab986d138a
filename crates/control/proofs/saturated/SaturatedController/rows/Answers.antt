-- The proof of `Saturated::rows`: what the search leaves.
use Rattle.std.proofs.Common.{◌≤◌, length, Ok, sym, ap, ◌∙◌, arith}
use Rattle.control.specs.Held.{partition_of}
use Rattle.control.proofs.Outcomes.{there, rows_found}
use Rattle.control.proofs.SaturatedRows.{means, region_is}
use Rattle.control.proofs.saturated.SaturatedController.rows.Goals as goal

pub returns : goal.returns
returns c =
    let s = c.args.self.now in
    let k = c.args.region in
    let high : k ≤ length (partition_of s) = omega (arith, c.region_count.ensures) in
    ap Ok (c.row_count.ensures ∙ sym (ap length (region_is s k c.if-region-lt1.false high)))
    ∙ rows_found (means s) k (there (partition_of s) k c.if-region-lt1.false high)
