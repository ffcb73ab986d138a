-- The proof of `row_lines`: the invariant of its loop.
use Rattle.std.proofs.Common.{◌≡◌, ◌+◌, ◌-◌, length, take, drop, replicate}
use Rattle.text.specs.Blocks.{WhereJudged, rows_of, rows_held, zero_row}
use Rattle.text.specs.Lines.{row_width}
use Rattle.text.proofs.Collecting.{held_behind}
use Rattle.text.proofs.blocks.row_lines.Given as goal

abbrev pub invariant-loop-i : goal.invariant-loop-i
invariant-loop-i g l =
    (length l.rows ≡ g.row.N) × (drop l.i l.rows ≡ replicate (g.row.N - l.i) zero_row)
    × WhereJudged g.E.From.from_gives (goal.J-post g l.judge) (λ told judged.
    held_behind g.row.N (take l.i l.rows) (rows_of told judged (take row_width l.limits) (l.count - l.i) (l.line + l.i) l.rest)
    ≡ rows_held g.row.N (rows_of told judged (take row_width l.limits) l.count l.line l.text))
