use Rattle.std.proofs.Common.{◌≡◌, ◌+◌, ◌-◌, length, take, drop, replicate, pos}
use Rattle.text.specs.Left.{left_of}
use Rattle.text.specs.Lines.{numbers_of}
use Rattle.text.proofs.Rows.{onto}
use Rattle.text.proofs.fields.Fields.numbers.Given as goal

abbrev pub invariant-loop-i : goal.invariant-loop-i
invariant-loop-i g l =
    (length l.row ≡ g.row.N) × (drop l.i l.row ≡ replicate (g.row.N - l.i) (pos 0))
    × (onto (take l.i l.row) (numbers_of l.line (l.before + l.i + 1) (drop l.i l.used) (left_of l.self))
    ≡ numbers_of l.line (l.before + 1) l.used (left_of l.initial.self))
