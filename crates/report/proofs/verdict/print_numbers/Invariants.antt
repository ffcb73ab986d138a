-- The numbers before the index are written, and the place is behind them.
use Rattle.std.proofs.Common.{◌≡◌, length, take}
use Rattle.std.specs.List.{flat_map}
use Rattle.report.specs.Verdicts.{spaced}
use Rattle.report.specs.Written.{written}
use Rattle.report.proofs.verdict.print_numbers.Given as goal

abbrev pub invariant-loop-number : goal.invariant-loop-number
invariant-loop-number l =
    (l.at ≡ length (flat_map spaced (take l.number-index l.numbers)))
    × (l.out ≡ written (flat_map spaced (take l.number-index l.numbers)) l.initial.out)
