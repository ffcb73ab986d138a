-- The recursion ends, since the number falls.
use Rattle.report.proofs.print.+count_digits.Given as goal

abbrev pub decreases-count_digits : goal.decreases-count_digits
decreases-count_digits l = l.n
