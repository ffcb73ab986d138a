-- The loop invariant of `add_up`: the sums over the rows below i.
use Rattle.system.specs.Systems.{rows_of, columns_of}
use Rattle.certificate.proofs.Turns.{Summed}
use Rattle.certificate.proofs.sums.add_up.Given as goal

abbrev pub invariant-loop-i : goal.invariant-loop-i
invariant-loop-i g l = Summed (columns_of l.system) l.multipliers (rows_of l.system) l.i l.sums l.sum
