-- The loop invariant of `fill_row`.
use Rattle.std.proofs.Common.{◌≡◌, ℕ, ◌<◌, ◌≤◌, length, get_or, pos, ◌*ℤ◌}
use Rattle.control.proofs.lines.fill_row.Given as goal

abbrev pub invariant-loop-i : goal.invariant-loop-i
invariant-loop-i l = ((k : ℕ) → k < l.i → get_or l.coefficients k (pos 0) ≡ l.line.sign *ℤ get_or l.gains k (pos 0)) × ((k : ℕ) → l.i ≤ k → k < length l.coefficients → get_or l.coefficients k (pos 0) ≡ pos 0)
