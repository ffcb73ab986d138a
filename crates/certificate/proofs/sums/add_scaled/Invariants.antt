-- The loop invariant of `add_scaled`: what was added below i, and what stands from i on.
use Rattle.std.proofs.Common.{◌≡◌, ℕ, ◌<◌, ◌≤◌, get_or, pos, ◌+ℤ◌, ◌*ℤ◌}
use Rattle.certificate.proofs.sums.add_scaled.Given as goal

abbrev pub invariant-loop-i : goal.invariant-loop-i
invariant-loop-i l =
    ((k : ℕ) → k < l.i → get_or l.sums k (pos 0) ≡ get_or l.initial.sums k (pos 0) +ℤ l.m *ℤ get_or l.coefficients k (pos 0))
    × ((k : ℕ) → l.i ≤ k → get_or l.sums k (pos 0) ≡ get_or l.initial.sums k (pos 0))
