-- The loop invariant of `fill_scaled`.
use Rattle.std.proofs.Common.{◌≡◌, ℕ, ◌<◌, get_or, pos, ◌*ℤ◌}
use Rattle.system.proofs.fill.fill_scaled.Given as goal

abbrev pub invariant-loop-i : goal.invariant-loop-i
invariant-loop-i l = (k : ℕ) → k < l.i → get_or l.coefficients k (pos 0) ≡ l.sign *ℤ get_or l.values k (pos 0)
