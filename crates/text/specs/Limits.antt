-- Limits of numbers.
use Rattle.std.specs.Prelude.{ℕ, ℤ, pos, neg_ℤ}
use Rattle.text.specs.declared.number.Limit.{Limit}

abbrev pub from_to : ℤ → ℤ → Limit
from_to low high = record { low = low; high = high }

-- magnitude at most k
abbrev pub around : ℕ → Limit
around k = from_to (neg_ℤ (pos k)) (pos k)
