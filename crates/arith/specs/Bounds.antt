-- Bounds on the magnitude of integers, as a fact and as a test.
use Rattle.std.specs.Prelude.{ℕ, Bool, ◌&&◌, List, ℤ, pos, neg_ℤ, ◌≤ℤ◌, int_le}
use Rattle.std.specs.List.{list_all}

-- magnitude at most m
abbrev pub Within : ℕ → ℤ → Type 0
Within m z = (neg_ℤ (pos m) ≤ℤ z) × (z ≤ℤ pos m)

abbrev pub within : ℕ → ℤ → Bool
within m z = int_le (neg_ℤ (pos m)) z && int_le z (pos m)

abbrev pub all_within : ℕ → List ℤ → Bool
all_within m zs = list_all (within m) zs
