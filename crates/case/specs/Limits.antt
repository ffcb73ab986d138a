-- The limits of the numbers of a case.
use Rattle.std.specs.Prelude.{ℕ, Bool, ◌&&◌, List, length, ℤ, pos, ◌+ℤ◌, ◌*ℤ◌, ◌==◌, int_le}
use Rattle.std.specs.List.{list_all}
use Rattle.arith.specs.Bounds.{within, all_within}
use Rattle.control.specs.Limits.{most_states, most_inputs}
use Rattle.case.specs.declared.values.StateEquation.{StateEquation}
use Rattle.case.specs.declared.values.PushBounds.{PushBounds}
use Rattle.case.specs.declared.values.ExtraFace.{ExtraFace}

abbrev pub most_pushes : ℕ
most_pushes = 2

abbrev pub most_extras : ℕ
most_extras = 8

abbrev pub divisor_limit : ℕ
divisor_limit = 1000000

-- magnitudes of low and high, of an entry of a row, of a constant and of the right side of an extra face
abbrev pub bound_limit : ℕ
bound_limit = 1000000

abbrev pub entry_limit : ℕ
entry_limit = 1000000

abbrev pub constant_limit : ℕ
constant_limit = 100000000

abbrev pub extra_limit : ℕ
extra_limit = 1000000000

-- the most of a leeway, which is not below 0
abbrev pub leeway_limit : ℕ
leeway_limit = 1000000

-- low and high, each within its limit, in order
abbrev pub range_ok : ℤ → ℤ → Bool
range_ok low high = (within bound_limit low && within bound_limit high) && int_le low high

-- a row of so many entries
abbrev pub row_ok : ℕ → List ℤ → Bool
row_ok width row = length row == width && all_within entry_limit row

abbrev pub equation_ok : StateEquation → Bool
equation_ok s =
    (range_ok s.low s.high && ((int_le (pos 0) s.leeway && int_le s.leeway (pos leeway_limit)) && within constant_limit s.constant))
    && (row_ok most_states s.a && (row_ok most_inputs s.b && row_ok most_pushes s.e))

abbrev pub bounds_ok : PushBounds → Bool
bounds_ok b = range_ok b.low b.high

abbrev pub extra_ok : ExtraFace → Bool
extra_ok f = row_ok most_states f.coefficients && within extra_limit f.right

abbrev pub all_equations_ok : List StateEquation → Bool
all_equations_ok = list_all equation_ok

abbrev pub all_bounds_ok : List PushBounds → Bool
all_bounds_ok = list_all bounds_ok

abbrev pub all_extras_ok : List ExtraFace → Bool
all_extras_ok = list_all extra_ok

-- 2 × leeway + 1 reaches the divisor
abbrev pub is_wide : ℤ → StateEquation → Bool
is_wide divisor s = int_le divisor (pos 2 *ℤ s.leeway +ℤ pos 1)

abbrev pub all_wide : ℤ → List StateEquation → Bool
all_wide divisor = list_all (is_wide divisor)
