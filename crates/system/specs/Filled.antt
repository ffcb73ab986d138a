-- A row from what a function left in the lent list and answered.
use Rattle.std.specs.Prelude.{ℕ, ◌%◌, cond, List, ℤ, pos, negsuc, neg_ℤ, ◌==◌}
use Rattle.control.specs.Meaning.{Row}
use Rattle.case.specs.Faces.{unit}

abbrev pub filled : List ℤ → ℤ → Row
filled list right = record { coefficients = list; right = right }

-- the rows of the bounds of a variable, by turns: variable ≤ high for an even j, −variable ≤ −low for an odd one
abbrev pub bound_row : ℕ → ℕ → ℤ → ℤ → ℕ → Row
bound_row width column low high j =
    cond (j % 2 == 0) (filled (unit width column (pos 1)) high) (filled (unit width column (negsuc 0)) (neg_ℤ low))
