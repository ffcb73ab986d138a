-- Rows that are combinations of a system's rows and of a face turned round.
use Rattle.std.specs.Prelude.{◌≡◌, ℕ, List, map, ℤ, pos, ◌+ℤ◌, ◌*ℤ◌, int_div, slice_index_or}
use Rattle.std.specs.List.{AllByRecursion}
use Rattle.arith.specs.Products.{dot}
use Rattle.elimination.specs.declared.row.Row.{Row}
use Rattle.elimination.specs.Rows.{coefficient, content, joined_sum, joined_row}

-- a row of the system, or the turned face
pub record Source : Type 0 where
  pub coefficients : List ℤ
  pub right : ℤ

abbrev pub source_at : ℕ → Source → ℤ
source_at c s = slice_index_or s.coefficients c (pos 0)

abbrev pub source_right : Source → ℤ
source_right s = s.right

-- the sum of multiplier × part of a system's row, and scale × part of the turned face
abbrev pub summed : (Source → ℤ) → List Source → Source → Row → ℤ
summed part system face r = dot r.multipliers (map part system) +ℤ r.scale *ℤ part face

-- the row's coefficients and right side are what its multipliers and its scale say
pub record Traced (system : List Source) (face : Source) (r : Row) : Type 0 where
  pub columns : (j : ℕ) → coefficient r j ≡ summed (source_at j) system face r
  pub right : r.right ≡ summed source_right system face r

-- d divides a number without rest
abbrev pub Exact : ℕ → ℤ → Type 0
Exact d z = pos d *ℤ int_div z (pos d) ≡ z

-- to divide a row by d leaves no rest in any place
pub record ExactRow (d : ℕ) (r : Row) : Type 0 where
  pub multipliers : AllByRecursion (Exact d) r.multipliers
  pub scale : Exact d r.scale
  pub coefficients : AllByRecursion (Exact d) r.coefficients
  pub right : Exact d r.right

-- of two traced rows: the division of their combination leaves no rest, and their row is traced
pub record Exactly (c : ℕ) (p q : Row) (system : List Source) (face : Source) : Type 0 where
  pub exact : ExactRow (content (joined_sum c p q)) (joined_sum c p q)
  pub traced : Traced system face (joined_row c p q)

abbrev pub JoinsExactly : ℕ → Row → Row → Type 0
JoinsExactly c p q = (system : List Source) (face : Source) → Traced system face p → Traced system face q → Exactly c p q system face
