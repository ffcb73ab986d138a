-- Rows that speak of one input: sign × gains over the state, and one coefficient over the command.
use Rattle.std.specs.Prelude.{ℕ, suc, List, [], ◌∷◌, ◌++◌, map, replicate, ℤ, pos, ◌*ℤ◌, slice_set}
use Rattle.control.specs.declared.lines.Line.{Line}
use Rattle.control.specs.Meaning.{Row}

abbrev pub line : ℤ → ℤ → ℤ → Line
line s o r = record { sign = s; own = o; right = r }

abbrev pub no_line : Line
no_line = line (pos 0) (pos 0) (pos 0)

-- the coefficients of a line of input j of m, with the gains g; inputs count from 0
abbrev pub spread : List ℤ → ℕ → ℕ → Line → List ℤ
spread g m j l = map (λ a. l.sign *ℤ a) g ++ slice_set (replicate m (pos 0)) j l.own

abbrev pub row_from : List ℤ → ℕ → ℕ → Line → Row
row_from g m j l = record { coefficients = spread g m j l; right = l.right }

-- the rows of a region, input by input: the lines of the inputs from j on, of m, where input j has the gains g j
abbrev pub stacked : (ℕ → List ℤ) → ℕ → ℕ → List (List Line) → List Row
stacked g m j [] = []
stacked g m j (ls ∷ rest) = map (row_from (g j) m j) ls ++ stacked g m (suc j) rest
