-- The product of two lists of integers.
use Rattle.std.specs.Prelude.{ℕ, List, [], ◌∷◌, ℤ, pos, ◌+ℤ◌, ◌*ℤ◌}

abbrev pub dot : List ℤ → List ℤ → ℤ
dot [] ys = pos 0
dot (x ∷ xs) [] = pos 0
dot (x ∷ xs) (y ∷ ys) = x *ℤ y +ℤ dot xs ys

-- what the computed product takes: the magnitude of each value, and how many there are
abbrev pub factor_limit : ℕ
factor_limit = 1000000

abbrev pub most_terms : ℕ
most_terms = 16
