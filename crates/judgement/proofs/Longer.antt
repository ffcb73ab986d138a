-- The rest of a text is no longer than the text.
use Rattle.std.proofs.Common.{ℕ, ◌≤◌, List, [], ◌∷◌, length, ℤ, arith}
use Rattle.std.proofs.lemmas.List.{length-append}
use Rattle.text.specs.Render.{line_before, fields_text}
use Rattle.laws.specs.Forms.{rows_before}

pub line_longer : (names rest : List ℕ) → length rest ≤ length (line_before names rest)
line_longer names rest = omega (arith, length-append names (10 ∷ rest))

pub rows_longer : (rows : List (List ℤ)) (rest : List ℕ) → length rest ≤ length (rows_before rows rest)
rows_longer [] rest = omega arith
rows_longer (row ∷ rows) rest = omega (arith, line_longer (fields_text row) (rows_before rows rest), rows_longer rows rest)
