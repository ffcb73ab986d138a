-- How whole numbers are written: the canonical text of a number and of a line of numbers.
use Rattle.std.specs.Prelude.{ℕ, zero, suc, ◌+◌, List, [], ◌∷◌, ◌++◌, map, ℤ, pos, negsuc}
use Rattle.std.specs.Int.Digits.{digits_of}
use Rattle.text.specs.Bytes.{zero_byte, minus, space, line_feed}

abbrev pub ascii : ℕ → ℕ
ascii d = zero_byte + d

-- decimal digits without a leading zero, and 0 for nothing
abbrev pub render-ℕ : ℕ → List ℕ
render-ℕ zero = zero_byte ∷ []
render-ℕ (suc n) = map ascii (digits_of 10 (suc n))

abbrev pub render : ℤ → List ℕ
render (pos n) = render-ℕ n
render (negsuc n) = minus ∷ render-ℕ (suc n)

-- numbers with a single space between them
abbrev pub fields_text : List ℤ → List ℕ
fields_text [] = []
fields_text (z ∷ []) = render z
fields_text (z ∷ (y ∷ zs)) = render z ++ space ∷ fields_text (y ∷ zs)

-- a line of these bytes before the rest of a text
abbrev pub line_before : List ℕ → List ℕ → List ℕ
line_before bytes rest = bytes ++ line_feed ∷ rest
