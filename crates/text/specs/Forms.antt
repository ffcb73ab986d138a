-- The form of a text, said by rendering: what is read is exactly what is written so.
use Rattle.std.specs.Prelude.{◌≡◌, ℕ, ◌<◌, Bool, true, ◌&&◌, List, [], ◌∷◌, length, ℤ, ◌≤ℤ◌, Some, Ok, nat_lt}
use Rattle.text.specs.Bytes.{line_feed}
use Rattle.text.specs.Numbers.{number_of}
use Rattle.text.specs.Lines.{names_line, numbers_line}
use Rattle.text.specs.Render.{render, fields_text, line_before}
use Rattle.text.specs.declared.number.Limit.{Limit}

abbrev pub Iff : Type 0 → Type 0 → Type 0
Iff A B = (A → B) × (B → A)

-- a field is read as z exactly when it is the rendering of z
unfoldable pub NumberForm : List ℕ → Type 0
NumberForm bytes = (z : ℤ) → Iff (number_of bytes ≡ Some z) (bytes ≡ render z)

-- as many numbers as limits, each within its own
abbrev pub Fit : List Limit → List ℤ → Type 0
Fit [] [] = Unit {0}
Fit [] (z ∷ zs) = ⊥
Fit (l ∷ ls) [] = ⊥
Fit (l ∷ ls) (z ∷ zs) = (l.low ≤ℤ z) × (z ≤ℤ l.high) × Fit ls zs

-- a line is read as these numbers, with this rest of the text after it, exactly when the text is their rendering, then a line feed, then the rest, and each number is within its limit
unfoldable pub RowForm : List Limit → List ℕ → Type 0
RowForm limits text =
    0 < length limits → (line : ℕ) (zs : List ℤ) (rest : List ℕ)
    → Iff (numbers_line line limits text ≡ Ok (zs, rest)) ((text ≡ line_before (fields_text zs) rest) × Fit limits zs)

-- every byte is above this one
abbrev pub all_above : ℕ → List ℕ → Bool
all_above at [] = true
all_above at (b ∷ bs) = nat_lt at b && all_above at bs

-- a line of names without control characters is read, with this rest of the text after it, exactly when the text is the names, then a line feed, then the rest
unfoldable pub NamesForm : List ℕ → List ℕ → Type 0
NamesForm names text =
    all_above line_feed names ≡ true → (line : ℕ) (rest : List ℕ) → Iff (names_line line names text ≡ Ok rest) (text ≡ line_before names rest)
