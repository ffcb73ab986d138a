-- Lines of numbers, one after another, each judged as a whole.
use Rattle.std.specs.Prelude.{◌≡◌, ℕ, zero, suc, ◌+◌, ◌-◌, List, [], ◌∷◌, ◌++◌, map, length, replicate, ℤ, pos, Ok, Err, Result, slice_index_or, unsigned_abs}
use Rattle.std.specs.Borrow.{Bor}
use Rattle.text.specs.Forms.{Fit}
use Rattle.text.specs.Lines.{bind, numbers_line, padded, row_width}
use Rattle.text.specs.Render.{fields_text, line_before}
use Rattle.text.specs.declared.faults.TextFault.{TextFault}
use Rattle.text.specs.declared.number.Limit.{Limit}

-- a fault of the text is told as a fault of the reader
abbrev pub told_as : {X E : Type 0} → (TextFault → E) → Result X TextFault → Result X E
told_as told (Ok x) = Ok x
told_as told (Err e) = Err (told e)

-- what is judged over a whole line, which is told at its number
abbrev pub Judgement : Type 0 → Type 0
Judgement E = ℕ → List ℤ → Result (Unit {0}) E

-- one line, and the text after it
abbrev pub line_of : {E : Type 0} → (TextFault → E) → Judgement E → List Limit → ℕ → List ℕ → Result (List ℤ × List ℕ) E
line_of told judged limits line text = bind (told_as told (numbers_line line limits text)) (λ p. bind (judged line p.0) (λ _. Ok p))

-- k lines from a line on, and the text after them
abbrev pub rows_of : {E : Type 0} → (TextFault → E) → Judgement E → List Limit → ℕ → ℕ → List ℕ → Result (List (List ℤ) × List ℕ) E
rows_of told judged limits zero line text = Ok ([], text)
rows_of told judged limits (suc k) line text =
    bind (line_of told judged limits line text) (λ p. bind (rows_of told judged limits k (line + 1) p.1) (λ q. Ok (p.0 ∷ q.0, q.1)))

-- a number of a line that counts something
abbrev pub size_at : List ℤ → ℕ → ℕ
size_at zs i = unsigned_abs (slice_index_or zs i (pos 0))

-- lines of numbers before the rest of a text
abbrev pub rows_before : List (List ℤ) → List ℕ → List ℕ
rows_before [] rest = rest
rows_before (row ∷ rows) rest = line_before (fields_text row) (rows_before rows rest)

-- each number within its limit, and the line judged good
abbrev pub RowKept : List Limit → (List ℤ → Type 0) → List ℤ → Type 0
RowKept limits Good row = Fit limits row × Good row

-- Rows as they are held: each with zeros up to its width, and rows of zeros up to so many.

-- a list of so many places, with a value for those that it lacks
abbrev pub filled : {X : Type 0} → ℕ → X → List X → List X
filled width x xs = xs ++ replicate (width - length xs) x

abbrev pub zero_row : List ℤ
zero_row = replicate row_width (pos 0)

abbrev pub held_rows : ℕ → List (List ℤ) → List (List ℤ)
held_rows width rows = filled width zero_row (map padded rows)

abbrev pub rows_held : {E : Type 0} → ℕ → Result (List (List ℤ) × List ℕ) E → Result (List (List ℤ) × List ℕ) E
rows_held width (Ok p) = Ok (held_rows width p.0, p.1)
rows_held width (Err e) = Err e

-- Conversions of faults and judges of lines, by what their calls may give.

-- a conversion tells each fault by one function
abbrev pub Tells : {E : Type 0} → (TextFault → E → Type 0) → (TextFault → E) → Type 0
Tells {E} gives told = (f : TextFault) (e : E) → gives f e → e ≡ told f

-- a judge answers by one function of a line's numbers, whatever zeros stand behind them
abbrev pub Judges : {E : Type 0} → (ℕ → Bor (List ℤ) → Result (Unit {0}) E → Type 0) → Judgement E → Type 0
Judges {E} gives judged = (line : ℕ) (row : Bor (List ℤ)) (zs : List ℤ) (r : Result (Unit {0}) E) → row.now ≡ padded zs → gives line row r → r ≡ judged line zs

-- what holds of every two such functions
abbrev pub WhereJudged : {E : Type 0} → (TextFault → E → Type 0) → (ℕ → Bor (List ℤ) → Result (Unit {0}) E → Type 0) → ((TextFault → E) → Judgement E → Type 0) → Type 0
WhereJudged {E} tells gives P = (told : TextFault → E) (judged : Judgement E) → Tells tells told → Judges gives judged → P told judged
