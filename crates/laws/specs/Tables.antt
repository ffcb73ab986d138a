-- What a law text stores in the caller's place, and the answer beside it.
use Rattle.std.specs.Prelude.{ℕ, ◌+◌, ◌-◌, List, [], ◌∷◌, ◌++◌, map, length, take, replicate, ℤ, pos, Ok, Err, Result, slice_index_or}
use Rattle.std.specs.Borrow.{Bor}
use Rattle.control.specs.declared.input.Input.{Input}
use Rattle.text.specs.Lines.{padded}
pub use Rattle.text.specs.Blocks.{zero_row}
use Rattle.laws.specs.Laws.{LawText, Head}
use Rattle.laws.specs.declared.faults.LawFault.{LawFault}
use Rattle.laws.specs.declared.head.LawHead.{LawHead}
use Rattle.laws.specs.declared.table.LawKind.{LawKind}
use Rattle.laws.specs.declared.table.LawKind.TheVariants.{Saturated, Fixed}
use Rattle.laws.specs.declared.table.LawTable.{LawTable}
use Rattle.laws.specs.declared.table.LawTable.TheVariants.{Saturated as SaturatedTable, Fixed as FixedTable}

-- the first two of a list, with a value for those that it lacks
abbrev pub two : {X : Type 0} → X → List X → List X
two d xs = slice_index_or xs 0 d ∷ slice_index_or xs 1 d ∷ []

-- gains, offset, divisor, low and high of a row at n states
abbrev pub input_of : ℕ → List ℤ → Input
input_of n row = record {
  gains = take n row ++ replicate (4 - n) (pos 0);
  offset = slice_index_or row n (pos 0);
  divisor = slice_index_or row (n + 1) (pos 0);
  low = slice_index_or row (n + 2) (pos 0);
  high = slice_index_or row (n + 3) (pos 0);
}

-- the table of two rows
abbrev pub table_of : LawKind → ℕ → List (List ℤ) → LawTable
table_of Saturated n rows = SaturatedTable (input_of n (slice_index_or rows 0 []) ∷ input_of n (slice_index_or rows 1 []) ∷ [])
table_of Fixed n rows = FixedTable (slice_index_or (slice_index_or rows 0 []) 0 (pos 0) ∷ slice_index_or (slice_index_or rows 1 []) 0 (pos 0) ∷ [])

-- rows as they are stored: two of them, each with zeros up to its width
abbrev pub stored_rows : List (List ℤ) → List (List ℤ)
stored_rows rows = two zero_row (map padded rows)

abbrev pub stored : LawText → LawTable
stored law = table_of law.kind law.states (stored_rows law.rows)

-- the answer: both sizes and the rest of the text
abbrev pub answer_of : Result (LawText × List ℕ) LawFault → Result (ℕ × ℕ × List ℕ) LawFault
answer_of (Ok p) = Ok (p.0.states, length p.0.rows, p.1)
answer_of (Err e) = Err e

-- the place: a refusal leaves it
abbrev pub place_after : LawTable → Result (LawText × List ℕ) LawFault → LawTable
place_after old (Ok p) = stored p.0
place_after old (Err e) = old

-- what an answer's references hold
abbrev pub told : Result (ℕ × ℕ × Bor (List ℕ)) LawFault → Result (ℕ × ℕ × List ℕ) LawFault
told (Ok p) = Ok (p.0, p.1, p.2.now)
told (Err e) = Err e

abbrev pub head_told : Result (LawHead × Bor (List ℕ)) LawFault → Result (Head × List ℕ) LawFault
head_told (Ok p) = Ok (record { kind = p.0.kind; states = p.0.states; inputs = p.0.inputs }, p.1.now)
head_told (Err e) = Err e

-- second line, rows and rest, as the code holds them, and what they are of the law that is read
abbrev pub values_told : Result (LawHead × List (List ℤ) × Bor (List ℕ)) LawFault → Result (Head × List (List ℤ) × List ℕ) LawFault
values_told (Ok p) = Ok (record { kind = p.0.kind; states = p.0.states; inputs = p.0.inputs }, p.1, p.2.now)
values_told (Err e) = Err e

abbrev pub law_stored : Result (LawText × List ℕ) LawFault → Result (Head × List (List ℤ) × List ℕ) LawFault
law_stored (Ok p) = Ok (record { kind = p.0.kind; states = p.0.states; inputs = length p.0.rows }, stored_rows p.0.rows, p.1)
law_stored (Err e) = Err e
