-- The form of a law text, said by rendering.
use Rattle.std.specs.Prelude.{◌≡◌, ℕ, ◌+◌, ◌≤◌, true, List, [], ◌∷◌, ◌++◌, length, ℤ, pos, ◌≤ℤ◌, Ok, slice_index_or}
use Rattle.std.specs.List.{AllByRecursion}
pub use Rattle.text.specs.Blocks.{rows_before}
use Rattle.text.specs.Blocks as blocks
use Rattle.text.specs.Bytes.{space}
use Rattle.text.specs.Forms.{Iff}
use Rattle.text.specs.Lines.{text_limit}
use Rattle.text.specs.Render.{fields_text, line_before}
use Rattle.laws.specs.Controllers.{table_ok, table_meaning, law_meaning}
use Rattle.laws.specs.Laws.{LawText, law_names, word_of, row_names, law_of}
use Rattle.laws.specs.Limits.{row_limits}
use Rattle.laws.specs.Tables.{stored}
use Rattle.laws.specs.declared.table.LawKind.{LawKind}
use Rattle.laws.specs.declared.table.LawKind.TheVariants.{Saturated, Fixed}

-- the law word and both sizes
abbrev pub head_text : LawText → List ℕ
head_text law = word_of law.kind ++ space ∷ fields_text (pos law.states ∷ pos (length law.rows) ∷ [])

-- a law text before the rest of a text
abbrev pub law_before : LawText → List ℕ → List ℕ
law_before law rest = line_before law_names (line_before (head_text law) (line_before (row_names law.kind) (rows_before law.rows rest)))

abbrev pub Ordered : LawKind → ℕ → List ℤ → Type 0
Ordered Saturated n row = slice_index_or row (n + 2) (pos 0) ≤ℤ slice_index_or row (n + 3) (pos 0)
Ordered Fixed n row = Unit {0}

-- each number within its limit, and low not above high
abbrev pub RowKept : LawKind → ℕ → List ℤ → Type 0
RowKept kind n row = blocks.RowKept (row_limits kind n) (Ordered kind n) row

pub record LawKept (law : LawText) : Type 0 where
  pub states_low : 1 ≤ law.states
  pub states_high : law.states ≤ 4
  pub inputs_low : 1 ≤ length law.rows
  pub inputs_high : length law.rows ≤ 2
  pub each : AllByRecursion (RowKept law.kind law.states) law.rows

-- a text is read as this law, with this rest after it, exactly when it is the law's rendering followed by the rest, the law keeps the limits, and the whole is not too long
unfoldable pub LawForm : List ℕ → Type 0
LawForm text =
    (law : LawText) (rest : List ℕ)
    → Iff (law_of text ≡ Ok (law, rest)) ((text ≡ law_before law rest) × LawKept law × (length text ≤ text_limit))

-- what is read makes a controller, whose meaning is that of the law text's values
unfoldable pub LawMeant : List ℕ → Type 0
LawMeant text =
    (law : LawText) (rest : List ℕ) → law_of text ≡ Ok (law, rest)
    → (table_ok law.states (length law.rows) (stored law) ≡ true)
    × (table_meaning law.states (length law.rows) (stored law) ≡ law_meaning law)
