-- What reading a law text gives, and the first fault in reading it from the front.
use Rattle.std.specs.Prelude.{ℕ, ◌+◌, Bool, false, cond, List, ℤ, pos, Some, None, Ok, Err, codes, Option, Result, int_lt, slice_index_or}
use Rattle.std.specs.Str.{bytes_eq}
use Rattle.text.specs.Blocks.{told_as}
pub use Rattle.text.specs.Blocks.{size_at}
use Rattle.text.specs.Blocks as blocks
use Rattle.text.specs.Bytes.{line_feed}
use Rattle.text.specs.Lines.{bind, size_of, names_line, numbers_of, cut_at, next_field, after_field, place}
use Rattle.text.specs.declared.faults.TextFault.{TextFault}
use Rattle.text.specs.declared.faults.TextFault.TheVariants.{Line}
use Rattle.laws.specs.Limits.{sizes_limits, row_limits}
use Rattle.laws.specs.declared.faults.LawFault.{LawFault}
use Rattle.laws.specs.declared.faults.LawFault.TheVariants.{Text, Word, Order}
use Rattle.laws.specs.declared.table.LawKind.{LawKind}
use Rattle.laws.specs.declared.table.LawKind.TheVariants.{Saturated, Fixed}

-- the values of a law text: its kind, the number of states, and for each input the numbers of its line
pub record LawText : Type 0 where
  pub kind : LawKind
  pub states : ℕ
  pub rows : List (List ℤ)

abbrev pub law_names : List ℕ
law_names = codes "law states inputs"

abbrev pub word_of : LawKind → List ℕ
word_of Saturated = codes "saturated"
word_of Fixed = codes "fixed"

abbrev pub row_names : LawKind → List ℕ
row_names Saturated = codes "gains offset divisor low high"
row_names Fixed = codes "command"

abbrev pub kind_of : List ℕ → Option LawKind
kind_of bs = cond (bytes_eq bs (word_of Saturated)) (Some Saturated) (cond (bytes_eq bs (word_of Fixed)) (Some Fixed) None)

abbrev pub kind_at : Option (List ℕ) → Option LawKind
kind_at None = None
kind_at (Some bs) = kind_of bs

-- a fault of the text is a fault of the law
abbrev pub as_law : {X : Type 0} → Result X TextFault → Result X LawFault
as_law = told_as Text

-- kind, states and inputs
pub record Head : Type 0 where
  pub kind : LawKind
  pub states : ℕ
  pub inputs : ℕ

-- the law word is judged before the sizes behind it
abbrev pub head_by : Option LawKind → Option (List ℕ) → List ℕ → Result (Head × List ℕ) LawFault
head_by None left rest = Err (Word 2)
head_by (Some k) left rest =
    bind (as_law (numbers_of 2 2 sizes_limits left)) (λ zs. Ok (record { kind = k; states = size_at zs 0; inputs = size_at zs 1 }, rest))

abbrev pub head_cut : Option (List ℕ × List ℕ) → Result (Head × List ℕ) LawFault
head_cut None = Err (Text (Line 2))
head_cut (Some p) = head_by (kind_at (next_field (Some p.0))) (after_field (Some p.0)) p.1

-- the second line
abbrev pub head_line : List ℕ → Result (Head × List ℕ) LawFault
head_line text = head_cut (cut_at line_feed text)

-- low above high, which are the last two numbers of a saturated input
abbrev pub misordered : LawKind → ℕ → List ℤ → Bool
misordered Saturated n zs = int_lt (slice_index_or zs (n + 3) (pos 0)) (slice_index_or zs (n + 2) (pos 0))
misordered Fixed n zs = false

abbrev pub ordered : LawKind → ℕ → ℕ → List ℤ → Result (Unit {0}) LawFault
ordered kind n line zs = cond (misordered kind n zs) (Err (Order (place line (n + 4)))) (Ok tt)

-- the lines of k inputs, and the text after them
abbrev pub rows_of : LawKind → ℕ → ℕ → ℕ → List ℕ → Result (List (List ℤ) × List ℕ) LawFault
rows_of kind n k line text = blocks.rows_of Text (ordered kind n) (row_limits kind n) k line text

-- what stands behind the second line
abbrev pub body_of : Head → List ℕ → Result (LawText × List ℕ) LawFault
body_of h text =
    bind (as_law (names_line 3 (row_names h.kind) text)) (λ rest.
    bind (rows_of h.kind h.states h.inputs 4 rest) (λ p.
    Ok (record { kind = h.kind; states = h.states; rows = p.0 }, p.1)))

-- a law text: its values and the rest of the text
abbrev pub law_of : List ℕ → Result (LawText × List ℕ) LawFault
law_of text =
    bind (as_law (size_of text)) (λ _.
    bind (as_law (names_line 1 law_names text)) (λ rest.
    bind (head_line rest) (λ h. body_of h.0 h.1)))
