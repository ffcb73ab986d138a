-- The elimination that solve does: its start rows, and how it ends.
use Rattle.std.specs.Prelude.{ℕ, suc, ◌-◌, Bool, not, List, [], ◌∷◌, ◌++◌, map, length, ℤ, pos, neg_ℤ}
use Rattle.control.specs.Meaning.{Meaning, Row as Inequality}
use Rattle.case.specs.Faces.{unit}
use Rattle.case.specs.System.{column_count, none}
use Rattle.case.specs.Values.{CaseValues}
use Rattle.system.specs.Answers.{most_system_rows, most_columns, system_of}
use Rattle.certificate.specs.Certificates.{face_over_next}
use Rattle.certificate.specs.Tests.{face_of}
use Rattle.fourier.specs.Bounded.{Outcome, run, Stops}
use Rattle.elimination.specs.declared.row.Row.{Row}
use Rattle.elimination.specs.declared.row.Stop.{Stop}
use Rattle.elimination.specs.declared.row.Stop.TheVariants.{Crowd}
use Rattle.elimination.specs.Columns.{most_rows}
use Rattle.elimination.specs.Rows.{at, blank, dead, joined_row, judged}

-- some coefficient is not 0
abbrev pub live : Row → Bool
live r = not (blank r)

-- followed by zeros up to so many
abbrev pub padded : ℕ → List ℤ → List ℤ
padded width xs = xs ++ none (width - length xs)

-- row k of the system: itself once
abbrev pub system_row : ℕ → Inequality → Row
system_row k r = record {
  multipliers = unit most_system_rows k (pos 1);
  scale = pos 0;
  coefficients = padded most_columns r.coefficients;
  right = r.right;
}

-- the rows of the system from row k on
abbrev pub system_rows : ℕ → List Inequality → List Row
system_rows k [] = []
system_rows k (r ∷ rs) = system_row k r ∷ system_rows (suc k) rs

-- the face over the next state, negated on both sides, once
abbrev pub turned_face : CaseValues → Inequality → Row
turned_face k face = record {
  multipliers = none most_system_rows;
  scale = pos 1;
  coefficients = padded most_columns (map neg_ℤ (face_over_next k face));
  right = neg_ℤ face.right;
}

-- the rows of the system, then the turned face
abbrev pub start_rows : CaseValues → List Inequality → Inequality → List Row
start_rows k rows face = system_rows 0 rows ++ (turned_face k face ∷ [])

-- how the elimination of a region and a face ends, both counted from 1
abbrev pub outcome : CaseValues → Meaning → ℕ → ℕ → Outcome Row Stop
outcome k m region face = run at dead live joined_row judged most_rows Crowd (column_count k) (start_rows k (system_of k m region) (face_of k face))

-- the elimination reaches a column that would leave more than 256 rows, or one with a new row that passes a limit
abbrev pub PassesLimit : CaseValues → Meaning → ℕ → ℕ → Stop → Type 0
PassesLimit k m region face f = Stops at dead live joined_row judged most_rows Crowd (column_count k) (start_rows k (system_of k m region) (face_of k face)) f
