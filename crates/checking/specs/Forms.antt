-- When check accepts, said by rendering: the proof part is the text of a certificate.
use Rattle.std.specs.Prelude.{◌≡◌, ℕ, ◌≤◌, true, List, [], ◌∷◌, map, length, ℤ, pos, Ok, ◌≢◌}
use Rattle.std.specs.List.{AllByRecursion}
use Rattle.text.specs.Forms.{Iff}
use Rattle.text.specs.Lines.{text_limit}
use Rattle.control.specs.Meaning.{Meaning}
use Rattle.case.specs.Faces.{faces}
use Rattle.case.specs.Forms.{rows_before}
use Rattle.case.specs.Values.{CaseValues, state_count}
use Rattle.certificate.specs.Tests.{Stands}
use Rattle.checking.specs.Checking.{ProofLine, names, most_first_line, check_of}

-- the text of proof lines: region, face, scale and multipliers, a line each
abbrev pub proof_numbers : ProofLine → List ℤ
proof_numbers l = pos l.region ∷ pos l.face ∷ l.scale ∷ l.multipliers

abbrev pub proofs_text : List ProofLine → List ℕ
proofs_text ls = rows_before (map proof_numbers ls) []

-- no two lines name the same pair
abbrev pub Apart : List ProofLine → Type 0
Apart [] = Unit {0}
Apart (l ∷ ls) = AllByRecursion (λ x. l.region ≡ x.region → l.face ≢ x.face) ls × Apart ls

-- a certificate for a case with a controller: its lines name every pair of region and face once, and each line's numbers keep their limits and meet Farkas' equations
pub record Certificate (k : CaseValues) (m : Meaning) (ls : List ProofLine) : Type 0 where
  pub states_same : m.states ≡ state_count k
  pub inputs_same : m.inputs ≡ k.inputs
  pub each : AllByRecursion (λ l. Stands k m l.region l.face l.scale l.multipliers) ls
  pub apart : Apart ls
  pub every : (region face : ℕ) → 1 ≤ region → region ≤ length m.regions → 1 ≤ face → face ≤ length (faces k) → names ls region face ≡ true

-- check accepts exactly when the proof part is the text of a certificate, begins where the head of a case text can end, and is no longer than a text
unfoldable pub CheckForm : CaseValues → Meaning → ℕ → List ℕ → Type 0
CheckForm k m line proofs =
    Iff (check_of k m line proofs ≡ Ok tt) ((ls : List ProofLine) × (proofs ≡ proofs_text ls) × Certificate k m ls × (line ≤ most_first_line) × (length proofs ≤ text_limit))
