-- The text of a verdict: a line of names, and a line of two words and five numbers.
use Rattle.std.specs.Prelude.{ℕ, List, [], ◌∷◌, ◌++◌, pos, codes}
use Rattle.std.specs.List.{flat_map}
use Rattle.text.specs.Bytes.{space}
use Rattle.text.specs.Render.{render, line_before}
use Rattle.report.specs.declared.verdict.Layer.{Layer}
use Rattle.report.specs.declared.verdict.Layer.TheVariants.{Law, Case, Proof, Solve, Loop}
use Rattle.report.specs.declared.verdict.Verdict.{Verdict}
use Rattle.report.specs.declared.verdict.Verdict.TheVariants.{Read, Accepted, Refused}

-- the word for a layer
abbrev pub layer_word : Layer → List ℕ
layer_word Law = codes "law"
layer_word Case = codes "case"
layer_word Proof = codes "proof"
layer_word Solve = codes "solve"
layer_word Loop = codes "loop"

-- the word for a verdict
abbrev pub verdict_word : Verdict → List ℕ
verdict_word (Read regions faces) = codes "read"
verdict_word (Accepted regions faces) = codes "accepted"
verdict_word (Refused report) = codes "refused"

-- the word for the layer of a verdict
abbrev pub verdict_layer : Verdict → List ℕ
verdict_layer (Read regions faces) = codes "none"
verdict_layer (Accepted regions faces) = codes "none"
verdict_layer (Refused report) = layer_word report.layer

-- the line, field, region, face and cause of a verdict
abbrev pub verdict_numbers : Verdict → List ℕ
verdict_numbers (Read regions faces) = 0 ∷ 0 ∷ regions ∷ faces ∷ 0 ∷ []
verdict_numbers (Accepted regions faces) = 0 ∷ 0 ∷ regions ∷ faces ∷ 0 ∷ []
verdict_numbers (Refused r) = r.line ∷ r.field ∷ r.region ∷ r.face ∷ r.cause ∷ []

-- a number after a space
abbrev pub spaced : ℕ → List ℕ
spaced n = space ∷ render (pos n)

-- the names of what a verdict tells
abbrev pub header : List ℕ
header = codes "verdict layer line field region face cause"

-- a line of two words and numbers, with a space before each but the first
abbrev pub line_of : List ℕ → List ℕ → List ℕ → List ℕ
line_of word layer numbers = line_before (word ++ space ∷ (layer ++ flat_map spaced numbers)) []

-- the line of names, and the line of the verdict
unfoldable pub verdict_text : Verdict → List ℕ
verdict_text v = line_before header (line_of (verdict_word v) (verdict_layer v) (verdict_numbers v))

-- how many bytes a record has
abbrev pub record_size : ℕ
record_size = 160
