-- Flags for the pairs of region and face that lines have named.
use Rattle.std.specs.Prelude.{◌≡◌, ℕ, Bool, false, ◌&&◌, ◌||◌, List, [], length, Ok, Err, Result, ◌==◌, slice_index_or}
use Rattle.std.specs.List.{list_all}
use Rattle.checking.specs.Checking.{ProofLine, names}
use Rattle.checking.specs.declared.faults.CheckFault.{CheckFault}

-- the most faces of a case
abbrev pub most_faces : ℕ
most_faces = 16

-- so many places for the numbers of regions, and of faces
abbrev pub places : ℕ
places = 17

-- a flag for each face of each region
abbrev pub whole : List (List Bool) → Bool
whole flags = length flags == places && list_all (λ row. length row == places) flags

-- the flag of a pair
abbrev pub marked : List (List Bool) → ℕ → ℕ → Bool
marked flags region face = slice_index_or (slice_index_or flags region []) face false

-- one pair is marked more
unfoldable pub Adds : List (List Bool) → List (List Bool) → ℕ → ℕ → Type 0
Adds old new region face = (r f : ℕ) → marked new r f ≡ (region == r && face == f) || marked old r f

-- the flags tell which pairs the lines name
unfoldable pub Marks : List (List Bool) → List ProofLine → Type 0
Marks flags ls = (region face : ℕ) → marked flags region face ≡ names ls region face

-- what the judgement of a line leaves: its pair is marked too, or its fault is told
abbrev pub LineTold : Result ProofLine CheckFault → List (List Bool) → List (List Bool) → Result (Unit {0}) CheckFault → Type 0
LineTold judged old new (Ok t) = (l : ProofLine) × (judged ≡ Ok l) × Adds old new l.region l.face
LineTold judged old new (Err e) = judged ≡ Err e
