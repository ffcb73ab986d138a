-- Certificates after Farkas: multipliers that derive a face of the next state from the rows of a region's system.
use Rattle.std.specs.Prelude.{◌≡◌, ℕ, ◌+◌, ◌<◌, List, [], ◌∷◌, ◌++◌, map, length, ℤ, pos, negsuc, ◌+ℤ◌, ◌*ℤ◌, ◌≤ℤ◌, slice_index_or}
use Rattle.std.specs.List.{AllByRecursion}
use Rattle.control.specs.Answers.{no_row}
use Rattle.control.specs.Meaning.{Row, Meaning}
use Rattle.case.specs.Faces.{faces, Inside}
use Rattle.case.specs.Next.{Bounded, Permitted}
use Rattle.case.specs.System.{column_count, none, system}
use Rattle.case.specs.Values.{CaseValues, state_count, push_count}

-- entry by entry
abbrev pub scaled : ℤ → List ℤ → List ℤ
scaled m xs = map (λ z. m *ℤ z) xs

abbrev pub added : List ℤ → List ℤ → List ℤ
added [] ys = []
added (x ∷ xs) [] = []
added (x ∷ xs) (y ∷ ys) = (x +ℤ y) ∷ added xs ys

-- for each of so many columns the sum of multiplier × coefficient
abbrev pub column_sums : ℕ → List ℤ → List Row → List ℤ
column_sums width [] rows = none width
column_sums width (m ∷ ms) [] = none width
column_sums width (m ∷ ms) (r ∷ rs) = added (scaled m r.coefficients) (column_sums width ms rs)

-- the sum of multiplier × right side
abbrev pub right_sum : List ℤ → List Row → ℤ
right_sum [] rows = pos 0
right_sum (m ∷ ms) [] = pos 0
right_sum (m ∷ ms) (r ∷ rs) = m *ℤ r.right +ℤ right_sum ms rs

-- a face read over the next state, with zero in the columns of x, u and w
abbrev pub face_over_next : CaseValues → Row → List ℤ
face_over_next k face = none (state_count k + k.inputs + push_count k) ++ face.coefficients

-- a scale and multipliers, none below 0, prove a face from these rows
pub record Proves (k : CaseValues) (rows : List Row) (face : Row) (scale : ℤ) (multipliers : List ℤ) : Type 0 where
  pub long : length multipliers ≡ length rows
  pub scale_low : pos 0 ≤ℤ scale
  pub each_low : AllByRecursion (λ m. pos 0 ≤ℤ m) multipliers
  pub columns : column_sums (column_count k) multipliers rows ≡ scaled scale (face_over_next k face)
  pub right : right_sum multipliers rows ≤ℤ (scale *ℤ face.right)
  pub strict : scale ≡ pos 0 → right_sum multipliers rows ≤ℤ negsuc 0

-- the system of region r of a controller, counted from 0
abbrev pub region_system : CaseValues → Meaning → ℕ → List Row
region_system k m r = system k (faces k) (slice_index_or m.regions r [])

-- every region has a proof of every face, regions and faces counted from 0
abbrev pub Certified : CaseValues → Meaning → Type 0
Certified k m =
    (r f : ℕ) → r < length m.regions → f < length (faces k)
    → (scale : ℤ) × ((multipliers : List ℤ) × Proves k (region_system k m r) (slice_index_or (faces k) f no_row) scale multipliers)

-- the set is robustly positively invariant: from a state inside, with pushes within their bounds, every permitted next state is inside
abbrev pub Invariant : CaseValues → Meaning → Type 0
Invariant k m = (x w y : List ℤ) → Inside k x → Bounded k w → Permitted k x (m.command x) w y → Inside k y
