-- The test of a proof of one face.
use Rattle.std.specs.Prelude.{◌≡◌, ℕ, ◌+◌, ◌-◌, ◌≤◌, Bool, true, false, cond, ◌&&◌, List, [], ◌∷◌, length, ℤ, pos, negsuc, ◌*ℤ◌, ◌≤ℤ◌, Some, None, Ok, Err, Option, Result, ◌==◌, int_le, slice_index_or}
use Rattle.std.specs.List.{AllByRecursion, list_all}
use Rattle.control.specs.Answers.{present, no_row}
use Rattle.control.specs.Meaning.{Row, Meaning}
use Rattle.case.specs.Faces.{faces}
use Rattle.case.specs.System.{column_count}
use Rattle.case.specs.Values.{CaseValues, state_count}
use Rattle.system.specs.Answers.{fits, system_of}
use Rattle.certificate.specs.declared.fault.ProofFault.{ProofFault}
use Rattle.certificate.specs.declared.fault.ProofFault.TheVariants.{Sizes, Missing, Length, Range, Unequal, Excess}
use Rattle.certificate.specs.Certificates.{scaled, column_sums, right_sum, face_over_next, Proves}

-- the most of a multiplier and of a scale, which are not below 0
abbrev pub multiplier_limit : ℕ
multiplier_limit = 1000000

abbrev pub in_limit : ℤ → Bool
in_limit z = int_le (pos 0) z && int_le z (pos multiplier_limit)

abbrev pub all_in_limit : List ℤ → Bool
all_in_limit = list_all in_limit

abbrev pub same : ℤ → ℤ → Bool
same a b = int_le a b && int_le b a

abbrev pub all_same : List ℤ → List ℤ → Bool
all_same [] [] = true
all_same [] (y ∷ ys) = false
all_same (x ∷ xs) [] = false
all_same (x ∷ xs) (y ∷ ys) = same x y && all_same xs ys

-- the first place, counted from j, at which two lists differ
abbrev pub first_unequal : ℕ → List ℤ → List ℤ → Option ℕ
first_unequal j [] [] = None
first_unequal j [] (y ∷ ys) = Some j
first_unequal j (x ∷ xs) [] = Some j
first_unequal j (x ∷ xs) (y ∷ ys) = cond (same x y) (first_unequal (j + 1) xs ys) (Some j)

-- a sum of right sides is at most scale × the face's, and at most −1 where the scale is 0
abbrev pub low_enough : ℤ → ℤ → ℤ → Bool
low_enough sum scale right = int_le sum (scale *ℤ right) && cond (same scale (pos 0)) (int_le sum (negsuc 0)) true

-- each column's sum is scale × the face's coefficient
abbrev pub columns_equal : CaseValues → List Row → Row → ℤ → List ℤ → Bool
columns_equal k rows face scale multipliers =
    all_same (column_sums (column_count k) multipliers rows) (scaled scale (face_over_next k face))

-- the sum of the right sides is at most scale × the face's, and at most −1 where the scale is 0
abbrev pub right_low : List Row → Row → ℤ → List ℤ → Bool
right_low rows face scale multipliers =
    int_le (right_sum multipliers rows) (scale *ℤ face.right)
    && cond (same scale (pos 0)) (int_le (right_sum multipliers rows) (negsuc 0)) true

abbrev pub proves_test : CaseValues → List Row → Row → ℤ → List ℤ → Bool
proves_test k rows face scale multipliers = columns_equal k rows face scale multipliers && right_low rows face scale multipliers

abbrev pub equations_by : Option ℕ → Bool → Result (Unit {0}) ProofFault
equations_by (Some j) low = Err (Unequal j)
equations_by None low = cond low (Ok tt) (Err Excess)

-- the first unequal column, counted from 1, then a right side too large
abbrev pub equations_of : CaseValues → List Row → Row → ℤ → List ℤ → Result (Unit {0}) ProofFault
equations_of k rows face scale multipliers =
    equations_by
    (first_unequal 1 (column_sums (column_count k) multipliers rows) (scaled scale (face_over_next k face)))
    (right_low rows face scale multipliers)

abbrev pub face_of : CaseValues → ℕ → Row
face_of k face = slice_index_or (faces k) (face - 1) no_row

-- what the test of a proof answers; regions and faces count from 1
abbrev pub proof_answer : CaseValues → Meaning → ℕ → ℕ → ℤ → List ℤ → Result (Unit {0}) ProofFault
proof_answer k m region face scale multipliers =
    cond (fits k m)
    (cond (present m.regions region && present (faces k) face)
    (cond (length multipliers == length (system_of k m region))
    (cond (in_limit scale && all_in_limit multipliers) (equations_of k (system_of k m region) (face_of k face) scale multipliers) (Err Range))
    (Err Length))
    (Err Missing))
    (Err Sizes)

-- region and face are there, scale and multipliers keep their limits, and they meet Farkas' equations in the region's system
pub record Stands (k : CaseValues) (m : Meaning) (region face : ℕ) (scale : ℤ) (multipliers : List ℤ) : Type 0 where
  pub states_same : m.states ≡ state_count k
  pub inputs_same : m.inputs ≡ k.inputs
  pub region_low : 1 ≤ region
  pub region_high : region ≤ length m.regions
  pub face_low : 1 ≤ face
  pub face_high : face ≤ length (faces k)
  pub scale_high : scale ≤ℤ pos multiplier_limit
  pub each_high : AllByRecursion (λ z. z ≤ℤ pos multiplier_limit) multipliers
  pub proves : Proves k (system_of k m region) (face_of k face) scale multipliers

-- the test passes exactly when scale and multipliers stand
unfoldable pub ProofForm : CaseValues → Meaning → ℕ → ℕ → ℤ → List ℤ → Type 0
ProofForm k m region face scale multipliers =
    (proof_answer k m region face scale multipliers ≡ Ok tt → Stands k m region face scale multipliers)
    × (Stands k m region face scale multipliers → proof_answer k m region face scale multipliers ≡ Ok tt)
