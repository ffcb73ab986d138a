-- The test of a state against the faces of a case.
use Rattle.std.specs.Prelude.{◌≡◌, ℕ, suc, ◌-◌, ◌≤◌, Bool, cond, List, [], ◌∷◌, length, take, ℤ, Ok, Err, Result, ◌==◌, int_le, slice_index_or}
use Rattle.std.specs.List.{AllByRecursion}
use Rattle.arith.specs.Products.{dot}
use Rattle.control.specs.Answers.{no_row}
use Rattle.control.specs.Cover.{Holds}
use Rattle.control.specs.Meaning.{Row}
use Rattle.case.specs.Faces.{faces}
use Rattle.case.specs.Values.{CaseValues, state_count}
use Rattle.motion.specs.declared.faces.Outside.{Outside}
use Rattle.motion.specs.declared.faces.Outside.TheVariants.{Length, Face}

-- whether a row holds
abbrev pub holds_test : List ℤ → Row → Bool
holds_test x row = int_le (dot row.coefficients x) row.right

-- the first row that does not hold, where the first of the list has the number k
abbrev pub rows_test : List ℤ → ℕ → List Row → Result (Unit {0}) Outside
rows_test x k [] = Ok tt
rows_test x k (row ∷ rows) = cond (holds_test x row) (rows_test x (suc k) rows) (Err (Face k))

-- a list of the wrong length, or the first face that does not hold, counted from 1
abbrev pub state_test : CaseValues → List ℤ → Result (Unit {0}) Outside
state_test k x = cond (length x == state_count k) (rows_test x 1 (faces k)) (Err Length)

-- the list has n values, and face j, counted from 1, is the first that does not hold
pub record FirstFailing (k : CaseValues) (x : List ℤ) (j : ℕ) : Type 0 where
  pub long : length x ≡ state_count k
  pub low : 1 ≤ j
  pub high : j ≤ length (faces k)
  pub before : AllByRecursion (Holds x) (take (j - 1) (faces k))
  pub fails : Holds x (slice_index_or (faces k) (j - 1) no_row) → ⊥
