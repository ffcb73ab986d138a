-- What solve promises.
use Rattle.std.specs.Prelude.{◌≡◌, ℕ, ◌≤◌, true, List, length, take, ℤ, pos, slice_index_or}
use Rattle.control.specs.Answers.{present}
use Rattle.control.specs.Limits.{Limits}
use Rattle.control.specs.Meaning.{Meaning}
use Rattle.case.specs.declared.values.Case.{Case}
use Rattle.case.specs.Faces.{faces}
use Rattle.case.specs.Values.{CaseValues, values_of}
use Rattle.system.specs.Answers.{fits, system_of}
use Rattle.certificate.specs.Certificates.{Proves}
use Rattle.certificate.specs.Tests.{face_of, Stands}
use Rattle.fourier.specs.Bounded.{Found, Nothing, Stopped}
use Rattle.elimination.specs.declared.row.Row.{Row}
use Rattle.elimination.specs.declared.row.Stop.{Stop}
use Rattle.solve.specs.Solving.{outcome, PassesLimit}

-- a controller within its limits that fits the case, and a region and a face that are there
pub record Asked (c : Case) (m : Meaning) (region face : ℕ) : Type 0 where
  pub limits : Limits m
  pub sizes : fits (values_of c) m ≡ true
  pub region_there : present m.regions region ≡ true
  pub face_there : present (faces (values_of c)) face ≡ true

-- the row's scale and its first K multipliers stand as a proof, K the rows of the system, and its other multipliers are 0
pub record RowStands (k : CaseValues) (m : Meaning) (region face : ℕ) (r : Row) : Type 0 where
  pub stands : Stands k m region face r.scale (take (length (system_of k m region)) r.multipliers)
  pub others : (i : ℕ) → length (system_of k m region) ≤ i → slice_index_or r.multipliers i (pos 0) ≡ pos 0

-- no scale and multipliers, of any size, prove the face
abbrev pub Unprovable : CaseValues → Meaning → ℕ → ℕ → Type 0
Unprovable k m region face = (scale : ℤ) (multipliers : List ℤ) → Proves k (system_of k m region) (face_of k face) scale multipliers → ⊥

-- found: the row stands; none: nothing proves the face; stop: the elimination passes a limit
pub record Solved (k : CaseValues) (m : Meaning) (region face : ℕ) : Type 0 where
  pub found : (r : Row) → outcome k m region face ≡ Found r → RowStands k m region face r
  pub none : outcome k m region face ≡ Nothing → Unprovable k m region face
  pub stop : (f : Stop) → outcome k m region face ≡ Stopped f → PassesLimit k m region face f

-- for every stored case and whatever may be asked of it
abbrev pub SolvePromise : Type 0
SolvePromise = (c : Case) (m : Meaning) (region face : ℕ) → Asked c m region face → Solved (values_of c) m region face
