-- The rows of a region's system as the code has them: how many, their limits, and what is given for one of them.
use Rattle.std.proofs.Common.{◌≡◌, ℕ, ◌-◌, ◌≤◌, true, length, take, ℤ, pos, ap, ◌∙◌, arith}
use Rattle.std.specs.List.{AllByRecursion}
use Rattle.std.proofs.lemmas.List.{take-replicate}
use Rattle.std.proofs.lemmas.Int.{ints}
use Rattle.arith.specs.Bounds.{Within}
use Rattle.control.specs.Answers.{present, region_of}
use Rattle.control.specs.Limits.{Limits, RowLimits}
use Rattle.control.specs.Meaning.{Meaning}
use Rattle.control.specs.declared.controller.Controller.{Ghosts as ControllerOf}
use Rattle.case.specs.declared.values.Case.{Case}
use Rattle.case.specs.System.{column_count, none}
use Rattle.case.specs.Values.{values_of}
use Rattle.case.proofs.Faces.{case_columns}
use Rattle.system.specs.Answers.{most_system_rows, most_columns, system_of}
use Rattle.system.specs.Systems.{control_of, rows_of, columns_of}
use Rattle.system.specs.declared.system.System.{System}
use Rattle.system.proofs.Counts.{case_rows}
use Rattle.system.proofs.Limits.{system_limits}
use Rattle.system.proofs.Outcomes.{region_limits, rows_limits}
use Rattle.certificate.specs.Tests.{multiplier_limit}
use Rattle.certificate.proofs.Tested.{Limited}

pub columns_few : (c : Case) → column_count (values_of c) ≤ most_columns
columns_few c = omega (arith, case_columns c, c.sizes.1, c.sizes.3, c.counts.0)

-- a lent list of zeros
pub blank_is : (c : Case) (n : ℕ) → n ≡ column_count (values_of c) → take (n - 0) (none 12) ≡ none (column_count (values_of c))
blank_is c n e =
    let le : n - 0 ≤ 12 = omega (arith, columns_few c) in
    let w : n - 0 ≡ column_count (values_of c) = omega arith in
    take-replicate (n - 0) 12 (pos 0) le ∙ ap none w

pub limited_within : (z : ℤ) → Limited z → Within multiplier_limit z
limited_within z h = (omega (arith, ints, h.0), h.1)

-- sizes that agree and a region that is there
pub record Ready (c : Case) (m : Meaning) (region : ℕ) : Type 0 where
  pub states : m.states ≡ c.states
  pub inputs : m.inputs ≡ c.inputs
  pub there : present m.regions region ≡ true

-- the rows of the system then, and a row that is given
module _ (c : Case) (m : Meaning) (region : ℕ) (ready : Ready c m region) where
  pub system_few : Limits m → length (system_of (values_of c) m region) ≤ most_system_rows
  system_few limits =
      omega (arith, case_rows c (region_of m region), (region_limits m limits region ready.there).few, c.sizes.1, c.counts.0, c.counts.1)

  pub system_small : Limits m → AllByRecursion (RowLimits (column_count (values_of c))) (system_of (values_of c) m region)
  system_small limits = system_limits c (region_of m region) (rows_limits c m limits ready.states ready.inputs region ready.there)

-- of the system of a region in a closed loop
pub rows_small : {C : Type 0} {k : ControllerOf C} (s : System C k) → Limits (control_of s) → AllByRecursion (RowLimits (columns_of s)) (rows_of s)
rows_small s limits = let l = s.closed.now in system_small l.case.now (control_of s) s.region (record { states = l.states; inputs = l.inputs; there = s.there }) limits
