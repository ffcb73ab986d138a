-- What the system of a region says: exactly that a step from an inside state, with the region's command and bounded pushes, is permitted.
use Rattle.std.specs.Prelude.{◌≡◌, List, ◌++◌, length, ℤ}
use Rattle.std.specs.List.{AllByRecursion}
use Rattle.control.specs.Cover.{Holds}
use Rattle.control.specs.Meaning.{Row}
use Rattle.case.specs.Values.{CaseValues, state_count, push_count}
use Rattle.case.specs.Faces.{faces, Inside}
use Rattle.case.specs.Next.{Bounded, Permitted}
use Rattle.case.specs.System.{system}

-- the loop may go from the inside state x to y, with the command u that the region allows and the pushes w
pub record Step (k : CaseValues) (region : List Row) (x u w y : List ℤ) : Type 0 where
  pub inside : Inside k x
  pub allowed : AllByRecursion (Holds (x ++ u)) region
  pub bounded : Bounded k w
  pub permitted : Permitted k x u w y

-- all rows of the region's system hold of x, u, w and y
abbrev pub Solves : CaseValues → List Row → List ℤ → List ℤ → List ℤ → List ℤ → Type 0
Solves k region x u w y = AllByRecursion (Holds (x ++ (u ++ (w ++ y)))) (system k (faces k) region)

-- for lists of the case's lengths, the two say the same
unfoldable pub Bridge : CaseValues → List Row → Type 0
Bridge k region =
    (x u w y : List ℤ) → length x ≡ state_count k → length u ≡ k.inputs → length w ≡ push_count k → length y ≡ state_count k
    → (Step k region x u w y → Solves k region x u w y) × (Solves k region x u w y → Step k region x u w y)
