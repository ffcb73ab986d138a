-- Cover: at every state in range, all rows of some region hold for the state and its command.
use Rattle.std.specs.Prelude.{ℕ, ◌<◌, List, [], ◌++◌, length, ℤ, ◌≤ℤ◌, slice_index_or}
use Rattle.std.specs.List.{AllByRecursion}
use Rattle.arith.specs.Products.{dot}
use Rattle.control.specs.Meaning.{Row, Meaning}
use Rattle.control.specs.Limits.{State}

abbrev pub Holds : List ℤ → Row → Type 0
Holds values row = dot row.coefficients values ≤ℤ row.right

-- all rows of some region hold
abbrev pub Covered : List (List Row) → List ℤ → Type 0
Covered regions values = (k : ℕ) × (k < length regions) × AllByRecursion (Holds values) (slice_index_or regions k [])

abbrev pub Cover : Meaning → Type 0
Cover m = (x : List ℤ) → State m.states x → Covered m.regions (x ++ m.command x)
