-- What a controller means: its sizes, its regions with their rows, and its command as a function of the state.
use Rattle.std.specs.Prelude.{ℕ, List, ℤ}

-- the row coefficients × (x, u) ≤ right
pub record Row : Type 0 where
  pub coefficients : List ℤ
  pub right : ℤ

pub record Meaning : Type 0 where
  pub states : ℕ
  pub inputs : ℕ
  pub regions : List (List Row)
  pub command : List ℤ → List ℤ

abbrev pub meaning : ℕ → ℕ → List (List Row) → (List ℤ → List ℤ) → Meaning
meaning n m rs f = record { states = n; inputs = m; regions = rs; command = f }
