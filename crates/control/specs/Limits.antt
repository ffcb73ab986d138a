-- The limits of a controller's sizes, rows and commands.
use Rattle.std.specs.Prelude.{◌≡◌, ℕ, ◌+◌, ◌≤◌, Bool, ◌&&◌, List, length, ℤ, nat_le}
use Rattle.std.specs.List.{AllByRecursion}
use Rattle.arith.specs.Bounds.{Within}
use Rattle.control.specs.Meaning.{Row, Meaning}

abbrev pub most_states : ℕ
most_states = 4

abbrev pub most_inputs : ℕ
most_inputs = 2

abbrev pub most_regions : ℕ
most_regions = 16

abbrev pub most_rows : ℕ
most_rows = 12

-- how many states and how many inputs a law may have
abbrev pub states_ok : ℕ → Bool
states_ok n = nat_le 1 n && nat_le n most_states

abbrev pub inputs_count_ok : ℕ → Bool
inputs_count_ok m = nat_le 1 m && nat_le m most_inputs

abbrev pub sizes_ok : ℕ → ℕ → Bool
sizes_ok n m = states_ok n && inputs_count_ok m

-- magnitudes
abbrev pub state_limit : ℕ
state_limit = 1000000

abbrev pub coefficient_limit : ℕ
coefficient_limit = 1000000

abbrev pub right_limit : ℕ
right_limit = 1000000000

abbrev pub command_limit : ℕ
command_limit = 100000000000

-- the magnitude of the values that a law is set to command
abbrev pub setting_limit : ℕ
setting_limit = 500000

pub record RowLimits (width : ℕ) (row : Row) : Type 0 where
  pub wide : length row.coefficients ≡ width
  pub small : AllByRecursion (Within coefficient_limit) row.coefficients
  pub right_small : Within right_limit row.right

pub record RegionLimits (width : ℕ) (rows : List Row) : Type 0 where
  pub few : length rows ≤ most_rows
  pub each : AllByRecursion (RowLimits width) rows

-- a state in range
pub record State (n : ℕ) (x : List ℤ) : Type 0 where
  pub long : length x ≡ n
  pub small : AllByRecursion (Within state_limit) x

pub record Limits (m : Meaning) : Type 0 where
  pub states_low : 1 ≤ m.states
  pub states_high : m.states ≤ most_states
  pub inputs_low : 1 ≤ m.inputs
  pub inputs_high : m.inputs ≤ most_inputs
  pub regions_low : 1 ≤ length m.regions
  pub regions_high : length m.regions ≤ most_regions
  pub each : AllByRecursion (RegionLimits (m.states + m.inputs)) m.regions
  pub command_long : (x : List ℤ) → State m.states x → length (m.command x) ≡ m.inputs
  pub command_small : (x : List ℤ) → State m.states x → AllByRecursion (Within command_limit) (m.command x)
