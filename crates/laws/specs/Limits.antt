-- The limits of the numbers of a law text.
use Rattle.std.specs.Prelude.{ℕ, List, [], ◌∷◌, ◌++◌, replicate, pos}
use Rattle.control.specs.Limits.{most_states, most_inputs, setting_limit}
use Rattle.control.specs.Saturated.{gain_limit, offset_limit, most_divisor}
pub use Rattle.text.specs.Limits.{from_to, around}
use Rattle.text.specs.declared.number.Limit.{Limit}
use Rattle.laws.specs.declared.table.LawKind.{LawKind}
use Rattle.laws.specs.declared.table.LawKind.TheVariants.{Saturated, Fixed}

abbrev pub states_limit : Limit
states_limit = from_to (pos 1) (pos most_states)

abbrev pub inputs_limit : Limit
inputs_limit = from_to (pos 1) (pos most_inputs)

abbrev pub sizes_limits : List Limit
sizes_limits = states_limit ∷ inputs_limit ∷ []

-- the limits of an input's line: gains, offset, divisor, low and high, or one command
abbrev pub row_limits : LawKind → ℕ → List Limit
row_limits Saturated n =
    replicate n (around gain_limit) ++ (around offset_limit ∷ from_to (pos 1) (pos most_divisor) ∷ around setting_limit ∷ around setting_limit ∷ [])
row_limits Fixed n = around setting_limit ∷ []
