-- The limits of the numbers of a case text, line by line.
use Rattle.std.specs.Prelude.{ℕ, List, [], ◌∷◌, ◌++◌, replicate, pos}
use Rattle.control.specs.Limits.{most_states, most_inputs}
pub use Rattle.text.specs.Limits.{from_to, around}
use Rattle.text.specs.declared.number.Limit.{Limit}
use Rattle.case.specs.Limits.{most_pushes, most_extras, divisor_limit, bound_limit, entry_limit, constant_limit, extra_limit, leeway_limit}

-- states, inputs, pushes, extra faces and divisor
abbrev pub sizes_limits : List Limit
sizes_limits =
    from_to (pos 1) (pos most_states) ∷ from_to (pos 1) (pos most_inputs) ∷ from_to (pos 0) (pos most_pushes) ∷ from_to (pos 0) (pos most_extras)
    ∷ from_to (pos 1) (pos divisor_limit) ∷ []

-- low, high, leeway and constant
abbrev pub state_limits : List Limit
state_limits = around bound_limit ∷ around bound_limit ∷ from_to (pos 0) (pos leeway_limit) ∷ around constant_limit ∷ []

-- low and high
abbrev pub push_limits : List Limit
push_limits = around bound_limit ∷ around bound_limit ∷ []

-- as many entries as there are states, inputs and pushes
abbrev pub dynamics_limits : ℕ → List Limit
dynamics_limits width = replicate width (around entry_limit)

-- n entries and the right side
abbrev pub extra_limits : ℕ → List Limit
extra_limits n = replicate n (around entry_limit) ++ around extra_limit ∷ []
