-- What is left of a line.
use Rattle.std.specs.Prelude.{ℕ, List, Option}
use Rattle.std.specs.Option.{option_map}
use Rattle.text.specs.declared.fields.Fields.{Fields}

abbrev pub left_of : Fields → Option (List ℕ)
left_of s = option_map (λ x. x.now) s.rest
