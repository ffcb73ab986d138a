use Rattle.std.proofs.Common.{◌≡◌, ◌^◌, ◌<◌, drop}
use Rattle.std.specs.Option.{option_map}
use Rattle.text.specs.Numbers.{digits_after, capped}
use Rattle.text.proofs.number.magnitude.Given as goal

abbrev pub invariant-loop-b : goal.invariant-loop-b
invariant-loop-b l = (l.value < 2 ^ 64) × (option_map capped (digits_after l.value (drop l.b-index l.digits)) ≡ option_map capped (digits_after 0 l.digits))
