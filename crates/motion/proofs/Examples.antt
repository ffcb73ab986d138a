-- The permitted values and where picks lead, on examples.
use Rattle.std.proofs.Common.{◌≡◌, pos, negsuc, Some, None, refl}
use Rattle.motion.specs.Moves.{led, permitted_values}

above : permitted_values (pos 10) (pos 5) (pos 15) ≡ Some (record { lowest = pos 1; highest = pos 2 })
above = refl

below : permitted_values (pos 10) (pos 5) (negsuc 14) ≡ Some (record { lowest = negsuc 1; highest = negsuc 0 })
below = refl

narrow : permitted_values (pos 10) (pos 4) (pos 15) ≡ Some (record { lowest = pos 2; highest = pos 1 })
narrow = refl

single : permitted_values (pos 11) (pos 5) (pos 15) ≡ Some (record { lowest = pos 1; highest = pos 1 })
single = refl

first : led (pos 1) (pos 2) (pos 0) ≡ Some (pos 1)
first = refl

second : led (pos 1) (pos 2) (pos 1) ≡ Some (pos 2)
second = refl

third : led (pos 1) (pos 2) (pos 2) ≡ None
third = refl
