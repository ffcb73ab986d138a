-- The elimination on the worked examples.
use Rattle.std.proofs.Common.{◌≡◌, List, [], ◌∷◌, ◌++◌, ℤ, pos, negsuc, refl}
use Rattle.control.specs.Meaning.{Meaning}
use Rattle.case.specs.System.{none}
use Rattle.case.specs.Values.{CaseValues}
use Rattle.fourier.specs.Bounded.{Found, Nothing, Stopped}
use Rattle.elimination.specs.declared.row.Stop.TheVariants.{Crowd, Number}
use Rattle.solve.specs.Solving.{outcome}

-- one state, input and push; the region in which the command is -20 and the state at least 81
abbrev loop_with : ℤ → CaseValues
loop_with push = record {
  inputs = 1;
  divisor = pos 1;
  equations = record { low = negsuc 99; high = pos 100; leeway = pos 0; constant = pos 0; a = pos 1 ∷ []; b = pos 1 ∷ []; e = pos 1 ∷ [] } ∷ [];
  bounds = record { low = negsuc 4; high = push } ∷ [];
  extra = [];
}

abbrev law : Meaning
law = record {
  states = 1;
  inputs = 1;
  regions = (record { coefficients = pos 0 ∷ pos 1 ∷ []; right = negsuc 19 } ∷ record { coefficients = pos 0 ∷ negsuc 0 ∷ []; right = pos 20 } ∷ record { coefficients = negsuc 0 ∷ pos 0 ∷ []; right = negsuc 80 } ∷ []) ∷ [];
  command = λ x. [];
}

abbrev multipliers : List ℤ
multipliers = pos 1 ∷ pos 0 ∷ pos 1 ∷ pos 0 ∷ pos 0 ∷ pos 1 ∷ pos 0 ∷ pos 1 ∷ pos 0 ∷ []

found : outcome (loop_with (pos 5)) law 1 1 ≡ Found (record { multipliers = multipliers ++ none 31; scale = pos 1; coefficients = none 12; right = negsuc 14 })
found = refl

found_at_zero : outcome (loop_with (pos 20)) law 1 1 ≡ Found (record { multipliers = multipliers ++ none 31; scale = pos 1; coefficients = none 12; right = pos 0 })
found_at_zero = refl

nothing : outcome (loop_with (pos 21)) law 1 1 ≡ Nothing
nothing = refl

-- a state multiplied by 997 and the middle region of a law that divides by 997: a multiplier grows too large
abbrev steep : CaseValues
steep = record {
  inputs = 1;
  divisor = pos 1;
  equations = record { low = negsuc 99; high = pos 100; leeway = pos 0; constant = pos 0; a = pos 997 ∷ []; b = pos 1 ∷ []; e = [] } ∷ [];
  bounds = [];
  extra = [];
}

abbrev middle : Meaning
middle = record {
  states = 1;
  inputs = 1;
  regions = (record { coefficients = negsuc 0 ∷ pos 997 ∷ []; right = pos 0 } ∷ record { coefficients = pos 1 ∷ negsuc 996 ∷ []; right = pos 996 } ∷ record { coefficients = pos 0 ∷ pos 1 ∷ []; right = pos 20 } ∷ record { coefficients = pos 0 ∷ negsuc 0 ∷ []; right = pos 20 } ∷ []) ∷ [];
  command = λ x. [];
}

number : outcome steep middle 1 2 ≡ Stopped Number
number = refl

-- three states that depend on each other, with a corner of the box cut off at each of its eight: the rows grow too many
abbrev coupled : CaseValues
coupled = record {
  inputs = 1;
  divisor = pos 1;
  equations =
      record { low = negsuc 99; high = pos 100; leeway = pos 0; constant = pos 0; a = pos 2 ∷ pos 1 ∷ pos 1 ∷ []; b = pos 0 ∷ []; e = [] }
      ∷ record { low = negsuc 99; high = pos 100; leeway = pos 0; constant = pos 0; a = pos 1 ∷ pos 2 ∷ pos 1 ∷ []; b = pos 0 ∷ []; e = [] }
      ∷ record { low = negsuc 99; high = pos 100; leeway = pos 0; constant = pos 0; a = pos 1 ∷ pos 1 ∷ pos 2 ∷ []; b = pos 0 ∷ []; e = [] }
      ∷ [];
  bounds = [];
  extra =
      record { coefficients = pos 1 ∷ pos 1 ∷ pos 1 ∷ []; right = pos 150 }
      ∷ record { coefficients = negsuc 0 ∷ pos 1 ∷ pos 1 ∷ []; right = pos 150 }
      ∷ record { coefficients = pos 1 ∷ negsuc 0 ∷ pos 1 ∷ []; right = pos 150 }
      ∷ record { coefficients = negsuc 0 ∷ negsuc 0 ∷ pos 1 ∷ []; right = pos 150 }
      ∷ record { coefficients = pos 1 ∷ pos 1 ∷ negsuc 0 ∷ []; right = pos 150 }
      ∷ record { coefficients = negsuc 0 ∷ pos 1 ∷ negsuc 0 ∷ []; right = pos 150 }
      ∷ record { coefficients = pos 1 ∷ negsuc 0 ∷ negsuc 0 ∷ []; right = pos 150 }
      ∷ record { coefficients = negsuc 0 ∷ negsuc 0 ∷ negsuc 0 ∷ []; right = pos 150 }
      ∷ [];
}

abbrev fixed : Meaning
fixed = record {
  states = 3;
  inputs = 1;
  regions = (record { coefficients = pos 0 ∷ pos 0 ∷ pos 0 ∷ pos 1 ∷ []; right = pos 0 } ∷ record { coefficients = pos 0 ∷ pos 0 ∷ pos 0 ∷ negsuc 0 ∷ []; right = pos 0 } ∷ []) ∷ [];
  command = λ x. [];
}

crowd : outcome coupled fixed 1 1 ≡ Stopped Crowd
crowd = refl
