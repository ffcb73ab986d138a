-- The system of a region: rows over the state x, the command u, the pushes w and the next state.
use Rattle.std.specs.Prelude.{ℕ, suc, ◌+◌, List, [], ◌∷◌, ◌++◌, map, replicate, ℤ, pos, negsuc, ◌+ℤ◌, ◌-ℤ◌, ◌*ℤ◌, neg_ℤ}
use Rattle.control.specs.Meaning.{Row}
use Rattle.case.specs.Faces.{unit}
use Rattle.case.specs.Values.{CaseValues, state_count, push_count}
use Rattle.case.specs.declared.values.StateEquation.{StateEquation}
use Rattle.case.specs.declared.values.PushBounds.{PushBounds}

-- how many columns there are
abbrev pub column_count : CaseValues → ℕ
column_count k = state_count k + k.inputs + push_count k + state_count k

-- no coefficients for so many variables
abbrev pub none : ℕ → List ℤ
none width = replicate width (pos 0)

-- a row over x alone, and over x and u, read over all columns
abbrev pub over_states : CaseValues → Row → Row
over_states k r = record { coefficients = r.coefficients ++ none (k.inputs + push_count k + state_count k); right = r.right }

abbrev pub over_commands : CaseValues → Row → Row
over_commands k r = record { coefficients = r.coefficients ++ none (push_count k + state_count k); right = r.right }

-- w_j ≤ high and −w_j ≤ −low, for push j and those after it
abbrev pub push_rows : CaseValues → ℕ → List PushBounds → List Row
push_rows k j [] = []
push_rows k j (b ∷ bs) =
    record { coefficients = none (state_count k + k.inputs) ++ (unit (push_count k) j (pos 1) ++ none (state_count k)); right = b.high }
    ∷ record { coefficients = none (state_count k + k.inputs) ++ (unit (push_count k) j (negsuc 0) ++ none (state_count k)); right = neg_ℤ b.low }
    ∷ push_rows k (suc j) bs

-- the coefficients of sign × (A × x + B × u + E × w), and then of the next state
abbrev pub equation_row : CaseValues → ℕ → StateEquation → ℤ → ℤ → List ℤ
equation_row k i s sign own = map (λ z. sign *ℤ z) (s.a ++ (s.b ++ s.e)) ++ unit (state_count k) i own

-- D × next_i − v_i ≤ r and −D × next_i + v_i ≤ r, with the constant on the right, for state i and those after it
abbrev pub next_rows : CaseValues → ℕ → List StateEquation → List Row
next_rows k i [] = []
next_rows k i (s ∷ ss) =
    record { coefficients = equation_row k i s (negsuc 0) k.divisor; right = s.constant +ℤ s.leeway }
    ∷ record { coefficients = equation_row k i s (pos 1) (neg_ℤ k.divisor); right = s.leeway -ℤ s.constant }
    ∷ next_rows k (suc i) ss

-- the system of a region, from its faces' rows over x and its own rows over x and u
abbrev pub system : CaseValues → List Row → List Row → List Row
system k faces region = map (over_states k) faces ++ (map (over_commands k) region ++ (push_rows k 0 k.bounds ++ next_rows k 0 k.equations))
