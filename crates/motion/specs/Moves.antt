-- The permitted next values as the code holds them, where a pick leads, and the magnitude of what a state aims at.
use Rattle.std.specs.Prelude.{ℕ, cond, ◌&&◌, [], ℤ, pos, ◌+ℤ◌, ◌≤ℤ◌, Some, None, Option, int_le}
use Rattle.case.specs.Next.{Permits, lowest, highest}
use Rattle.case.specs.declared.values.StateEquation.{StateEquation}
use Rattle.motion.specs.declared.range.Permitted.{Permitted}

-- the lowest and the highest permitted value, for a divisor from 1 on
abbrev pub permitted_values : ℤ → ℤ → ℤ → Option Permitted
permitted_values D r v = cond (int_le (pos 1) D) (Some (record { lowest = lowest D r v; highest = highest D r v })) None

-- the permitted values are the whole numbers from the lowest to the highest
abbrev pub Exactly : ℤ → ℤ → ℤ → Permitted → Type 0
Exactly D r v p =
    (y : ℤ) → (Permits D r v y → (p.lowest ≤ℤ y) × (y ≤ℤ p.highest)) × ((p.lowest ≤ℤ y) × (y ≤ℤ p.highest) → Permits D r v y)

-- where a pick leads, from the lowest and the highest value
abbrev pub led : ℤ → ℤ → ℤ → Option ℤ
led l h pick = cond (int_le (pos 0) pick && int_le (l +ℤ pick) h) (Some (l +ℤ pick)) None

-- the magnitude of what a state aims at
abbrev pub aim_limit : ℕ
aim_limit = 300000000000000000

-- what stands past the last equation
abbrev pub no_equation : StateEquation
no_equation = record { low = pos 0; high = pos 0; leeway = pos 0; constant = pos 0; a = []; b = []; e = [] }
