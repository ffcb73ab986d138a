-- The greatest common divisor.
use Rattle.std.specs.Prelude.{◌≡◌, ℕ, zero, suc, ◌*◌, ◌%◌, List, ℤ, fold, unsigned_abs}

-- Euclid's algorithm, at most n turns of it
abbrev pub euclid : ℕ → ℕ → ℕ → ℕ
euclid n x zero = x
euclid zero x (suc y) = x
euclid (suc n) x (suc y) = euclid n (suc y) (x % suc y)

-- as many turns as the second number are always enough; of 0 and 0 it is 0
abbrev pub gcd : ℕ → ℕ → ℕ
gcd a b = euclid b a b

abbrev pub Divides : ℕ → ℕ → Type 0
Divides d n = (k : ℕ) × (n ≡ k * d)

-- d divides both numbers, and each number that divides both divides d
pub record Greatest (a b d : ℕ) : Type 0 where
  pub first : Divides d a
  pub second : Divides d b
  pub each : (e : ℕ) → Divides e a → Divides e b → Divides e d

-- the greatest common divisor of g and the magnitudes of a list
abbrev pub divisor : ℕ → List ℤ → ℕ
divisor g zs = fold (λ d z. gcd d (unsigned_abs z)) g zs
