-- Rows of an elimination: their tests, their limits, and the row of two rows in which a column falls out.
use Rattle.std.specs.Prelude.{◌≡◌, ℕ, ◌/◌, Bool, true, cond, ◌&&◌, ◌||◌, ◌⊎◌, List, [], ◌∷◌, map, length, ℤ, pos, ◌+ℤ◌, ◌*ℤ◌, ◌≤ℤ◌, ◌<ℤ◌, Ok, Err, Result, int_div, int_le, int_lt, slice_index_or, unsigned_abs}
use Rattle.std.specs.List.{AllByRecursion, list_all, list_any}
use Rattle.arith.specs.Bounds.{Within, within, all_within}
use Rattle.fourier.specs.Cone.{Vector, multiplier, scale, column, right, is_zero, is_positive, is_negative}
use Rattle.elimination.specs.declared.row.Row.{Row}
use Rattle.elimination.specs.declared.row.Stop.{Stop}
use Rattle.elimination.specs.declared.row.Stop.TheVariants.{Number}
use Rattle.elimination.specs.Divisors.{gcd, divisor}

-- the most of a multiplier and of a scale
abbrev pub multiplier_limit : ℕ
multiplier_limit = 1000000

-- the most of a coefficient's and of a right side's magnitude
abbrev pub number_limit : ℕ
number_limit = 1000000000

-- room for the sum of two products of numbers within that limit
abbrev pub sum_limit : ℕ
sum_limit = 4000000000000000000

-- the coefficient in column c, counted from 0
abbrev pub coefficient : Row → ℕ → ℤ
coefficient r c = slice_index_or r.coefficients c (pos 0)

-- a row read as a vector, place by place; places and columns count from 0
abbrev pub at : Row → Vector
at r (multiplier k) = slice_index_or r.multipliers k (pos 0)
at r scale = r.scale
at r (column j) = coefficient r j
at r right = r.right

-- all coefficients are 0
abbrev pub blank : Row → Bool
blank r = all_within 0 r.coefficients

-- all coefficients are 0, and the right side is below 0, or 0 with a scale above 0
abbrev pub dead : Row → Bool
dead r = blank r && (is_negative r.right || (is_zero r.right && is_positive r.scale))

-- the test says that every coefficient is 0
abbrev pub BlankForm : Row → Type 0
BlankForm r = (blank r ≡ true → (j : ℕ) → coefficient r j ≡ pos 0) × (((j : ℕ) → coefficient r j ≡ pos 0) → blank r ≡ true)

-- x × ps + y × qs, entry by entry
abbrev pub mixed : ℤ → ℤ → List ℤ → List ℤ → List ℤ
mixed x y [] qs = []
mixed x y (p ∷ ps) [] = []
mixed x y (p ∷ ps) (q ∷ qs) = (x *ℤ p +ℤ y *ℤ q) ∷ mixed x y ps qs

-- x × p + y × q, in every place
abbrev pub weighted : ℤ → ℤ → Row → Row → Row
weighted x y p q = record {
  multipliers = mixed x y p.multipliers q.multipliers;
  scale = x *ℤ p.scale +ℤ y *ℤ q.scale;
  coefficients = mixed x y p.coefficients q.coefficients;
  right = x *ℤ p.right +ℤ y *ℤ q.right;
}

-- each number divided by d, rounded toward 0; d is never 0, and there is no rest (see Traced)
abbrev pub quotients : ℤ → List ℤ → List ℤ
quotients d zs = map (λ z. int_div z d) zs

abbrev pub divided : ℤ → Row → Row
divided d r = record {
  multipliers = quotients d r.multipliers;
  scale = int_div r.scale d;
  coefficients = quotients d r.coefficients;
  right = int_div r.right d;
}

-- the greatest common divisor of the multipliers and the scale
abbrev pub content : Row → ℕ
content r = divisor (unsigned_abs r.scale) r.multipliers

abbrev pub reduced : Row → Row
reduced r = divided (pos (content r)) r

-- the combination of p and q in which column c falls out
abbrev pub joined_sum : ℕ → Row → Row → Row
joined_sum c p q =
    let a = unsigned_abs (coefficient p c) in
    let b = unsigned_abs (coefficient q c) in
    weighted (pos (b / gcd a b)) (pos (a / gcd a b)) p q

-- the row of p and q
abbrev pub joined_row : ℕ → Row → Row → Row
joined_row c p q = reduced (joined_sum c p q)

-- every number of a row is within its limit; multipliers and scale are not below 0
abbrev pub allowed : Row → Bool
allowed r = all_within multiplier_limit r.multipliers && (within multiplier_limit r.scale && (all_within number_limit r.coefficients && within number_limit r.right))

-- a row held against the limits
abbrev pub judged : Row → Result Row Stop
judged r = cond (allowed r) (Ok r) (Err Number)

-- the scale or some multiplier is above 0
abbrev pub Weighty : Row → Type 0
Weighty r = (pos 0 <ℤ r.scale) ⊎ ((k : ℕ) × (pos 0 <ℤ slice_index_or r.multipliers k (pos 0)))

-- what each row of an elimination keeps: its lengths, its limits, no multiplier and no scale below 0, one of them above 0
pub record Proper (r : Row) : Type 0 where
  pub long : length r.multipliers ≡ 40
  pub wide : length r.coefficients ≡ 12
  pub multipliers : AllByRecursion (Within multiplier_limit) r.multipliers
  pub scale : Within multiplier_limit r.scale
  pub coefficients : AllByRecursion (Within number_limit) r.coefficients
  pub right : Within number_limit r.right
  pub multipliers_low : AllByRecursion (λ m. pos 0 ≤ℤ m) r.multipliers
  pub scale_low : pos 0 ≤ℤ r.scale
  pub weighty : Weighty r

-- the test of it: no multiplier and no scale is below 0, and one of them is above 0
abbrev pub low : Row → Bool
low r = int_le (pos 0) r.scale && list_all (λ m. int_le (pos 0) m) r.multipliers

abbrev pub weighty : Row → Bool
weighty r = int_lt (pos 0) r.scale || list_any (λ m. int_lt (pos 0) m) r.multipliers

abbrev pub proper : Row → Bool
proper r = allowed r && (low r && weighty r)

-- two rows that are combined in column c
pub record Pair (c : ℕ) (p q : Row) : Type 0 where
  pub first : Proper p
  pub second : Proper q
  pub positive : is_positive (coefficient p c) ≡ true
  pub negative : is_negative (coefficient q c) ≡ true

-- a fact of what is answered, where it is not a stop
abbrev pub WhereOk : {X : Type 0} → (X → Type 0) → Result X Stop → Type 0
WhereOk P (Ok x) = P x
WhereOk P (Err e) = Unit {0}
