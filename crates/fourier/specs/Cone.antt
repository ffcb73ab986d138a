-- Rows as vectors of integers, the combinations of rows, and what refutes a system of inequalities.
use Rattle.std.specs.Prelude.{◌≡◌, ℕ, zero, suc, ◌<◌, ◌≤◌, Bool, true, false, ◌⊎◌, List, [], ◌∷◌, ◌++◌, map, ℤ, pos, negsuc, ◌+ℤ◌, ◌*ℤ◌, neg_ℤ, ◌≤ℤ◌, ◌<ℤ◌, filter}
use Rattle.std.specs.List.{flat_map, AllByRecursion}

-- the places of a row: its multipliers, its scale, a coefficient for each column, its right side
pub data Place : Type 0 where
  multiplier : ℕ → Place
  scale : Place
  column : ℕ → Place
  right : Place

abbrev pub Vector : Type 0
Vector = Place → ℤ

-- v is the sum of the rows, each times a natural number; `at` reads a row as a vector
abbrev pub Cone : {X : Type 0} → (X → Vector) → List X → Vector → Type 0
Cone at [] v = (i : Place) → v i ≡ pos 0
Cone at (r ∷ rs) v = (w : ℕ) × (u : Vector) × Cone at rs u × ((i : Place) → v i ≡ pos w *ℤ at r i +ℤ u i)

-- all coefficients are 0, and the right side is below 0, or is 0 where the scale is above 0
abbrev pub Refutes : Vector → Type 0
Refutes v = ((j : ℕ) → v (column j) ≡ pos 0) × ((v right <ℤ pos 0) ⊎ ((v right ≡ pos 0) × (pos 0 <ℤ v scale)))

-- some combination of the rows refutes
abbrev pub Refutable : {X : Type 0} → (X → Vector) → List X → Type 0
Refutable at rows = (v : Vector) × Cone at rows v × Refutes v

-- all coefficients are 0, and the right side is above 0, or is 0 where the scale is not above 0
abbrev pub Slack : Vector → Type 0
Slack v = ((j : ℕ) → v (column j) ≡ pos 0) × ((pos 0 <ℤ v right) ⊎ ((v right ≡ pos 0) × (v scale ≤ℤ pos 0)))

-- every column from n on is 0
abbrev pub Narrow : {X : Type 0} → (X → Vector) → ℕ → X → Type 0
Narrow at n r = (j : ℕ) → n ≤ j → at r (column j) ≡ pos 0

-- r times a number above 0 is p(c) × q - q(c) × p, in which column c is 0
abbrev pub Joins : ℕ → Vector → Vector → Vector → Type 0
Joins c p q r = (k : ℕ) × (0 < k) × ((i : Place) → pos k *ℤ r i ≡ p (column c) *ℤ q i +ℤ neg_ℤ (q (column c)) *ℤ p i)

abbrev pub is_zero : ℤ → Bool
is_zero (pos zero) = true
is_zero (pos (suc n)) = false
is_zero (negsuc n) = false

abbrev pub is_positive : ℤ → Bool
is_positive (pos zero) = false
is_positive (pos (suc n)) = true
is_positive (negsuc n) = false

abbrev pub is_negative : ℤ → Bool
is_negative (pos n) = false
is_negative (negsuc n) = true

-- the rows with 0 in the column, those above 0 and those below 0, in order
abbrev pub zeros : {X : Type 0} → (X → Vector) → ℕ → List X → List X
zeros at c rows = filter (λ r. is_zero (at r (column c))) rows

abbrev pub positives : {X : Type 0} → (X → Vector) → ℕ → List X → List X
positives at c rows = filter (λ r. is_positive (at r (column c))) rows

abbrev pub negatives : {X : Type 0} → (X → Vector) → ℕ → List X → List X
negatives at c rows = filter (λ r. is_negative (at r (column c))) rows

-- each row of the first list with each of the second
abbrev pub pairs : {X : Type 0} → (X → X → X) → List X → List X → List X
pairs join ps qs = flat_map (λ p. map (join p) qs) ps

-- the new rows of column c: each positive row joined with each negative one, in order
abbrev pub new_rows : {X : Type 0} → (X → Vector) → ℕ → (X → X → X) → List X → List X
new_rows at c join rows = pairs join (positives at c rows) (negatives at c rows)

-- the rows after column c: those with 0 there, then the new ones
abbrev pub eliminated : {X : Type 0} → (X → Vector) → ℕ → (X → X → X) → List X → List X
eliminated at c join rows = zeros at c rows ++ new_rows at c join rows

-- each positive row is joined with each negative one so that column c becomes 0
abbrev pub Joined : {X : Type 0} → (X → Vector) → ℕ → (X → X → X) → List X → Type 0
Joined at c join rows = AllByRecursion (λ p. AllByRecursion (λ q. Joins c (at p) (at q) (at (join p q))) (negatives at c rows)) (positives at c rows)
