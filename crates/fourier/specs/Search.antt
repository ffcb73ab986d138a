-- The elimination without limits, column after column, over rows of any make.
use Rattle.std.specs.Prelude.{◌≡◌, ℕ, zero, suc, Bool, true, false, cond, List, [], ◌∷◌, pos, Some, None, filter, Option}
use Rattle.std.specs.List.{ContainsAt as Has}
use Rattle.fourier.specs.Cone.{column, Vector, Refutes, Slack, Joins, is_positive, is_negative, eliminated}

-- the first row that passes the test
abbrev pub first : {X : Type 0} → (X → Bool) → List X → Option X
first test [] = None
first test (r ∷ rs) = cond (test r) (Some r) (first test rs)

-- the first answer where it is a row, or else the second
abbrev pub or_else : {X : Type 0} → Option X → Option X → Option X
or_else (Some r) o = Some r
or_else None o = o

-- the first dead row of the start rows, or of those after a column; columns n - 1 down to 0, each without the rows that are not live
abbrev pub searched : {X : Type 0} → (X → Vector) → (dead live : X → Bool) → (ℕ → X → X → X) → ℕ → List X → Option X
searched at dead live join zero rows = first dead rows
searched at dead live join (suc c) rows = or_else (first dead rows) (searched at dead live join c (eliminated at c (join c) (filter live rows)))

-- what joins and tests have to be on good rows: joins clear their column and are good again, a row that is neither dead nor live is slack, a row of zeros is not live, a dead row refutes
pub record Sane {X : Type 0} (at : X → Vector) (dead live : X → Bool) (join : ℕ → X → X → X) (Good : X → Type 0) : Type 0 where
  pub joins : (c : ℕ) (p q : X) → Good p → Good q → is_positive (at p (column c)) ≡ true → is_negative (at q (column c)) ≡ true → Joins c (at p) (at q) (at (join c p q))
  pub keeps : (c : ℕ) (p q : X) → Good p → Good q → is_positive (at p (column c)) ≡ true → is_negative (at q (column c)) ≡ true → Good (join c p q)
  pub spared : (r : X) → Good r → dead r ≡ false → live r ≡ false → Slack (at r)
  pub bare : (r : X) → ((j : ℕ) → at r (column j) ≡ pos 0) → live r ≡ false
  pub refutes : (r : X) → Good r → dead r ≡ true → Refutes (at r)

-- the start rows, and the rows that joining makes of them
pub data Made {X : Type 0} (at : X → Vector) (join : ℕ → X → X → X) (start : List X) : X → Type 0 where
  given : (r : X) → Has start r → Made at join start r
  joined_of : (c : ℕ) (p q : X) → Made at join start p → Made at join start q → is_positive (at p (column c)) ≡ true → is_negative (at q (column c)) ≡ true → Made at join start (join c p q)
