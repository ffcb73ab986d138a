-- The elimination with limits: a column has at most so many rows, and each new row is judged as it is made.
use Rattle.std.specs.Prelude.{◌≡◌, ℕ, zero, suc, ◌+◌, ◌*◌, ◌<◌, ◌≤◌, Bool, cond, ◌⊎◌, List, [], ◌∷◌, ◌++◌, length, Some, None, Ok, Err, filter, Option, Result, nat_le}
use Rattle.std.specs.List.{AllByRecursion}
use Rattle.fourier.specs.Cone.{Vector, zeros, positives, negatives, new_rows}
use Rattle.fourier.specs.Search.{first}

-- how a run ends: with a dead row, with none left, or with a fault
pub data Outcome (X F : Type 0) : Type 0 where
  Found : X → Outcome X F
  Nothing : Outcome X F
  Stopped : F → Outcome X F

-- a row passes as it is, or is refused
abbrev pub Judges : {X F : Type 0} → (X → Result X F) → Type 0
Judges {X} {F} judged = (r : X) → (judged r ≡ Ok r) ⊎ ((f : F) × (judged r ≡ Err f))

-- what follows a value; a fault stays
abbrev pub and_then : {A B F : Type 0} → Result A F → (A → Result B F) → Result B F
and_then (Ok a) next = next a
and_then (Err f) next = Err f

-- the rows in order, each judged; the first fault stops
abbrev pub all_judged : {X F : Type 0} → (X → Result X F) → List X → Result (List X) F
all_judged judged [] = Ok []
all_judged judged (r ∷ rs) = and_then (judged r) (λ s. and_then (all_judged judged rs) (λ ss. Ok (s ∷ ss)))

-- how many rows there are after column c
abbrev pub rows_after : {X : Type 0} → (X → Vector) → ℕ → List X → ℕ
rows_after at c rows = length (zeros at c rows) + length (positives at c rows) * length (negatives at c rows)

-- after a scan: the dead row, or what follows
abbrev pub scanned : {X F : Type 0} → Option X → Outcome X F → Outcome X F
scanned (Some r) o = Found r
scanned None o = o

-- after a column: what follows with its rows, or the fault
abbrev pub gone_on : {X F : Type 0} → Result (List X) F → (List X → Outcome X F) → Outcome X F
gone_on (Ok rows) next = next rows
gone_on (Err f) next = Stopped f

-- a row of the list is refused, and those before it pass
abbrev pub FirstRefused : {X F : Type 0} → (X → Result X F) → List X → F → Type 0
FirstRefused {X} judged rows f =
    (before : List X) × (r : X) × (after : List X) × (rows ≡ before ++ r ∷ after) × AllByRecursion (λ s. judged s ≡ Ok s) before × (judged r ≡ Err f)

-- one column: how rows are read, joined and judged, the most rows after it, and the fault where there would be more
module _ {X F : Type 0} (at : X → Vector) (join : ℕ → X → X → X) (judged : X → Result X F) (most : ℕ) (crowd : F) where
  -- the rows are counted before any is made; then the new ones, each judged, stand behind those with 0
  abbrev pub bounded_column : ℕ → List X → Result (List X) F
  bounded_column c rows =
      cond (nat_le (rows_after at c rows) most)
      (and_then (all_judged judged (new_rows at c (join c) rows)) (λ new. Ok (zeros at c rows ++ new)))
      (Err crowd)

  -- column c stops: it would leave too many rows, or it would not and a new row is refused
  abbrev pub ColumnStops : ℕ → List X → F → Type 0
  ColumnStops c rows f =
      ((most < rows_after at c rows) × (f ≡ crowd))
      ⊎ ((rows_after at c rows ≤ most) × FirstRefused judged (new_rows at c (join c) rows) f)

-- the whole run: the tests of a scan besides
module _ {X F : Type 0} (at : X → Vector) (dead live : X → Bool) (join : ℕ → X → X → X) (judged : X → Result X F) (most : ℕ) (crowd : F) where
  -- columns n - 1 down to 0, with a scan before the first and after each: a dead row ends the run, rows that are not live are dropped
  abbrev pub run : ℕ → List X → Outcome X F
  run zero rows = scanned (first dead rows) Nothing
  run (suc c) rows = scanned (first dead rows) (gone_on (bounded_column at join judged most crowd c (filter live rows)) (run c))

  -- the run over n columns from these start rows reaches column c with these rows
  abbrev pub Reaches : ℕ → List X → ℕ → List X → Type 0
  Reaches zero start c rows = ⊥
  Reaches (suc n) start c rows =
      (first dead start ≡ None)
      × (((c ≡ n) × (rows ≡ filter live start))
      ⊎ ((next : List X) × (bounded_column at join judged most crowd n (filter live start) ≡ Ok next) × Reaches n next c rows))

  -- the run reaches a column that stops
  abbrev pub Stops : ℕ → List X → F → Type 0
  Stops n start f = (c : ℕ) × (rows : List X) × Reaches n start c rows × ColumnStops at join judged most crowd c rows f
