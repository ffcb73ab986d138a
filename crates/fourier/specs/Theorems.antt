-- What is proved of the elimination, over rows of any type X and faults of any type F.
use Rattle.std.specs.Prelude.{◌≡◌, ℕ, Bool, false, ◌⊎◌, List, Some, None, Ok, filter, Result}
use Rattle.std.specs.List.{ContainsAt as Has, AllByRecursion}
use Rattle.fourier.specs.Cone.{Vector, Refutes, Refutable, Slack, Narrow, Joined, eliminated}
use Rattle.fourier.specs.Search.{searched, Sane, Made}
use Rattle.fourier.specs.Bounded.{Found, Nothing, Stopped, Judges, run, Stops}

-- to eliminate a column loses no refutation
abbrev pub ColumnKeeps : Type 0 → Type 0
ColumnKeeps X = (at : X → Vector) (c : ℕ) (join : X → X → X) (rows : List X) → Joined at c join rows → Refutable at rows → Refutable at (eliminated at c join rows)

-- to drop slack rows loses no refutation
abbrev pub DropKeeps : Type 0 → Type 0
DropKeeps X = (at : X → Vector) (live : X → Bool) (rows : List X) → AllByRecursion (λ r. live r ≡ false → Slack (at r)) rows → Refutable at rows → Refutable at (filter live rows)

-- a run that is not stopped answers as the elimination without limits
abbrev pub SameAnswer : Type 0 → Type 0 → Type 0
SameAnswer X F =
    (at : X → Vector) (dead live : X → Bool) (join : ℕ → X → X → X) (judged : X → Result X F) (most : ℕ) (crowd : F) → Judges judged → (n : ℕ) (rows : List X)
    → ((r : X) → run at dead live join judged most crowd n rows ≡ Found r → searched at dead live join n rows ≡ Some r)
    × (run at dead live join judged most crowd n rows ≡ Nothing → searched at dead live join n rows ≡ None)

-- nothing: no combination of the start rows refutes, with natural weights of any size
abbrev pub NothingIsNone : Type 0 → Type 0 → Type 0
NothingIsNone X F =
    (at : X → Vector) (dead live : X → Bool) (join : ℕ → X → X → X) (judged : X → Result X F) (most : ℕ) (crowd : F) → Judges judged → (n : ℕ) (rows : List X)
    → Sane at dead live join (Made at join rows) → AllByRecursion (Narrow at n) rows → run at dead live join judged most crowd n rows ≡ Nothing → Refutable at rows → ⊥

-- found: the row refutes, is made of the start rows, is one of them or has passed the judge, and some combination of the start rows refutes
abbrev pub FoundRefutes : Type 0 → Type 0 → Type 0
FoundRefutes X F =
    (at : X → Vector) (dead live : X → Bool) (join : ℕ → X → X → X) (judged : X → Result X F) (most : ℕ) (crowd : F) → Judges judged → (n : ℕ) (rows : List X)
    → Sane at dead live join (Made at join rows) → (r : X) → run at dead live join judged most crowd n rows ≡ Found r
    → Refutes (at r) × Made at join rows r × (Has rows r ⊎ (judged r ≡ Ok r)) × Refutable at rows

-- a run is stopped exactly where it reaches a column that would leave too many rows, or in which a new row is refused
abbrev pub StopsExactly : Type 0 → Type 0 → Type 0
StopsExactly X F =
    (at : X → Vector) (dead live : X → Bool) (join : ℕ → X → X → X) (judged : X → Result X F) (most : ℕ) (crowd : F) → Judges judged → (n : ℕ) (rows : List X) (f : F)
    → (run at dead live join judged most crowd n rows ≡ Stopped f → Stops at dead live join judged most crowd n rows f)
    × (Stops at dead live join judged most crowd n rows f → run at dead live join judged most crowd n rows ≡ Stopped f)
