-- The elimination of one column from a list of rows.
use Rattle.std.specs.Prelude.{◌≡◌, ℕ, ◌+◌, ◌*◌, Bool, cond, List, ◌++◌, length, take, Ok, Err, Result, nat_le}
use Rattle.std.specs.List.{AllByRecursion, list_all}
use Rattle.elimination.specs.declared.row.Row.{Row}
use Rattle.elimination.specs.declared.row.Stop.{Stop}
use Rattle.elimination.specs.declared.row.Stop.TheVariants.{Crowd, Number}
use Rattle.fourier.specs.Cone as cone
use Rattle.elimination.specs.Rows.{at, joined_row, allowed, WhereOk}
use Rattle.elimination.specs.Traced.{Source, Traced}

-- the most rows after a column
abbrev pub most_rows : ℕ
most_rows = 256

-- the rows with 0, with a number above 0 and with one below 0 in column c, in order
abbrev pub zeros : ℕ → List Row → List Row
zeros c rows = cone.zeros at c rows

abbrev pub positives : ℕ → List Row → List Row
positives c rows = cone.positives at c rows

abbrev pub negatives : ℕ → List Row → List Row
negatives c rows = cone.negatives at c rows

-- the rows of each p with each q: for each p in order, each q in order
abbrev pub pairs : ℕ → List Row → List Row → List Row
pairs c ps qs = cone.pairs (joined_row c) ps qs

abbrev pub all_allowed : List Row → Bool
all_allowed rows = list_all allowed rows

-- rows followed by new ones, unless a new one passes a limit
abbrev pub extended : List Row → List Row → Result (List Row) Stop
extended rows new = cond (all_allowed new) (Ok (rows ++ new)) (Err Number)

-- the rows after column c: those with 0, then the pairs; too many of them are a crowd
abbrev pub eliminated : ℕ → List Row → Result (List Row) Stop
eliminated c rows =
    let zs = zeros c rows in
    let ps = positives c rows in
    let qs = negatives c rows in
    cond (nat_le (length zs + length ps * length qs) most_rows) (extended zs (pairs c ps qs)) (Err Crowd)

-- how many rows there are
abbrev pub counted : Result (List Row) Stop → Result ℕ Stop
counted (Ok rows) = Ok (length rows)
counted (Err e) = Err e

-- the rows stand in the first places of `out`; its other places may hold anything
abbrev pub Begins : List Row → Result (List Row) Stop → Type 0
Begins out answer = WhereOk (λ rows. take (length rows) out ≡ rows) answer

-- rows traced to a system and a face stay so
abbrev pub StaysTraced : ℕ → List Row → Type 0
StaysTraced c rows = (system : List Source) (face : Source) → AllByRecursion (Traced system face) rows → WhereOk (AllByRecursion (Traced system face)) (eliminated c rows)
