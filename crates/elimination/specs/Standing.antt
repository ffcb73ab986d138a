-- Rows in lent places.
use Rattle.std.specs.Prelude.{◌≡◌, List, length, take, Ok, Err, Result}
use Rattle.elimination.specs.declared.row.Row.{Row}
use Rattle.elimination.specs.declared.row.Stop.{Stop}
use Rattle.elimination.specs.declared.column.Rows.{Rows}

-- the rows that stand
abbrev pub standing : Rows → List Row
standing r = take r.count r.places.now

-- the rows stand, or there is a stop
abbrev pub Puts : Result (List Row) Stop → Result (Unit {0}) Stop → List Row → Type 0
Puts (Ok rows) result stand = (result ≡ Ok tt) × (stand ≡ rows)
Puts (Err e) result stand = result ≡ Err e

-- the places are the same that were lent, and as many
pub record SamePlaces (r s : Rows) : Type 0 where
  pub same : s.places.ghost_name ≡ r.places.ghost_name
  pub long : length s.places.now ≡ length r.places.now
