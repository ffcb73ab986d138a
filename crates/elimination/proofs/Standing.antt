-- A new row held against its limits, and the stop where it passes one.
use Rattle.std.proofs.Common.{◌≡◌, ℕ, Bool, true, false, cond, List, [], ◌++◌, pos, Ok, Err, Result, refl, ◌∙◌, arith}
use Rattle.elimination.specs.declared.column.Rows.{Rows}
use Rattle.elimination.specs.declared.row.Row.{Row}
use Rattle.elimination.specs.declared.row.Stop.{Stop}
use Rattle.elimination.specs.declared.row.Stop.TheVariants.{Number}
use Rattle.elimination.specs.Rows.{allowed, judged}
use Rattle.elimination.specs.Columns.{all_allowed, extended}
use Rattle.elimination.specs.Standing.{Puts, SamePlaces}

-- what a read behind the last row gives
abbrev pub no_row : Row
no_row = record { multipliers = []; scale = pos 0; coefficients = []; right = pos 0 }

-- a new row
pub judged_allowed : (r t : Row) → judged r ≡ Ok t → (t ≡ r) × (allowed r ≡ true)
judged_allowed r t e = by (allowed r) refl e
  where
    by : (b : Bool) → allowed r ≡ b → cond b (Ok r) (Err Number) ≡ Ok t → (t ≡ r) × (allowed r ≡ true)
    by true a k = (cc, a)
    by false a k = let z : ◌≡◌ {A = ℕ} 0 1 = cc in absurd (omega arith)

pub judged_stop : (r : Row) (s : Stop) → judged r ≡ Err s → (s ≡ Number) × (allowed r ≡ false)
judged_stop r s e = by (allowed r) refl e
  where
    by : (b : Bool) → allowed r ≡ b → cond b (Ok r) (Err Number) ≡ Err s → (s ≡ Number) × (allowed r ≡ false)
    by true a k = let z : ◌≡◌ {A = ℕ} 0 1 = cc in absurd (omega arith)
    by false a k = (cc, a)

-- what an answer says of the new rows
pub puts_ok : (rows new stand : List Row) (r : Result (Unit {0}) Stop) → Puts (extended rows new) r stand → r ≡ Ok tt → (all_allowed new ≡ true) × (stand ≡ rows ++ new)
puts_ok rows new stand r h o = by (all_allowed new) refl h
  where
    by : (b : Bool) → all_allowed new ≡ b → Puts (cond b (Ok (rows ++ new)) (Err Number)) r stand → (all_allowed new ≡ true) × (stand ≡ rows ++ new)
    by true a k = (a, k.1)
    by false a k = let z : ◌≡◌ {A = ℕ} 0 1 = cc in absurd (omega arith)

pub puts_stop : (rows new stand : List Row) (r : Result (Unit {0}) Stop) (s : Stop) → Puts (extended rows new) r stand → r ≡ Err s → (s ≡ Number) × (all_allowed new ≡ false)
puts_stop rows new stand r s h o = by (all_allowed new) refl h
  where
    by : (b : Bool) → all_allowed new ≡ b → Puts (cond b (Ok (rows ++ new)) (Err Number)) r stand → (s ≡ Number) × (all_allowed new ≡ false)
    by true a k = let e = k.0 in let z : ◌≡◌ {A = ℕ} 0 1 = cc in absurd (omega arith)
    by false a k = (cc, a)

pub same_trans : (r s t : Rows) → SamePlaces r s → SamePlaces s t → SamePlaces r t
same_trans r s t h k = record { same = k.same ∙ h.same; long = k.long ∙ h.long }
