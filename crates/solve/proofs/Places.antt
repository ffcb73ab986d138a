-- Lemmas on lists read place by place: zeros behind, sums of columns, products with a unit.
use Rattle.std.proofs.Common.{◌≡◌, ℕ, zero, suc, ◌-◌, ◌<◌, ◌≤◌, List, [], ◌∷◌, ◌++◌, map, length, get_or, take, ℤ, pos, ◌+ℤ◌, ◌*ℤ◌, neg_ℤ, ◌≤ℤ◌, sym, refl, ap, ◌∙◌, arith}
use lib.IntN.{*ℤ-zero, zero-*ℤ}
use Rattle.std.specs.List.{AllByRecursion}
use Rattle.std.proofs.ByRecursion.{All-append}
use Rattle.std.proofs.lemmas.List.{length-append, length-map, length-replicate, get_or-set_other}
use Rattle.std.proofs.lemmas.Int.{ints}
use Rattle.arith.specs.Bounds.{Within}
use Rattle.arith.specs.Products.{dot}
use Rattle.arith.proofs.Bounds.{zeros_within}
use Rattle.arith.proofs.Dots.{dot_zero}
use Rattle.control.specs.Limits.{RowLimits}
use Rattle.control.specs.Meaning.{Row as Inequality}
use Rattle.case.specs.Faces.{unit}
use Rattle.case.specs.System.{none}
use Rattle.certificate.specs.Certificates.{scaled, added, column_sums, right_sum}
use Rattle.certificate.proofs.Turns.{column_sums_long}
use Rattle.elimination.specs.Traced.{Source, source_at, source_right}
use Rattle.solve.specs.Solving.{padded}

-- zeros
pub get_or_none : (n j : ℕ) → get_or (none n) j (pos 0) ≡ pos 0
get_or_none zero j = refl
get_or_none (suc n) zero = refl
get_or_none (suc n) (suc j) = get_or_none n j

pub get_d_front : (xs : List ℤ) (n j : ℕ) → get_or (xs ++ none n) j (pos 0) ≡ get_or xs j (pos 0)
get_d_front [] n j = get_or_none n j
get_d_front (x ∷ xs) n zero = refl
get_d_front (x ∷ xs) n (suc j) = get_d_front xs n j

pub padded_long : (width : ℕ) (xs : List ℤ) → length xs ≤ width → length (padded width xs) ≡ width
padded_long width xs l = length-append xs (none (width - length xs)) ∙ omega (arith, length-replicate (width - length xs) (pos 0))

pub padded_within : (m width : ℕ) (xs : List ℤ) → AllByRecursion (Within m) xs → AllByRecursion (Within m) (padded width xs)
padded_within m width xs h = All-append (Within m) xs (none (width - length xs)) h (zeros_within m (width - length xs))

pub zeros_low : (n : ℕ) → AllByRecursion (λ m. pos 0 ≤ℤ m) (none n)
zeros_low zero = tt
zeros_low (suc n) = (omega (arith, ints), zeros_low n)

-- places of multiples and sums
pub get_or_scaled : (m : ℤ) (xs : List ℤ) (j : ℕ) → get_or (scaled m xs) j (pos 0) ≡ m *ℤ get_or xs j (pos 0)
get_or_scaled m [] j = sym (*ℤ-zero m)
get_or_scaled m (x ∷ xs) zero = refl
get_or_scaled m (x ∷ xs) (suc j) = get_or_scaled m xs j

pub get_or_negated : (xs : List ℤ) (j : ℕ) → get_or (map neg_ℤ xs) j (pos 0) ≡ neg_ℤ (get_or xs j (pos 0))
get_or_negated [] j = refl
get_or_negated (x ∷ xs) zero = refl
get_or_negated (x ∷ xs) (suc j) = get_or_negated xs j

get_or_added : (xs ys : List ℤ) (j : ℕ) → length xs ≡ length ys → get_or (added xs ys) j (pos 0) ≡ get_or xs j (pos 0) +ℤ get_or ys j (pos 0)
get_or_added [] [] j e = refl
get_or_added [] (y ∷ ys) j e = absurd (omega arith)
get_or_added (x ∷ xs) [] j e = absurd (omega arith)
get_or_added (x ∷ xs) (y ∷ ys) zero e = refl
get_or_added (x ∷ xs) (y ∷ ys) (suc j) e = get_or_added xs ys j (omega arith)

-- products
pub dot_take : (ms vs : List ℤ) → dot (take (length vs) ms) vs ≡ dot ms vs
dot_take [] [] = refl
dot_take (m ∷ ms) [] = refl
dot_take [] (v ∷ vs) = refl
dot_take (m ∷ ms) (v ∷ vs) = ap (λ (z : ℤ). m *ℤ v +ℤ z) (dot_take ms vs)

pub unit_dot : (m k : ℕ) (vs : List ℤ) → k < m → dot (unit m k (pos 1)) vs ≡ get_or vs k (pos 0)
unit_dot zero k vs l = absurd (omega arith)
unit_dot (suc m) zero [] l = refl
unit_dot (suc m) zero (v ∷ vs) l = omega (arith, ints, dot_zero m vs)
unit_dot (suc m) (suc k) [] l = refl
unit_dot (suc m) (suc k) (v ∷ vs) l = omega (arith, ints, unit_dot m k vs (omega arith), zero-*ℤ v)

pub unit_others : (m k i : ℕ) (z : ℤ) → (i ≡ k → ⊥) → get_or (unit m k z) i (pos 0) ≡ pos 0
unit_others m k i z ne = get_or-set_other (none m) k i z (pos 0) ne ∙ get_or_none m i

-- an inequality as a source of rows
abbrev pub source : Inequality → Source
source r = record { coefficients = r.coefficients; right = r.right }

-- the sums of a proof as products
pub column_at : (width : ℕ) (ms : List ℤ) (rows : List Inequality) (j : ℕ) → AllByRecursion (RowLimits width) rows → get_or (column_sums width ms rows) j (pos 0) ≡ dot ms (map (source_at j) (map source rows))
column_at width [] rows j l = get_or_none width j
column_at width (m ∷ ms) [] j l = get_or_none width j
column_at width (m ∷ ms) (r ∷ rs) j l =
    get_or_added (scaled m r.coefficients) (column_sums width ms rs) j (length-map r.coefficients (λ z. m *ℤ z) ∙ l.0.wide ∙ sym (column_sums_long width ms rs l.1))
    ∙ ap (λ (z : ℤ). z +ℤ get_or (column_sums width ms rs) j (pos 0)) (get_or_scaled m r.coefficients j)
    ∙ ap (λ (z : ℤ). m *ℤ get_or r.coefficients j (pos 0) +ℤ z) (column_at width ms rs j l.1)

pub right_at : (ms : List ℤ) (rows : List Inequality) → right_sum ms rows ≡ dot ms (map source_right (map source rows))
right_at [] rows = refl
right_at (m ∷ ms) [] = refl
right_at (m ∷ ms) (r ∷ rs) = ap (λ (z : ℤ). m *ℤ r.right +ℤ z) (right_at ms rs)
