-- Sums and multiples of lists, entry by entry: their laws and bounds.
use Rattle.std.proofs.Common.{◌≡◌, ℕ, zero, suc, ◌+◌, ◌*◌, ◌^◌, ◌<◌, ◌≤◌, List, [], ◌∷◌, length, get_or, ℤ, pos, ◌+ℤ◌, ◌*ℤ◌, refl, ap, ◌∙◌, arith, w64, SFits, to_z, of_z}
use lib.IntN.{zero-*ℤ, +ℤ_assoc, +ℤ_comm}
use Rattle.std.specs.List.{AllByRecursion}
use Rattle.std.proofs.ByRecursion.{All-map, All-weaker}
use Rattle.std.proofs.lemmas.Int.{ints, to_z-of_z}
use Rattle.arith.specs.Bounds.{Within}
use Rattle.arith.proofs.Bounds.{product_within, sfits_within}
use Rattle.case.specs.System.{none}
use Rattle.certificate.specs.Certificates.{scaled, added}

pub added_assoc : (xs ys zs : List ℤ) → added (added xs ys) zs ≡ added xs (added ys zs)
added_assoc [] ys zs = refl
added_assoc (x ∷ xs) [] zs = refl
added_assoc (x ∷ xs) (y ∷ ys) [] = refl
added_assoc (x ∷ xs) (y ∷ ys) (z ∷ zs) = ap (λ t. t ∷ added (added xs ys) zs) (+ℤ_assoc x y z) ∙ ap (λ l. (x +ℤ (y +ℤ z)) ∷ l) (added_assoc xs ys zs)

pub added_comm : (xs ys : List ℤ) → added xs ys ≡ added ys xs
added_comm [] [] = refl
added_comm [] (y ∷ ys) = refl
added_comm (x ∷ xs) [] = refl
added_comm (x ∷ xs) (y ∷ ys) = ap (λ t. t ∷ added xs ys) (+ℤ_comm x y) ∙ ap (λ l. (y +ℤ x) ∷ l) (added_comm xs ys)

-- nothing added
pub added_none : (n : ℕ) (xs : List ℤ) → length xs ≤ n → added xs (none n) ≡ xs
added_none n [] le = refl
added_none zero (x ∷ xs) le = absurd (omega arith)
added_none (suc n) (x ∷ xs) le =
    let e : x +ℤ pos 0 ≡ x = omega (arith, ints) in
    ap (λ t. t ∷ added xs (none n)) e ∙ ap (λ l. x ∷ l) (added_none n xs (omega arith))

pub scaled_zero : (xs : List ℤ) → scaled (pos 0) xs ≡ none (length xs)
scaled_zero [] = refl
scaled_zero (x ∷ xs) = ap (λ t. t ∷ scaled (pos 0) xs) (zero-*ℤ x) ∙ ap (λ l. pos 0 ∷ l) (scaled_zero xs)

-- as many entries, and the entry at each place
pub length_added : (xs ys : List ℤ) → length xs ≡ length ys → length (added xs ys) ≡ length xs
length_added [] ys e = refl
length_added (x ∷ xs) [] e = absurd (omega arith)
length_added (x ∷ xs) (y ∷ ys) e = ap suc (length_added xs ys (omega arith))

pub get_or_added : (xs ys : List ℤ) (i : ℕ) → i < length xs → i < length ys → get_or (added xs ys) i (pos 0) ≡ get_or xs i (pos 0) +ℤ get_or ys i (pos 0)
get_or_added [] ys i l h = absurd (omega arith)
get_or_added (x ∷ xs) [] i l h = absurd (omega arith)
get_or_added (x ∷ xs) (y ∷ ys) zero l h = refl
get_or_added (x ∷ xs) (y ∷ ys) (suc i) l h = get_or_added xs ys i (omega arith) (omega arith)

-- bounds
pub added_within : (m n : ℕ) (xs ys : List ℤ) → AllByRecursion (Within m) xs → AllByRecursion (Within n) ys → AllByRecursion (Within (m + n)) (added xs ys)
added_within m n [] ys v w = tt
added_within m n (x ∷ xs) [] v w = tt
added_within m n (x ∷ xs) (y ∷ ys) v w = (
  (omega (arith, ints, v.0.0, w.0.0), omega (arith, ints, v.0.1, w.0.1)),
  added_within m n xs ys v.1 w.1,
)

pub scaled_within : (m n : ℕ) (z : ℤ) (xs : List ℤ) → Within m z → AllByRecursion (Within n) xs → AllByRecursion (Within (m * n)) (scaled z xs)
scaled_within m n z xs v w = All-map (Within (m * n)) (λ x. z *ℤ x) xs (All-weaker (Within n) (λ x. Within (m * n) (z *ℤ x)) (λ x. product_within m n z x v) xs w)

-- m × x and s + m × x as the code computes them, for numbers within bounds
pub record Computed (s m x : ℤ) : Type 0 where
  pub product_fits : SFits w64 (to_z w64 (of_z w64 m) *ℤ to_z w64 (of_z w64 x))
  pub product : to_z w64 (of_z w64 (to_z w64 (of_z w64 m) *ℤ to_z w64 (of_z w64 x))) ≡ m *ℤ x
  pub sum_fits : SFits w64 (s +ℤ to_z w64 (of_z w64 (to_z w64 (of_z w64 m) *ℤ to_z w64 (of_z w64 x))))
  pub sum : to_z w64 (of_z w64 (s +ℤ to_z w64 (of_z w64 (to_z w64 (of_z w64 m) *ℤ to_z w64 (of_z w64 x))))) ≡ s +ℤ m *ℤ x

pub computed : (n a b : ℕ) (s m x : ℤ) → a < 2 ^ 63 → b < 2 ^ 63 → n + a * b < 2 ^ 63 → Within n s → Within a m → Within b x → Computed s m x
computed n a b s m x la lb l ws wm wx =
    let p = product_within a b m x wm wx in
    let q : Within (n + a * b) (s +ℤ m *ℤ x) = (omega (arith, ints, p.0, ws.0), omega (arith, ints, p.1, ws.1)) in
    let lp : a * b < 2 ^ 63 = omega arith in
    let fm = sfits_within a m la wm in
    let fx = sfits_within b x lb wx in
    let fp = sfits_within (a * b) (m *ℤ x) lp p in
    let fq = sfits_within (n + a * b) (s +ℤ m *ℤ x) l q in
    record { product_fits = simp to_z-of_z fp; product = simp to_z-of_z; sum_fits = simp to_z-of_z fq; sum = simp to_z-of_z }
