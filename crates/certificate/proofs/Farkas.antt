-- Multipliers that prove a face from rows: where the rows hold, so does the face.
use Rattle.std.proofs.Common.{◌≡◌, ℕ, zero, suc, ◌+◌, ◌≤◌, List, [], ◌∷◌, ◌++◌, length, ℤ, pos, negsuc, ◌+ℤ◌, ◌*ℤ◌, ◌≤ℤ◌, refl, ap, ◌∙◌, subst, arith}
use lib.IntN.{zero-*ℤ}
use Rattle.std.specs.List.{AllByRecursion}
use Rattle.std.proofs.lemmas.List.{append_assoc, length-append, length-map, length-replicate}
use Rattle.std.proofs.lemmas.Int.{ints, by_lt_z}
use Rattle.arith.specs.Products.{dot}
use Rattle.arith.proofs.Dots.{dot_map, dot_zero}
use Rattle.arith.proofs.Floors.{mul_mono, mul_one}
use Rattle.arith.proofs.Ring.{*ℤ_distl, *ℤ_distr}
use Rattle.control.specs.Cover.{Holds}
use Rattle.control.specs.Meaning.{Row}
use Rattle.case.specs.System.{column_count, none}
use Rattle.case.specs.Values.{CaseValues, state_count, push_count}
use Rattle.system.proofs.Rows.{dot_back}
use Rattle.certificate.specs.Certificates.{scaled, added, column_sums, right_sum, face_over_next, Proves}

-- the product of a sum, where the sum has a coefficient for each value
dot_nil : (c : List ℤ) → dot c [] ≡ pos 0
dot_nil [] = refl
dot_nil (x ∷ c) = refl

pub dot_added : (a b v : List ℤ) → length v ≤ length (added a b) → dot (added a b) v ≡ dot a v +ℤ dot b v
dot_added [] b [] le = omega (arith, ints, dot_nil b)
dot_added [] b (z ∷ v) le = absurd (omega arith)
dot_added (x ∷ a) [] [] le = refl
dot_added (x ∷ a) [] (z ∷ v) le = absurd (omega arith)
dot_added (x ∷ a) (y ∷ b) [] le = refl
dot_added (x ∷ a) (y ∷ b) (z ∷ v) le = omega (arith, ints, dot_added a b v (omega arith), *ℤ_distr x y z)

pub added_short : (a b : List ℤ) → length (added a b) ≤ length b
added_short [] b = omega arith
added_short (x ∷ a) [] = omega arith
added_short (x ∷ a) (y ∷ b) = omega (arith, added_short a b)

-- rows that hold, each multiplied by a number not below 0, hold in their sum
pub combined : (width : ℕ) (v ms : List ℤ) (rows : List Row) → length v ≤ length (column_sums width ms rows) → AllByRecursion (λ m. pos 0 ≤ℤ m) ms → AllByRecursion (Holds v) rows → dot (column_sums width ms rows) v ≤ℤ right_sum ms rows
combined width v [] rows le low holds = omega (arith, ints, dot_zero width v)
combined width v (m ∷ ms) [] le low holds = omega (arith, ints, dot_zero width v)
combined width v (negsuc q ∷ ms) (r ∷ rows) le low holds = absurd (omega (arith, ints, low.0))
combined width v (pos q ∷ ms) (r ∷ rows) le low holds =
    let c = r.coefficients in
    let rest = column_sums width ms rows in
    let long : length v ≤ length rest = omega (arith, le, added_short (scaled (pos q) c) rest) in
    omega (
      arith,
      ints,
      dot_added (scaled (pos q) c) rest v le,
      dot_map (pos q) c v,
      mul_mono q (dot c v) r.right holds.0,
      combined width v ms rows long low.1 holds.1,
    )

-- a factor above 0 can be cancelled
pub cancelled : (q : ℕ) (a b : ℤ) → (pos (suc q) *ℤ a) ≤ℤ (pos (suc q) *ℤ b) → a ≤ℤ b
cancelled q a b h =
    by_lt_z b a
    (λ t. let more : (b +ℤ pos 1) ≤ℤ a = omega (arith, ints) in
    absurd (omega (arith, ints, mul_mono (suc q) (b +ℤ pos 1) a more, *ℤ_distl (pos (suc q)) b (pos 1), mul_one (suc q))))
    (λ t. t)

-- the sum of a proof, over the values of the state, the command, the pushes and the next state
module _ (k : CaseValues) (x u w y : List ℤ) (ex : length x ≡ state_count k) (eu : length u ≡ k.inputs) (ew : length w ≡ push_count k) (ey : length y ≡ state_count k) where
  values_long : length (x ++ (u ++ (w ++ y))) ≡ column_count k
  values_long = simp length-append (omega arith)

  next_long : (face : Row) → length face.coefficients ≡ state_count k → length (face_over_next k face) ≡ column_count k
  next_long face e =
      let z = state_count k + k.inputs + push_count k in
      length-append (none z) face.coefficients ∙ omega (arith, length-replicate z (pos 0))

  dot_next_face : (face : Row) → dot (face_over_next k face) (x ++ (u ++ (w ++ y))) ≡ dot face.coefficients y
  dot_next_face face =
      let front = x ++ (u ++ w) in
      let regroup : front ++ y ≡ x ++ (u ++ (w ++ y)) = append_assoc x (u ++ w) y ∙ ap (λ t. x ++ t) (append_assoc u w y) in
      let long : length front ≡ state_count k + k.inputs + push_count k = simp length-append (omega arith) in
      subst (λ v. dot (face_over_next k face) v ≡ dot face.coefficients y) regroup (dot_back (state_count k + k.inputs + push_count k) face.coefficients front y long)

  -- scale × face is at most the sum of the right sides
  summed : (rows : List Row) (face : Row) (scale : ℤ) (ms : List ℤ) → length face.coefficients ≡ state_count k → Proves k rows face scale ms → AllByRecursion (Holds (x ++ (u ++ (w ++ y)))) rows → (scale *ℤ dot face.coefficients y) ≤ℤ right_sum ms rows
  summed rows face scale ms ef p holds =
      let v = x ++ (u ++ (w ++ y)) in
      let f = face_over_next k face in
      let n = column_count k in
      let long : length v ≤ length (column_sums n ms rows) = omega (arith, values_long, ap length p.columns, length-map f (λ z. scale *ℤ z), next_long face ef) in
      let total : dot (column_sums n ms rows) v ≡ scale *ℤ dot face.coefficients y =
      ap (λ c. dot c v) p.columns ∙ dot_map scale f v ∙ ap (λ d. scale *ℤ d) (dot_next_face face) in
      subst (λ d. d ≤ℤ right_sum ms rows) total (combined n v ms rows long p.each_low holds)

  -- the face holds of the next state: by a scale above 0, or because the rows cannot hold together
  pub proved_face : (rows : List Row) (face : Row) (scale : ℤ) (ms : List ℤ) → length face.coefficients ≡ state_count k → Proves k rows face scale ms → AllByRecursion (Holds (x ++ (u ++ (w ++ y)))) rows → Holds y face
  proved_face rows face (negsuc q) ms ef p holds = absurd (omega (arith, ints, p.scale_low))
  proved_face rows face (pos zero) ms ef p holds =
      absurd (omega (arith, ints, summed rows face (pos zero) ms ef p holds, zero-*ℤ (dot face.coefficients y), p.strict refl))
  proved_face rows face (pos (suc q)) ms ef p holds =
      cancelled q (dot face.coefficients y) face.right (omega (arith, ints, summed rows face (pos (suc q)) ms ef p holds, p.right))
