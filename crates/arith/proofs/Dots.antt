-- Lemmas on the product of two lists.
use Rattle.std.proofs.Common.{◌≡◌, ℕ, zero, suc, ◌+◌, ◌*◌, ◌<◌, ◌≤◌, List, [], ◌∷◌, ◌++◌, map, length, get_or, drop, set, replicate, ℤ, pos, ◌+ℤ◌, ◌*ℤ◌, sym, refl, ap, ◌∙◌, subst, mul-suc, arith}
use lib.IntN.{zero-*ℤ, *ℤ-zero, +ℤ_idl}
use Rattle.std.specs.List.{AllByRecursion}
use Rattle.std.proofs.lemmas.List.{drop_more, drop_all}
use Rattle.std.proofs.lemmas.Int.{ints}
use Rattle.arith.specs.Bounds.{Within}
use Rattle.arith.specs.Products.{dot}
use Rattle.arith.proofs.Bounds.{product_within}
use Rattle.arith.proofs.Ring.{*ℤ_distl, *ℤ_assoc}

pub dot_append : (a b x y : List ℤ) → length a ≡ length x → dot (a ++ b) (x ++ y) ≡ dot a x +ℤ dot b y
dot_append [] b [] y e = sym (+ℤ_idl (dot b y))
dot_append [] b (z ∷ x) y e = absurd (omega arith)
dot_append (c ∷ a) b [] y e = absurd (omega arith)
dot_append (c ∷ a) b (z ∷ x) y e = omega (arith, ints, dot_append a b x y (omega arith))

-- all coefficients multiplied by s
pub dot_map : (s : ℤ) (g x : List ℤ) → dot (map (λ a. s *ℤ a) g) x ≡ s *ℤ dot g x
dot_map s [] x = sym (*ℤ-zero s)
dot_map s (a ∷ g) [] = sym (*ℤ-zero s)
dot_map s (a ∷ g) (z ∷ x) = omega (arith, ints, dot_map s g x, *ℤ_distl s (a *ℤ z) (dot g x), *ℤ_assoc s a z)

pub dot_zero : (m : ℕ) (u : List ℤ) → dot (replicate m (pos 0)) u ≡ pos 0
dot_zero zero u = refl
dot_zero (suc m) [] = refl
dot_zero (suc m) (z ∷ u) = omega (arith, ints, dot_zero m u, zero-*ℤ z)

-- one coefficient, at place j
pub dot_unit : (m j : ℕ) (o : ℤ) (u : List ℤ) → j < m → length u ≡ m → dot (set (replicate m (pos 0)) j o) u ≡ o *ℤ get_or u j (pos 0)
dot_unit zero j o u lt e = absurd (omega arith)
dot_unit (suc m) j o [] lt e = absurd (omega arith)
dot_unit (suc m) zero o (z ∷ u) lt e = omega (arith, ints, dot_zero m u)
dot_unit (suc m) (suc j) o (z ∷ u) lt e = omega (arith, ints, dot_unit m j o u (omega arith) (omega arith), zero-*ℤ z)

-- the bound of a product
pub dot_within : (b m : ℕ) (g x : List ℤ) → length g ≡ length x → AllByRecursion (Within b) g → AllByRecursion (Within m) x → Within (b * m * length g) (dot g x)
dot_within b m [] x e vg vx = (omega (arith, ints), omega (arith, ints))
dot_within b m (a ∷ g) [] e vg vx = absurd (omega arith)
dot_within b m (a ∷ g) (z ∷ x) e vg vx =
    let p = product_within b m a z vg.0 vx.0 in
    let q = dot_within b m g x (omega arith) vg.1 vx.1 in
    let t : b * m * suc (length g) ≡ b * m + b * m * length g = omega (arith, mul-suc (b * m) (length g)) in
    subst (λ k. Within k (a *ℤ z +ℤ dot g x)) (sym t) (omega (arith, ints, p.0, q.0), omega (arith, ints, p.1, q.1))

-- one term more
pub dot_step : (a b : List ℤ) (i : ℕ) → i < length a → i < length b → dot (drop i a) (drop i b) ≡ get_or a i (pos 0) *ℤ get_or b i (pos 0) +ℤ dot (drop (i + 1) a) (drop (i + 1) b)
dot_step a b i la lb = ap (λ t. dot t (drop i b)) (drop_more a i (pos 0) la) ∙ ap (dot (get_or a i (pos 0) ∷ drop (i + 1) a)) (drop_more b i (pos 0) lb)

pub dot_end : (a b : List ℤ) (i : ℕ) → length a ≤ i → dot (drop i a) (drop i b) ≡ pos 0
dot_end a b i la = ap (λ t. dot t (drop i b)) (drop_all i a la)
