-- Lemmas on lists combined and divided place by place, and on the numbers that code makes of them.
use Rattle.std.proofs.Common.{◌≡◌, ℕ, zero, suc, ◌+◌, ◌*◌, ◌<◌, ◌≤◌, List, [], ◌∷◌, ◌++◌, length, get_or, take, drop, set, ℤ, pos, negsuc, ◌+ℤ◌, ◌*ℤ◌, nat_abs, ◌<ℤ◌, sym, refl, ap, ◌∙◌, div-le_self, arith, lit<, w64, SFits, to_z, of_z}
use lib.Signed.{quot_z}
use borrow.Author.Differences.{up, down}
use Rattle.std.specs.List.{AllByRecursion}
use Rattle.std.proofs.lemmas.List.Edits.{fill_by_more, map_over_more}
use Rattle.std.proofs.lemmas.List.{ext_get_or, get_or_default}
use Rattle.std.proofs.lemmas.Int.{ints, to_z-of_z}
use Rattle.arith.specs.Bounds.{Within}
use Rattle.arith.proofs.Bounds.{sfits_within, product_within}
use Rattle.elimination.specs.Rows.{number_limit, sum_limit, mixed, quotients}

-- what holds of 0 and of each entry holds at every place
pub holds_at : (P : ℤ → Type 0) (zs : List ℤ) (i : ℕ) → P (pos 0) → AllByRecursion P zs → P (get_or zs i (pos 0))
holds_at P [] i o h = o
holds_at P (z ∷ zs) zero o h = h.0
holds_at P (z ∷ zs) (suc i) o h = holds_at P zs i o h.1

pub within_get_or : (m : ℕ) (zs : List ℤ) (i : ℕ) → AllByRecursion (Within m) zs → Within m (get_or zs i (pos 0))
within_get_or m zs i h = holds_at (Within m) zs i (omega (arith, ints), omega (arith, ints)) h

pub abs_within : (m : ℕ) (z : ℤ) → Within m z → nat_abs z ≤ m
abs_within m z w = omega (arith, ints, w.0, w.1)

pub all_abs_within : (m : ℕ) (zs : List ℤ) → AllByRecursion (Within m) zs → AllByRecursion (λ z. nat_abs z ≤ m) zs
all_abs_within m [] h = tt
all_abs_within m (z ∷ zs) h = (abs_within m z h.0, all_abs_within m zs h.1)

-- places of a combination
pub length_mixed : (x y : ℤ) (ps qs : List ℤ) → length ps ≡ length qs → length (mixed x y ps qs) ≡ length ps
length_mixed x y [] qs e = refl
length_mixed x y (p ∷ ps) [] e = absurd (omega arith)
length_mixed x y (p ∷ ps) (q ∷ qs) e = ap suc (length_mixed x y ps qs (omega arith))

pub get_or_mixed : (x y : ℤ) (ps qs : List ℤ) (i : ℕ) → length ps ≡ length qs → get_or (mixed x y ps qs) i (pos 0) ≡ x *ℤ get_or ps i (pos 0) +ℤ y *ℤ get_or qs i (pos 0)
get_or_mixed x y [] [] i e = omega (arith, ints)
get_or_mixed x y [] (q ∷ qs) i e = absurd (omega arith)
get_or_mixed x y (p ∷ ps) [] i e = absurd (omega arith)
get_or_mixed x y (p ∷ ps) (q ∷ qs) zero e = refl
get_or_mixed x y (p ∷ ps) (q ∷ qs) (suc i) e = get_or_mixed x y ps qs i (omega arith)

mixed_all : (x y : ℤ) (out ps qs : List ℤ) (n : ℕ) → length ps ≡ length out → length qs ≡ length out → n ≡ length out
    → ((i : ℕ) → i < n → get_or out i (pos 0) ≡ x *ℤ get_or ps i (pos 0) +ℤ y *ℤ get_or qs i (pos 0)) → out ≡ mixed x y ps qs
mixed_all x y out ps qs n p q e h =
    let m = length_mixed x y ps qs (p ∙ sym q) in
    ext_get_or (pos 0) out (mixed x y ps qs) (omega arith) (λ i l. h i (omega arith) ∙ sym (get_or_mixed x y ps qs i (p ∙ sym q)))

-- the size of a combination
pub sum_within : (x a y b : ℤ) → Within number_limit x → Within number_limit a → Within number_limit y → Within number_limit b → Within sum_limit (x *ℤ a +ℤ y *ℤ b)
sum_within x a y b hx ha hy hb =
    let p = product_within number_limit number_limit x a hx ha in
    let q = product_within number_limit number_limit y b hy hb in
    (omega (arith, ints, p.0, q.0), omega (arith, ints, p.1, q.1))

pub mixed_within : (x y : ℤ) (ps qs : List ℤ) → Within number_limit x → Within number_limit y → AllByRecursion (Within number_limit) ps → AllByRecursion (Within number_limit) qs → AllByRecursion (Within sum_limit) (mixed x y ps qs)
mixed_within x y [] qs hx hy hp hq = tt
mixed_within x y (p ∷ ps) [] hx hy hp hq = tt
mixed_within x y (p ∷ ps) (q ∷ qs) hx hy hp hq = (sum_within x p y q hx hp.0 hy hq.0, mixed_within x y ps qs hx hy hp.1 hq.1)

-- the numbers that code makes of x × a + y × b fit
pub record SumFits (x a y b : ℤ) : Type 0 where
  pub first : SFits w64 (x *ℤ a)
  pub second : SFits w64 (y *ℤ b)
  pub sum : SFits w64 (x *ℤ a +ℤ y *ℤ b)

product_fits : (a b : ℤ) → Within number_limit a → Within number_limit b → SFits w64 (a *ℤ b)
product_fits a b ha hb = sfits_within (number_limit * number_limit) (a *ℤ b) (lit< tt) (product_within number_limit number_limit a b ha hb)

pub sum_of : (x a y b : ℤ) → Within number_limit x → Within number_limit a → Within number_limit y → Within number_limit b → SumFits x a y b
sum_of x a y b hx ha hy hb = record { first = product_fits x a hx ha; second = product_fits y b hy hb; sum = sfits_within sum_limit _ (lit< tt) (sum_within x a y b hx ha hy hb) }

-- x × a + y × b, with x and y from their bits
factors_read : (x y a b : ℤ) → SFits w64 x → SFits w64 y → to_z w64 (of_z w64 x) *ℤ a +ℤ to_z w64 (of_z w64 y) *ℤ b ≡ x *ℤ a +ℤ y *ℤ b
factors_read x y a b fx fy = simp to_z-of_z

-- the first k places of out are x × ps + y × qs
abbrev pub MixedTo : ℤ → ℤ → List ℤ → List ℤ → List ℤ → ℕ → Type 0
MixedTo x y ps qs out k = (i : ℕ) → i < k → get_or out i (pos 0) ≡ x *ℤ get_or ps i (pos 0) +ℤ y *ℤ get_or qs i (pos 0)

pub mixed_more : (x y : ℤ) (sum ps qs : List ℤ) (k : ℕ) (v : ℤ) → k < length sum → v ≡ x *ℤ get_or ps k (pos 0) +ℤ y *ℤ get_or qs k (pos 0) → MixedTo x y ps qs sum k → MixedTo x y ps qs (set sum k v) (k + 1)
mixed_more x y sum ps qs k v l e inv = rw e (fill_by_more (λ (j : ℕ). x *ℤ get_or ps j (pos 0) +ℤ y *ℤ get_or qs j (pos 0)) sum k (pos 0) l inv)

pub mixed_done : (x y : ℤ) (out ps qs : List ℤ) (n : ℕ) → SFits w64 x → SFits w64 y → length ps ≡ length out → length qs ≡ length out → n ≡ length out → MixedTo (to_z w64 (of_z w64 x)) (to_z w64 (of_z w64 y)) ps qs out n → out ≡ mixed x y ps qs
mixed_done x y out ps qs n fx fy p q e inv = mixed_all x y out ps qs n p q e (λ j m. inv j m ∙ factors_read x y (get_or ps j (pos 0)) (get_or qs j (pos 0)) fx fy)

-- quotients
quot_fits : (z d : ℤ) → SFits w64 z → pos 0 <ℤ d → SFits w64 (quot_z z d)
quot_fits z (pos d) f h = omega (arith, ints, div-le_self (up z) d, div-le_self (down z) d)
quot_fits z (negsuc d) f h = absurd (omega (arith, ints))

pub quotients_more : (d : ℤ) (xs ys : List ℤ) (i : ℕ) → SFits w64 d → pos 0 <ℤ d → SFits w64 (get_or ys i (pos 0)) → i < length xs → i < length ys
    → ys ≡ quotients (to_z w64 (of_z w64 d)) (take i xs) ++ drop i xs
    → set ys i (to_z w64 (of_z w64 (quot_z (to_z w64 (of_z w64 (get_or ys i (pos 0)))) (to_z w64 (of_z w64 d))))) ≡ quotients (to_z w64 (of_z w64 d)) (take (i + 1) xs) ++ drop (i + 1) xs
quotients_more d xs ys i fd h fz l m e =
    let fq = quot_fits (get_or ys i (pos 0)) d fz h in
    let step = map_over_more (λ (z : ℤ). quot_z z d) xs ys i (get_or ys i (pos 0)) l (simp to_z-of_z at e) (get_or_default ys i (pos 0) (get_or ys i (pos 0)) m) in
    simp to_z-of_z step
