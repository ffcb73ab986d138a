-- Lemmas on the signs of numbers, and on rows whose coefficients are all 0.
use Rattle.std.proofs.Common.{◌≡◌, ℕ, zero, suc, ◌<◌, true, false, T, List, [], ◌∷◌, get_or, ℤ, pos, negsuc, neg_ℤ, nat_abs, sym, refl, subst, arith}
use Rattle.std.proofs.lemmas.Int.{ints}
use Rattle.arith.specs.Bounds.{Within, all_within}
use Rattle.arith.proofs.Bounds.{all_from_test}
use Rattle.elimination.specs.declared.row.Row.{Row}
use Rattle.fourier.specs.Cone.{is_zero, is_positive, is_negative}
use Rattle.elimination.specs.Rows.{BlankForm}
use Rattle.elimination.proofs.Mixed.{within_get_or}

pub false_true : {P : Type 0} → false ≡ true → P
false_true e = absurd (subst T (sym e) tt)

-- a test, as a fact
pub zero_is : (z : ℤ) → is_zero z ≡ true → z ≡ pos 0
zero_is (pos zero) e = refl
zero_is (pos (suc n)) e = false_true e
zero_is (negsuc n) e = false_true e

pub positive_is : (z : ℤ) → is_positive z ≡ true → z ≡ pos (nat_abs z)
positive_is (pos n) e = refl
positive_is (negsuc n) e = false_true e

pub negative_is : (z : ℤ) → is_negative z ≡ true → neg_ℤ z ≡ pos (nat_abs z)
negative_is (pos n) e = false_true e
negative_is (negsuc n) e = refl

pub positive_above : (z : ℤ) → is_positive z ≡ true → 0 < nat_abs z
positive_above (pos zero) e = false_true e
positive_above (pos (suc n)) e = omega arith
positive_above (negsuc n) e = false_true e

pub negative_above : (z : ℤ) → is_negative z ≡ true → 0 < nat_abs z
negative_above (pos n) e = false_true e
negative_above (negsuc n) e = omega arith

-- of the three tests exactly one passes
pub positive_only : (z : ℤ) → is_positive z ≡ true → (is_zero z ≡ false) × (is_negative z ≡ false)
positive_only (pos zero) e = false_true e
positive_only (pos (suc n)) e = (refl, refl)
positive_only (negsuc n) e = false_true e

pub negative_left : (z : ℤ) → is_zero z ≡ false → is_positive z ≡ false → is_negative z ≡ true
negative_left (pos zero) e f = sym e
negative_left (pos (suc n)) e f = sym f
negative_left (negsuc n) e f = refl

-- all coefficients are 0
zero_within : (z : ℤ) → Within 0 z → z ≡ pos 0
zero_within z w = omega (arith, ints, w.0, w.1)

zeros_pass : (zs : List ℤ) → ((j : ℕ) → get_or zs j (pos 0) ≡ pos 0) → all_within 0 zs ≡ true
zeros_pass [] h = refl
zeros_pass (z ∷ zs) h = rw (h 0) (zeros_pass zs (λ j. h (suc j)))

pub blank_form : (r : Row) → BlankForm r
blank_form r = ((λ e j. zero_within (get_or r.coefficients j (pos 0)) (within_get_or 0 r.coefficients j (all_from_test 0 r.coefficients e))), zeros_pass r.coefficients)
