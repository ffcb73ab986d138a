-- What the tests of a sign say, and the sign of a product with a factor above 0.
use Rattle.std.proofs.Common.{◌≡◌, ℕ, zero, suc, ◌<◌, true, ℤ, pos, negsuc, ◌*ℤ◌, neg_ℤ, ◌≤ℤ◌, ◌<ℤ◌, refl, ap, ◌∙◌, arith}
use lib.IntN.{*ℤ-zero}
use Rattle.std.proofs.lemmas.Int.{ints}
use Rattle.std.proofs.lemmas.Bool.{false≢true}
use Rattle.fourier.specs.Cone.{is_zero, is_positive, is_negative}

-- z is above 0
abbrev pub Above : ℤ → Type 0
Above z = (a : ℕ) × (z ≡ pos (suc a))

pub zero_of : (z : ℤ) → is_zero z ≡ true → z ≡ pos 0
zero_of (pos zero) e = refl
zero_of (pos (suc n)) e = absurd (false≢true e)
zero_of (negsuc n) e = absurd (false≢true e)

pub above_of : (z : ℤ) → is_positive z ≡ true → Above z
above_of (pos zero) e = absurd (false≢true e)
above_of (pos (suc n)) e = (n, refl)
above_of (negsuc n) e = absurd (false≢true e)

pub below_of : (z : ℤ) → is_negative z ≡ true → Above (neg_ℤ z)
below_of (pos n) e = absurd (false≢true e)
below_of (negsuc n) e = (n, refl)

pub times_below : (t : ℕ) (x : ℤ) → 0 < t → x <ℤ pos 0 → (pos t *ℤ x) <ℤ pos 0
times_below zero x h k = absurd (omega arith)
times_below (suc t) (pos n) h k = absurd (omega (arith, ints))
times_below (suc t) (negsuc n) h k = omega (arith, ints)

pub times_above : (t : ℕ) (x : ℤ) → 0 < t → pos 0 <ℤ x → pos 0 <ℤ (pos t *ℤ x)
times_above zero x h k = absurd (omega arith)
times_above (suc t) (pos zero) h k = absurd (omega (arith, ints))
times_above (suc t) (pos (suc n)) h k = omega (arith, ints)
times_above (suc t) (negsuc n) h k = absurd (omega (arith, ints))

pub times_zero : (t : ℕ) (x : ℤ) → x ≡ pos 0 → pos t *ℤ x ≡ pos 0
times_zero t x e = ap (λ (y : ℤ). pos t *ℤ y) e ∙ *ℤ-zero (pos t)

pub times_at_most : (t : ℕ) (x : ℤ) → x ≤ℤ pos 0 → (pos t *ℤ x) ≤ℤ pos 0
times_at_most t (pos n) h = let z : n ≡ 0 = omega (arith, ints) in rw z (rw (*ℤ-zero (pos t)) (omega (arith, ints)))
times_at_most t (negsuc n) h = omega (arith, ints)

-- a factor above 0 can be left out
pub times_is_zero : (k : ℕ) (z : ℤ) → 0 < k → pos k *ℤ z ≡ pos 0 → z ≡ pos 0
times_is_zero zero z h e = absurd (omega arith)
times_is_zero (suc k) (pos zero) h e = refl
times_is_zero (suc k) (pos (suc n)) h e = absurd (omega (arith, ints))
times_is_zero (suc k) (negsuc n) h e = absurd (omega (arith, ints))
