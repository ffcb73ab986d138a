-- Division without rest: of a row by the greatest common divisor of its multipliers and scale.
use Rattle.std.proofs.Common.{◌≡◌, ℕ, zero, suc, ◌*◌, ◌/◌, ◌<◌, List, [], ◌∷◌, map, length, get_or, ℤ, pos, negsuc, ◌+ℤ◌, ◌-ℤ◌, ◌*ℤ◌, neg_ℤ, nat_abs, ◌<ℤ◌, sym, refl, ap, ◌∙◌, ap₂, mul-div_cancel, arith}
use native.Mathlib.Nat.{zero-div}
use lib.IntN.{*ℤ-zero}
use lib.Signed.{quot_z}
use Rattle.std.specs.List.{AllByRecursion}
use Rattle.std.proofs.ByRecursion.{All-weaker}
use Rattle.std.proofs.lemmas.Int.{ints, by_lt_z}
use Rattle.arith.specs.Products.{dot}
use Rattle.arith.proofs.Floors.{mul_mono}
use Rattle.arith.proofs.Ring.{ring, *ℤ_neg}
use Rattle.elimination.specs.declared.row.Row.{Row}
use Rattle.elimination.specs.Divisors.{Divides}
use Rattle.elimination.specs.Rows.{coefficient, mixed, weighted, quotients, divided, content, reduced}
use Rattle.elimination.specs.Traced.{Source, source_at, source_right, summed, Traced, Exact, ExactRow}
use Rattle.elimination.proofs.Divisors.{divisor_divides}
use Rattle.elimination.proofs.Mixed.{holds_at, get_or_mixed}

-- a number that d divides
pub exact_nat : (d n : ℕ) → 0 < d → Divides d n → d * (n / d) ≡ n
exact_nat d n h k = let e : n / d ≡ k.0 = ap (λ (m : ℕ). m / d) k.1 ∙ mul-div_cancel k.0 h in rw e (omega (arith, k.1))

exact_neg : (d n : ℕ) → d * (suc n / d) ≡ suc n → pos d *ℤ neg_ℤ (pos (suc n / d)) ≡ negsuc n
exact_neg d n e = *ℤ_neg (pos d) (pos (suc n / d)) ∙ ap (λ (m : ℕ). neg_ℤ (pos m)) e

exact : (d : ℕ) (z : ℤ) → 0 < d → Divides d (nat_abs z) → Exact d z
exact d (pos n) h k = ap pos (exact_nat d n h k)
exact d (negsuc n) h k = exact_neg d n (exact_nat d (suc n) h k)

abs_neg : (n : ℕ) → nat_abs (neg_ℤ (pos n)) ≡ n
abs_neg zero = refl
abs_neg (suc n) = refl

abs_product : (d : ℕ) (z : ℤ) → nat_abs (pos d *ℤ z) ≡ nat_abs z * d
abs_product d (pos b) = omega arith
abs_product d (negsuc b) = abs_neg (d * suc b) ∙ omega arith

exact_product : (d : ℕ) (x z : ℤ) → 0 < d → z ≡ pos d *ℤ x → Exact d z
exact_product d x z h e = exact d z h (nat_abs x, ap nat_abs e ∙ abs_product d x)

-- a quotient without rest has the sign of what is divided
pub exact_above : (d : ℕ) (z : ℤ) → Exact d z → pos 0 <ℤ z → pos 0 <ℤ quot_z z (pos d)
exact_above d z e h =
    by_lt_z (pos 0) (quot_z z (pos d)) (λ t. t) (λ t. absurd (omega (arith, ints, e, mul_mono d (quot_z z (pos d)) (pos 0) t, *ℤ-zero (pos d))))

cancel : (d : ℕ) (a b : ℤ) → 0 < d → pos d *ℤ a ≡ pos d *ℤ b → a ≡ b
cancel d a b h e = let z : a -ℤ b ≡ pos 0 = lone d (a -ℤ b) h (minus (pos d) a b e) in omega (arith, ints)
  where
    lone : (k : ℕ) (z : ℤ) → 0 < k → pos k *ℤ z ≡ pos 0 → z ≡ pos 0
    lone zero z h e = absurd (omega arith)
    lone (suc k) (pos zero) h e = refl
    lone (suc k) (pos (suc n)) h e = absurd (omega (arith, ints))
    lone (suc k) (negsuc n) h e = absurd (omega (arith, ints))

    minus : (d a b : ℤ) → d *ℤ a ≡ d *ℤ b → d *ℤ (a -ℤ b) ≡ pos 0
    minus d a b e = simp ring (rw e (omega (arith, ints)))

-- the greatest common divisor of multipliers and scale divides them
pub content_exact : (r : Row) → 0 < content r → AllByRecursion (Exact (content r)) r.multipliers × Exact (content r) r.scale
content_exact r l =
    let h = divisor_divides (nat_abs r.scale) r.multipliers in (
      All-weaker (λ z. Divides (content r) (nat_abs z)) (Exact (content r)) (λ z k. exact (content r) z l k) r.multipliers h.1,
      exact (content r) r.scale l h.0,
    )

-- places
exact_zero : (d : ℕ) → Exact d (pos 0)
exact_zero d = ap (λ (n : ℕ). pos (d * n)) (zero-div d) ∙ *ℤ-zero (pos d)

pub exact_get_or : (d : ℕ) (zs : List ℤ) (i : ℕ) → AllByRecursion (Exact d) zs → Exact d (get_or zs i (pos 0))
exact_get_or d zs i h = holds_at (Exact d) zs i (exact_zero d) h

exact_all : (d : ℕ) (zs : List ℤ) → ((i : ℕ) → Exact d (get_or zs i (pos 0))) → AllByRecursion (Exact d) zs
exact_all d [] h = tt
exact_all d (z ∷ zs) h = (h 0, exact_all d zs (λ i. h (suc i)))

pub get_or_quotients : (d : ℕ) (zs : List ℤ) (i : ℕ) → get_or (quotients (pos d) zs) i (pos 0) ≡ quot_z (get_or zs i (pos 0)) (pos d)
get_or_quotients d [] i = ap pos (sym (zero-div d))
get_or_quotients d (z ∷ zs) zero = refl
get_or_quotients d (z ∷ zs) (suc i) = get_or_quotients d zs i

-- sums over a combination of two rows
mixed_step : (x y a b s u v : ℤ) → (x *ℤ a +ℤ y *ℤ b) *ℤ s +ℤ (x *ℤ u +ℤ y *ℤ v) ≡ x *ℤ (a *ℤ s +ℤ u) +ℤ y *ℤ (b *ℤ s +ℤ v)
mixed_step x y a b s u v = simp ring

mixed_none : (x y : ℤ) → pos 0 ≡ x *ℤ pos 0 +ℤ y *ℤ pos 0
mixed_none x y = omega (arith, ints)

dot_mixed : (x y : ℤ) (ps qs vs : List ℤ) → length ps ≡ length qs → dot (mixed x y ps qs) vs ≡ x *ℤ dot ps vs +ℤ y *ℤ dot qs vs
dot_mixed x y [] [] vs e = mixed_none x y
dot_mixed x y [] (q ∷ qs) vs e = absurd (omega arith)
dot_mixed x y (p ∷ ps) [] vs e = absurd (omega arith)
dot_mixed x y (p ∷ ps) (q ∷ qs) [] e = mixed_none x y
dot_mixed x y (p ∷ ps) (q ∷ qs) (v ∷ vs) e =
    ap (λ (z : ℤ). (x *ℤ p +ℤ y *ℤ q) *ℤ v +ℤ z) (dot_mixed x y ps qs vs (omega arith)) ∙ mixed_step x y p q v (dot ps vs) (dot qs vs)

weighted_step : (x y wp sp wq sq f : ℤ) → x *ℤ (wp +ℤ sp *ℤ f) +ℤ y *ℤ (wq +ℤ sq *ℤ f) ≡ (x *ℤ wp +ℤ y *ℤ wq) +ℤ (x *ℤ sp +ℤ y *ℤ sq) *ℤ f
weighted_step x y wp sp wq sq f = simp ring

summed_weighted : (part : Source → ℤ) (system : List Source) (face : Source) (x y : ℤ) (p q : Row) → length p.multipliers ≡ length q.multipliers
    → x *ℤ summed part system face p +ℤ y *ℤ summed part system face q ≡ summed part system face (weighted x y p q)
summed_weighted part system face x y p q e =
    weighted_step x y (dot p.multipliers (map part system)) p.scale (dot q.multipliers (map part system)) q.scale (part face)
    ∙ ap (λ (z : ℤ). z +ℤ (x *ℤ p.scale +ℤ y *ℤ q.scale) *ℤ part face) (sym (dot_mixed x y p.multipliers q.multipliers (map part system) e))

pub traced_weighted : (system : List Source) (face : Source) (x y : ℤ) (p q : Row) → length p.multipliers ≡ length q.multipliers → length p.coefficients ≡ length q.coefficients
    → Traced system face p → Traced system face q → Traced system face (weighted x y p q)
traced_weighted system face x y p q e f h k = record {
  columns = λ j. get_or_mixed x y p.coefficients q.coefficients j f ∙ ap₂ (λ (a b : ℤ). x *ℤ a +ℤ y *ℤ b) (h.columns j) (k.columns j) ∙ summed_weighted (source_at j) system face x y p q e;
  right = ap₂ (λ (a b : ℤ). x *ℤ a +ℤ y *ℤ b) h.right k.right ∙ summed_weighted source_right system face x y p q e;
}

-- sums over a divided row
quotient_step : (d q s u : ℤ) (m w : ℤ) → d *ℤ q ≡ m → w ≡ d *ℤ u → m *ℤ s +ℤ w ≡ d *ℤ (q *ℤ s +ℤ u)
quotient_step d q s u m w e f = rw (← e) (rw f (simp ring))

dot_quotients : (d : ℕ) (ms vs : List ℤ) → AllByRecursion (Exact d) ms → dot ms vs ≡ pos d *ℤ dot (quotients (pos d) ms) vs
dot_quotients d [] vs h = sym (*ℤ-zero (pos d))
dot_quotients d (m ∷ ms) [] h = sym (*ℤ-zero (pos d))
dot_quotients d (m ∷ ms) (v ∷ vs) h = quotient_step (pos d) (quot_z m (pos d)) v (dot (quotients (pos d) ms) vs) m (dot ms vs) h.0 (dot_quotients d ms vs h.1)

divided_step : (d q f u : ℤ) (s w : ℤ) → d *ℤ q ≡ s → w ≡ d *ℤ u → w +ℤ s *ℤ f ≡ d *ℤ (u +ℤ q *ℤ f)
divided_step d q f u s w e g = rw (← e) (rw g (simp ring))

summed_divided : (part : Source → ℤ) (system : List Source) (face : Source) (d : ℕ) (r : Row) → AllByRecursion (Exact d) r.multipliers → Exact d r.scale
    → summed part system face r ≡ pos d *ℤ summed part system face (divided (pos d) r)
summed_divided part system face d r h k =
    divided_step (pos d) (quot_z r.scale (pos d)) (part face) (dot (quotients (pos d) r.multipliers) (map part system)) r.scale (dot r.multipliers (map part system)) k (dot_quotients d r.multipliers (map part system) h)

-- to divide a traced row leaves no rest, and leaves it traced
quotient_is : (d : ℕ) (z u : ℤ) → 0 < d → z ≡ pos d *ℤ u → quot_z z (pos d) ≡ u
quotient_is d z u l e = cancel d (quot_z z (pos d)) u l (exact_product d u z l e ∙ e)

pub exact_row : (system : List Source) (face : Source) (r : Row) → 0 < content r → Traced system face r → ExactRow (content r) r
exact_row system face r l t =
    let x = content_exact r l in
    record {
      multipliers = x.0;
      scale = x.1;
      coefficients = exact_all (content r) r.coefficients (λ j. exact_product (content r) (summed (source_at j) system face (reduced r)) (coefficient r j) l (t.columns j ∙ summed_divided (source_at j) system face (content r) r x.0 x.1));
      right = exact_product (content r) (summed source_right system face (reduced r)) r.right l (t.right ∙ summed_divided source_right system face (content r) r x.0 x.1);
    }

pub traced_reduced : (system : List Source) (face : Source) (r : Row) → 0 < content r → Traced system face r → Traced system face (reduced r)
traced_reduced system face r l t =
    let x = content_exact r l in
    record {
      columns = λ j. get_or_quotients (content r) r.coefficients j ∙ quotient_is (content r) (coefficient r j) (summed (source_at j) system face (reduced r)) l (t.columns j ∙ summed_divided (source_at j) system face (content r) r x.0 x.1);
      right = quotient_is (content r) r.right (summed source_right system face (reduced r)) l (t.right ∙ summed_divided source_right system face (content r) r x.0 x.1);
    }
