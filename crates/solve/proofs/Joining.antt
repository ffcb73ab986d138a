-- What each row of the elimination keeps, whatever the size of its numbers, and that joining makes a column 0.
use Rattle.std.proofs.Common.{◌≡◌, ℕ, zero, suc, ◌*◌, ◌/◌, ◌<◌, Bool, true, false, not, ◌&&◌, ◌||◌, ◌⊎◌, List, length, get_or, ℤ, pos, negsuc, ◌+ℤ◌, ◌*ℤ◌, neg_ℤ, nat_abs, ◌≤ℤ◌, ◌<ℤ◌, sym, refl, ap, ◌∙◌, ap₂, inl, inr, mul-pos, arith}
use lib.IntN.{*ℤ-zero, +ℤ_comm}
use lib.Signed.{quot_z}
use Rattle.std.specs.List.{AllByRecursion}
use Rattle.std.proofs.ByRecursion.{All-from_get_or}
use Rattle.std.proofs.lemmas.List.{length-map}
use Rattle.std.proofs.lemmas.Int.{ints, by_lt_z}
use Rattle.std.proofs.lemmas.Bool.{not-false, false≢true}
use Rattle.arith.proofs.Floors.{mul_mono}
use Rattle.arith.proofs.Ring.{*ℤ_assoc, *ℤ_distl}
use Rattle.fourier.specs.Cone.{Place, multiplier, scale, column, right, Vector, Joins, Refutes, Slack, is_zero, is_positive, is_negative}
use Rattle.fourier.specs.Search.{Sane}
use Rattle.fourier.proofs.Signs.{above_of, below_of, times_below, times_at_most, times_is_zero}
use Rattle.elimination.specs.declared.row.Row.{Row}
use Rattle.elimination.specs.Divisors.{gcd}
use Rattle.elimination.specs.Rows.{at, coefficient, blank, dead, weighted, divided, content, joined_sum, joined_row, Weighty}
use Rattle.elimination.specs.Traced.{Source, Traced, ExactRow}
use Rattle.elimination.proofs.Divisors.{gcd_divides, gcd_above}
use Rattle.elimination.proofs.Exact.{exact_nat, exact_get_or, get_or_quotients, traced_weighted, exact_row, traced_reduced}
use Rattle.elimination.proofs.Mixed.{length_mixed, get_or_mixed}
use Rattle.elimination.proofs.Pairs.{low_get_or, sum_above, content_above}
use Rattle.elimination.proofs.Signs.{positive_is, negative_is, positive_above, negative_above, blank_form}
use Rattle.solve.specs.Solving.{live}
use Rattle.solve.proofs.Start.{Idle}

-- lengths, signs, what the row is made of, and zeros behind the first n multipliers
pub record Good (sources : List Source) (face : Source) (n : ℕ) (r : Row) : Type 0 where
  pub long : length r.multipliers ≡ 40
  pub wide : length r.coefficients ≡ 12
  pub multipliers_low : AllByRecursion (λ m. pos 0 ≤ℤ m) r.multipliers
  pub scale_low : pos 0 ≤ℤ r.scale
  pub weighty : Weighty r
  pub traced : Traced sources face r
  pub idle : Idle n r

factor_above : (g x b : ℕ) → g * x ≡ b → 0 < b → 0 < x
factor_above g zero b e h = absurd (omega arith)
factor_above g (suc x) b e h = omega arith

-- places of a combination, and of a row divided without rest
weighted_at : (x y : ℤ) (p q : Row) → length p.multipliers ≡ length q.multipliers → length p.coefficients ≡ length q.coefficients → (i : Place) → at (weighted x y p q) i ≡ x *ℤ at p i +ℤ y *ℤ at q i
weighted_at x y p q e f (multiplier k) = get_or_mixed x y p.multipliers q.multipliers k e
weighted_at x y p q e f scale = refl
weighted_at x y p q e f (column j) = get_or_mixed x y p.coefficients q.coefficients j f
weighted_at x y p q e f right = refl

divided_at : (d : ℕ) (r : Row) → ExactRow d r → (i : Place) → pos d *ℤ at (divided (pos d) r) i ≡ at r i
divided_at d r h (multiplier k) = ap (λ (z : ℤ). pos d *ℤ z) (get_or_quotients d r.multipliers k) ∙ exact_get_or d r.multipliers k h.multipliers
divided_at d r h scale = h.scale
divided_at d r h (column j) = ap (λ (z : ℤ). pos d *ℤ z) (get_or_quotients d r.coefficients j) ∙ exact_get_or d r.coefficients j h.coefficients
divided_at d r h right = h.right

join_step : (d g r s x y a b p q u v : ℤ) → d *ℤ r ≡ s → s ≡ x *ℤ p +ℤ y *ℤ q → g *ℤ x ≡ b → g *ℤ y ≡ a → u ≡ a → v ≡ b → (g *ℤ d) *ℤ r ≡ u *ℤ q +ℤ v *ℤ p
join_step d g r s x y a b p q u v er es ex ey eu ev =
    *ℤ_assoc g d r ∙ ap (λ (z : ℤ). g *ℤ z) (er ∙ es) ∙ *ℤ_distl g (x *ℤ p) (y *ℤ q)
    ∙ ap₂ (λ (m n : ℤ). m +ℤ n) (sym (*ℤ_assoc g x p) ∙ ap (λ (z : ℤ). z *ℤ p) ex) (sym (*ℤ_assoc g y q) ∙ ap (λ (z : ℤ). z *ℤ q) ey)
    ∙ +ℤ_comm (b *ℤ p) (a *ℤ q) ∙ ap₂ (λ (m n : ℤ). m *ℤ q +ℤ n *ℤ p) (sym eu) (sym ev)

-- what a join keeps at a place
module _ (c : ℕ) (p q r : Vector) (j : Joins c p q r) (plus : is_positive (p (column c)) ≡ true) (minus : is_negative (q (column c)) ≡ true) where
  value : (i : Place) → pos j.0 *ℤ r i ≡ pos (suc (above_of (p (column c)) plus).0) *ℤ q i +ℤ pos (suc (below_of (q (column c)) minus).0) *ℤ p i
  value i = j.2 i ∙ ap₂ (λ (m n : ℤ). m *ℤ q i +ℤ n *ℤ p i) (above_of (p (column c)) plus).1 (below_of (q (column c)) minus).1

  join_low : (i : Place) → pos 0 ≤ℤ p i → pos 0 ≤ℤ q i → pos 0 ≤ℤ r i
  join_low i hp hq = by_sign (r i) refl
    where
      m : ℕ
      m = suc (above_of (p (column c)) plus).0

      n : ℕ
      n = suc (below_of (q (column c)) minus).0

      by_sign : (z : ℤ) → r i ≡ z → pos 0 ≤ℤ z
      by_sign (pos t) e = omega (arith, ints)
      by_sign (negsuc t) e =
          absurd (omega (arith, ints, value i, times_below j.0 (r i) j.1 (omega (arith, ints)), mul_mono m (pos 0) (q i) hq, mul_mono n (pos 0) (p i) hp, *ℤ-zero (pos m), *ℤ-zero (pos n)))

  join_above : (i : Place) → pos 0 <ℤ p i → pos 0 ≤ℤ q i → pos 0 <ℤ r i
  join_above i hp hq =
      let m = suc (above_of (p (column c)) plus).0 in
      let n = suc (below_of (q (column c)) minus).0 in
      by_lt_z (pos 0) (r i) (λ t. t)
      (λ t. absurd (omega (arith, ints, value i, times_at_most j.0 (r i) t, sum_above n m (p i) (q i) (omega arith) hp hq)))

  join_zero : (i : Place) → p i ≡ pos 0 → q i ≡ pos 0 → r i ≡ pos 0
  join_zero i hp hq =
      let m = suc (above_of (p (column c)) plus).0 in
      let n = suc (below_of (q (column c)) minus).0 in
      times_is_zero j.0 (r i) j.1
      (value i ∙ ap₂ (λ (y x : ℤ). pos m *ℤ y +ℤ pos n *ℤ x) hq hp ∙ omega (arith, ints, *ℤ-zero (pos m), *ℤ-zero (pos n)))

-- two good rows, positive and negative in column c
module _ (sources : List Source) (face : Source) (n : ℕ) (c : ℕ) (p q : Row) (hp : Good sources face n p) (hq : Good sources face n q) (plus : is_positive (coefficient p c) ≡ true) (minus : is_negative (coefficient q c) ≡ true) where
  abbrev a : ℕ
  a = nat_abs (coefficient p c)

  abbrev b : ℕ
  b = nat_abs (coefficient q c)

  a_above : 0 < a
  a_above = positive_above (coefficient p c) plus

  b_above : 0 < b
  b_above = negative_above (coefficient q c) minus

  g_above : 0 < gcd a b
  g_above = gcd_above a b a_above

  long_same : length p.multipliers ≡ length q.multipliers
  long_same = hp.long ∙ sym hq.long

  wide_same : length p.coefficients ≡ length q.coefficients
  wide_same = hp.wide ∙ sym hq.wide

  x_is : gcd a b * (b / gcd a b) ≡ b
  x_is = exact_nat (gcd a b) b g_above (gcd_divides a b).1

  y_is : gcd a b * (a / gcd a b) ≡ a
  y_is = exact_nat (gcd a b) a g_above (gcd_divides a b).0

  sum_weighty : Weighty (joined_sum c p q)
  sum_weighty =
      let x = b / gcd a b in
      let y = a / gcd a b in
      let l = factor_above (gcd a b) x b x_is b_above in
      elim hp.weighty [
        | inl h ↦ inl (sum_above x y p.scale q.scale l h hq.scale_low)
        | inr h ↦ inr (h.0, rw (get_or_mixed (pos x) (pos y) p.multipliers q.multipliers h.0 long_same) (sum_above x y (get_or p.multipliers h.0 (pos 0)) (get_or q.multipliers h.0 (pos 0)) l h.1 (low_get_or q.multipliers h.0 hq.multipliers_low)))
      ]

  sum_content : 0 < content (joined_sum c p q)
  sum_content = content_above (joined_sum c p q) sum_weighty

  sum_traced : Traced sources face (joined_sum c p q)
  sum_traced = traced_weighted sources face (pos (b / gcd a b)) (pos (a / gcd a b)) p q long_same wide_same hp.traced hq.traced

  pub row_joins : Joins c (at p) (at q) (at (joined_row c p q))
  row_joins =
      let s = joined_sum c p q in
      let x = pos (b / gcd a b) in
      let y = pos (a / gcd a b) in (
        gcd a b * content s,
        mul-pos g_above sum_content,
        λ i. join_step (pos (content s)) (pos (gcd a b)) (at (joined_row c p q) i) (at s i) x y (pos a) (pos b) (at p i) (at q i) (coefficient p c) (neg_ℤ (coefficient q c))
            (divided_at (content s) s (exact_row sources face s sum_content sum_traced) i) (weighted_at x y p q long_same wide_same i) (ap pos x_is) (ap pos y_is)
            (positive_is (coefficient p c) plus) (negative_is (coefficient q c) minus),
      )

  pub row_good : Good sources face n (joined_row c p q)
  row_good =
      let s = joined_sum c p q in
      let r = joined_row c p q in
      let x = pos (b / gcd a b) in
      let y = pos (a / gcd a b) in
      record {
        long = length-map s.multipliers (λ z. quot_z z (pos (content s))) ∙ length_mixed x y p.multipliers q.multipliers long_same ∙ hp.long;
        wide = length-map s.coefficients (λ z. quot_z z (pos (content s))) ∙ length_mixed x y p.coefficients q.coefficients wide_same ∙ hp.wide;
        multipliers_low = All-from_get_or (λ m. pos 0 ≤ℤ m) r.multipliers (pos 0) (λ i l. join_low c (at p) (at q) (at r) row_joins plus minus (multiplier i) (low_get_or p.multipliers i hp.multipliers_low) (low_get_or q.multipliers i hq.multipliers_low));
        scale_low = join_low c (at p) (at q) (at r) row_joins plus minus scale hp.scale_low hq.scale_low;
        weighty = elim hp.weighty [
          | inl h ↦ inl (join_above c (at p) (at q) (at r) row_joins plus minus scale h hq.scale_low)
          | inr h ↦ inr (h.0, join_above c (at p) (at q) (at r) row_joins plus minus (multiplier h.0) h.1 (low_get_or q.multipliers h.0 hq.multipliers_low))
        ];
        traced = traced_reduced sources face s sum_content sum_traced;
        idle = λ i l. join_zero c (at p) (at q) (at r) row_joins plus minus (multiplier i) (hp.idle i l) (hq.idle i l);
      }

-- what the tests say
slack_sides : (s z : ℤ) → (is_negative z || (is_zero z && is_positive s)) ≡ false → (pos 0 <ℤ z) ⊎ ((z ≡ pos 0) × (s ≤ℤ pos 0))
slack_sides (pos zero) (pos zero) e = inr (refl, omega (arith, ints))
slack_sides (pos (suc m)) (pos zero) e = absurd (false≢true (sym e))
slack_sides (negsuc m) (pos zero) e = inr (refl, omega (arith, ints))
slack_sides s (pos (suc n)) e = inl (omega (arith, ints))
slack_sides s (negsuc n) e = absurd (false≢true (sym e))

dead_sides : (s z : ℤ) → (is_negative z || (is_zero z && is_positive s)) ≡ true → (z <ℤ pos 0) ⊎ ((z ≡ pos 0) × (pos 0 <ℤ s))
dead_sides (pos zero) (pos zero) e = absurd (false≢true e)
dead_sides (pos (suc m)) (pos zero) e = inr (refl, omega (arith, ints))
dead_sides (negsuc m) (pos zero) e = absurd (false≢true e)
dead_sides s (pos (suc n)) e = absurd (false≢true e)
dead_sides s (negsuc n) e = inl (omega (arith, ints))

row_spared : (r : Row) → dead r ≡ false → live r ≡ false → Slack (at r)
row_spared r d l =
    let e = not-false (blank r) l in
    ((blank_form r).0 e, slack_sides r.scale r.right (rw e at d))

pub row_refutes : (r : Row) → dead r ≡ true → Refutes (at r)
row_refutes r d = by_test (blank r) refl d
  where
    by_test : (t : Bool) → blank r ≡ t → (t && (is_negative r.right || (is_zero r.right && is_positive r.scale))) ≡ true → Refutes (at r)
    by_test true e k = ((blank_form r).0 e, dead_sides r.scale r.right k)
    by_test false e k = absurd (false≢true k)

-- the elimination is sane for good rows
pub sane : (sources : List Source) (face : Source) (n : ℕ) → Sane at dead live joined_row (Good sources face n)
sane sources face n = record {
  joins = row_joins sources face n;
  keeps = row_good sources face n;
  spared = λ r h. row_spared r;
  bare = λ r h. ap not ((blank_form r).1 h);
  refutes = λ r h. row_refutes r;
}
