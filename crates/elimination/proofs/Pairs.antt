-- The row of two rows: its factors, its divisor, and what it keeps.
use Rattle.std.proofs.Common.{◌≡◌, ℕ, zero, suc, ◌*◌, ◌/◌, ◌<◌, ◌≤◌, true, ◌&&◌, List, [], ◌∷◌, get_or, ℤ, pos, negsuc, ◌+ℤ◌, ◌*ℤ◌, nat_abs, ◌≤ℤ◌, ◌<ℤ◌, sym, ◌∙◌, inl, inr, div-le_self, arith}
use lib.IntN.{*ℤ-zero}
use lib.Signed.{quot_z}
use Rattle.std.specs.List.{AllByRecursion}
use Rattle.std.proofs.lemmas.List.{length-map}
use Rattle.std.proofs.lemmas.Int.{ints}
use Rattle.std.proofs.lemmas.Bool.{and_parts}
use Rattle.arith.specs.Bounds.{Within, within, all_within}
use Rattle.arith.proofs.Bounds.{within_from_test, all_from_test, within_wider, all_wider}
use Rattle.arith.proofs.Floors.{mul_mono, mul_one}
use Rattle.elimination.specs.declared.row.Row.{Row}
use Rattle.elimination.specs.Divisors.{gcd, Divides}
use Rattle.elimination.specs.Rows.{multiplier_limit, number_limit, sum_limit, coefficient, mixed, weighted, quotients, content, reduced, joined_sum, joined_row, allowed, Weighty, Proper, Pair}
use Rattle.elimination.specs.Traced.{JoinsExactly}
use Rattle.elimination.proofs.Divisors.{gcd_divides, divides_above, divisor_divides}
use Rattle.elimination.proofs.Exact.{exact_nat, exact_above, content_exact, exact_get_or, get_or_quotients, traced_weighted, exact_row, traced_reduced}
use Rattle.elimination.proofs.Mixed.{holds_at, within_get_or, abs_within, length_mixed, get_or_mixed, sum_within, mixed_within}
use Rattle.elimination.proofs.Signs.{negative_above}

-- a factor of the combination: at least 1, at most the limit
factor_above : (a g : ℕ) → 0 < a → Divides g a → 0 < a / g
factor_above a g h k = go (a / g) (exact_nat g a (divides_above g a k h) k)
  where
    go : (q : ℕ) → g * q ≡ a → 0 < q
    go zero e = absurd (omega arith)
    go (suc q) e = omega arith

pub factor_within : (a g : ℕ) → a ≤ number_limit → Within number_limit (pos (a / g))
factor_within a g h = let l = div-le_self a g in (omega (arith, ints), omega (arith, ints))

-- sums of numbers not below 0
sum_low : (x y : ℕ) (a b : ℤ) → pos 0 ≤ℤ a → pos 0 ≤ℤ b → pos 0 ≤ℤ (pos x *ℤ a +ℤ pos y *ℤ b)
sum_low x y a b h k = omega (arith, ints, mul_mono x (pos 0) a h, mul_mono y (pos 0) b k, *ℤ-zero (pos x), *ℤ-zero (pos y))

pub sum_above : (x y : ℕ) (a b : ℤ) → 0 < x → pos 0 <ℤ a → pos 0 ≤ℤ b → pos 0 <ℤ (pos x *ℤ a +ℤ pos y *ℤ b)
sum_above x y a b l h k = omega (arith, ints, mul_mono x (pos 1) a (omega (arith, ints)), mul_mono y (pos 0) b k, mul_one x, *ℤ-zero (pos y))

mixed_low : (x y : ℕ) (ps qs : List ℤ) → AllByRecursion (λ m. pos 0 ≤ℤ m) ps → AllByRecursion (λ m. pos 0 ≤ℤ m) qs → AllByRecursion (λ m. pos 0 ≤ℤ m) (mixed (pos x) (pos y) ps qs)
mixed_low x y [] qs h k = tt
mixed_low x y (p ∷ ps) [] h k = tt
mixed_low x y (p ∷ ps) (q ∷ qs) h k = (sum_low x y p q h.0 k.0, mixed_low x y ps qs h.1 k.1)

pub low_get_or : (zs : List ℤ) (k : ℕ) → AllByRecursion (λ m. pos 0 ≤ℤ m) zs → pos 0 ≤ℤ get_or zs k (pos 0)
low_get_or zs k h = holds_at (λ m. pos 0 ≤ℤ m) zs k (omega (arith, ints)) h

-- a combination of weighty rows is weighty
weighted_weighty : (x y : ℕ) (p q : Row) → 0 < x → Proper p → Proper q → Weighty (weighted (pos x) (pos y) p q)
weighted_weighty x y p q l hp hq = elim hp.weighty [
  | inl h ↦ inl (sum_above x y p.scale q.scale l h hq.scale_low)
  | inr h ↦ inr (h.0, rw (get_or_mixed (pos x) (pos y) p.multipliers q.multipliers h.0 (hp.long ∙ sym hq.long)) (sum_above x y (get_or p.multipliers h.0 (pos 0)) (get_or q.multipliers h.0 (pos 0)) l h.1 (low_get_or q.multipliers h.0 hq.multipliers_low)))
]

-- the divisor of a weighty row is above 0
pub abs_above : (z : ℤ) → pos 0 <ℤ z → 0 < nat_abs z
abs_above z h = omega (arith, ints)

pub divides_get_or : (d : ℕ) (zs : List ℤ) (k : ℕ) → AllByRecursion (λ z. Divides d (nat_abs z)) zs → Divides d (nat_abs (get_or zs k (pos 0)))
divides_get_or d zs k h = holds_at (λ z. Divides d (nat_abs z)) zs k (0, omega arith) h

pub content_above : (r : Row) → Weighty r → 0 < content r
content_above r w =
    let d = divisor_divides (nat_abs r.scale) r.multipliers in
    elim w [
      | inl h ↦ divides_above (content r) (nat_abs r.scale) d.0 (abs_above r.scale h)
      | inr h ↦ divides_above (content r) (nat_abs (get_or r.multipliers h.0 (pos 0))) (divides_get_or (content r) r.multipliers h.0 d.1) (abs_above (get_or r.multipliers h.0 (pos 0)) h.1)
    ]

-- a weighty row stays so when it is divided
reduced_weighty : (r : Row) → Weighty r → Weighty (reduced r)
reduced_weighty r w =
    let x = content_exact r (content_above r w) in
    elim w [
      | inl h ↦ inl (exact_above (content r) r.scale x.1 h)
      | inr h ↦ inr (h.0, rw (get_or_quotients (content r) r.multipliers h.0) (exact_above (content r) (get_or r.multipliers h.0 (pos 0)) (exact_get_or (content r) r.multipliers h.0 x.0) h.1))
    ]

quotient_low : (d : ℕ) (z : ℤ) → pos 0 ≤ℤ z → pos 0 ≤ℤ quot_z z (pos d)
quotient_low d (pos n) h = omega (arith, ints)
quotient_low d (negsuc n) h = absurd (omega (arith, ints))

quotients_low : (d : ℕ) (zs : List ℤ) → AllByRecursion (λ m. pos 0 ≤ℤ m) zs → AllByRecursion (λ m. pos 0 ≤ℤ m) (quotients (pos d) zs)
quotients_low d [] h = tt
quotients_low d (z ∷ zs) h = (quotient_low d z h.0, quotients_low d zs h.1)

sum_weighty : (c : ℕ) (p q : Row) → Pair c p q → Weighty (joined_sum c p q)
sum_weighty c p q h =
    let a = nat_abs (coefficient p c) in
    let b = nat_abs (coefficient q c) in
    weighted_weighty (b / gcd a b) (a / gcd a b) p q (factor_above b (gcd a b) (negative_above (coefficient q c) h.negative) (gcd_divides a b).1) h.first h.second

pub sum_content : (c : ℕ) (p q : Row) → Pair c p q → 0 < content (joined_sum c p q)
sum_content c p q h = content_above (joined_sum c p q) (sum_weighty c p q h)

-- the numbers of the combination fit
factor_small : (r : Row) (c g : ℕ) → Proper r → Within number_limit (pos (nat_abs (coefficient r c) / g))
factor_small r c g h = factor_within (nat_abs (coefficient r c)) g (abs_within number_limit (coefficient r c) (within_get_or number_limit r.coefficients c h.coefficients))

pub sum_multipliers : (c : ℕ) (p q : Row) → Proper p → Proper q → AllByRecursion (Within sum_limit) (joined_sum c p q).multipliers
sum_multipliers c p q hp hq =
    let g = gcd (nat_abs (coefficient p c)) (nat_abs (coefficient q c)) in
    mixed_within (pos (nat_abs (coefficient q c) / g)) (pos (nat_abs (coefficient p c) / g)) p.multipliers q.multipliers (factor_small q c g hq) (factor_small p c g hp)
    (all_wider multiplier_limit number_limit (omega arith) p.multipliers hp.multipliers) (all_wider multiplier_limit number_limit (omega arith) q.multipliers hq.multipliers)

pub sum_scale : (c : ℕ) (p q : Row) → Proper p → Proper q → Within sum_limit (joined_sum c p q).scale
sum_scale c p q hp hq =
    let g = gcd (nat_abs (coefficient p c)) (nat_abs (coefficient q c)) in
    sum_within (pos (nat_abs (coefficient q c) / g)) p.scale (pos (nat_abs (coefficient p c) / g)) q.scale (factor_small q c g hq) (within_wider multiplier_limit number_limit (omega arith) p.scale hp.scale)
    (factor_small p c g hp) (within_wider multiplier_limit number_limit (omega arith) q.scale hq.scale)

-- the row keeps what its two rows keep
pub joined_proper : (c : ℕ) (p q : Row) → Pair c p q → allowed (joined_row c p q) ≡ true → Proper (joined_row c p q)
joined_proper c p q h e =
    let a = nat_abs (coefficient p c) in
    let b = nat_abs (coefficient q c) in
    let x = b / gcd a b in
    let y = a / gcd a b in
    let m = joined_sum c p q in
    let r = joined_row c p q in
    let t = and_parts (all_within multiplier_limit r.multipliers) (within multiplier_limit r.scale && (all_within number_limit r.coefficients && within number_limit r.right)) e in
    let u = and_parts (within multiplier_limit r.scale) (all_within number_limit r.coefficients && within number_limit r.right) t.1 in
    let v = and_parts (all_within number_limit r.coefficients) (within number_limit r.right) u.1 in
    record {
      long = length-map m.multipliers (λ z. quot_z z (pos (content m))) ∙ length_mixed (pos x) (pos y) p.multipliers q.multipliers (h.first.long ∙ sym h.second.long) ∙ h.first.long;
      wide = length-map m.coefficients (λ z. quot_z z (pos (content m))) ∙ length_mixed (pos x) (pos y) p.coefficients q.coefficients (h.first.wide ∙ sym h.second.wide) ∙ h.first.wide;
      multipliers = all_from_test multiplier_limit r.multipliers t.0;
      scale = within_from_test multiplier_limit r.scale u.0;
      coefficients = all_from_test number_limit r.coefficients v.0;
      right = within_from_test number_limit r.right v.1;
      multipliers_low = quotients_low (content m) m.multipliers (mixed_low x y p.multipliers q.multipliers h.first.multipliers_low h.second.multipliers_low);
      scale_low = quotient_low (content m) m.scale (sum_low x y p.scale q.scale h.first.scale_low h.second.scale_low);
      weighty = reduced_weighty m (sum_weighty c p q h);
    }

pub row_proper : (c : ℕ) (p q r : Row) → Pair c p q → r ≡ joined_row c p q → allowed r ≡ true → Proper r
row_proper c p q r h e t = rw e (joined_proper c p q h (rw e at t))

-- the division is exact, and what is traced stays so
pub joins_exactly : (c : ℕ) (p q : Row) → Pair c p q → JoinsExactly c p q
joins_exactly c p q h system face tp tq =
    let a = nat_abs (coefficient p c) in
    let b = nat_abs (coefficient q c) in
    let t = traced_weighted system face (pos (b / gcd a b)) (pos (a / gcd a b)) p q (h.first.long ∙ sym h.second.long) (h.first.wide ∙ sym h.second.wide) tp tq in
    let e = exact_row system face (joined_sum c p q) (sum_content c p q h) t in
    record { exact = e; traced = traced_reduced system face (joined_sum c p q) (sum_content c p q h) t }
