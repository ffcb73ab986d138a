-- The permitted next values are the whole numbers from the lowest to the highest.
use Rattle.std.proofs.Common.{◌≡◌, ℕ, ◌+◌, ◌*◌, ◌<◌, ℤ, pos, negsuc, ◌+ℤ◌, ◌-ℤ◌, ◌*ℤ◌, neg_ℤ, ◌≤ℤ◌, ◌<ℤ◌, Some, sym, ap, ◌∙◌, subst, div-le_self, arith, lit<, w64, SFits, to_z, of_z}
use mir.Syntax.{w128}
use Rattle.std.specs.Int.{int_div_euclid}
use Rattle.std.proofs.lemmas.Int.{ints, to_z-of_z}
use Rattle.std.proofs.lemmas.Bool.{cond-true}
use Rattle.arith.specs.Bounds.{Within}
use Rattle.arith.proofs.Bounds.{negated_within}
use Rattle.arith.proofs.Floors.{mul_one, mul_mono, mul_below, floor_low, floor_high}
use Rattle.arith.proofs.Ring.{*ℤ_distl, *ℤ_neg}
use Rattle.case.specs.Next.{Permits, lowest, highest}
use Rattle.motion.specs.Moves.{permitted_values, Exactly}
use Rattle.arith.proofs.Widths.{value_limit, value_within, wide_within, widened}
use Rattle.motion.proofs.Widths.{le_test}

-- y is at most the floor of v / b exactly where b × y is at most v
below_floor : (b : ℕ) (v y : ℤ) → 0 < b → (pos b *ℤ y) ≤ℤ v → y ≤ℤ int_div_euclid v (pos b)
below_floor b v y h le =
    let t = int_div_euclid v (pos b) in
    let e = *ℤ_distl (pos b) t (pos 1) in
    let s : y <ℤ (t +ℤ pos 1) = mul_below b y (t +ℤ pos 1) (omega (arith, ints, floor_high v b h, e, mul_one b)) in
    omega (arith, ints)

floor_below : (b : ℕ) (v y : ℤ) → 0 < b → y ≤ℤ int_div_euclid v (pos b) → (pos b *ℤ y) ≤ℤ v
floor_below b v y h le = omega (arith, ints, mul_mono b y (int_div_euclid v (pos b)) le, floor_low v b h)

pub range_of : (D r v y : ℤ) → pos 1 ≤ℤ D → Permits D r v y → (lowest D r v ≤ℤ y) × (y ≤ℤ highest D r v)
range_of (pos b) r v y one p =
    let h : 0 < b = omega (arith, ints) in
    let low = below_floor b (r -ℤ v) (neg_ℤ y) h (omega (arith, ints, *ℤ_neg (pos b) y)) in
    (omega (arith, ints), below_floor b (v +ℤ r) y h (omega (arith, ints)))
range_of (negsuc b) r v y one p = absurd (omega (arith, ints))

pub permits_of : (D r v y : ℤ) → pos 1 ≤ℤ D → lowest D r v ≤ℤ y → y ≤ℤ highest D r v → Permits D r v y
permits_of (pos b) r v y one l u =
    let h : 0 < b = omega (arith, ints) in
    let low = floor_below b (r -ℤ v) (neg_ℤ y) h (omega (arith, ints)) in
    let high = floor_below b (v +ℤ r) y h u in
    (omega (arith, ints, *ℤ_neg (pos b) y), omega (arith, ints))
permits_of (negsuc b) r v y one l u = absurd (omega (arith, ints))

-- with a leeway that is wide enough there is one
pub some_permitted : (D r v : ℤ) → pos 1 ≤ℤ D → D ≤ℤ (pos 2 *ℤ r +ℤ pos 1) → lowest D r v ≤ℤ highest D r v
some_permitted (pos b) r v one wide =
    let h : 0 < b = omega (arith, ints) in
    let t = int_div_euclid (r -ℤ v) (pos b) in
    below_floor b (v +ℤ r) (neg_ℤ t) h (omega (arith, ints, *ℤ_neg (pos b) t, floor_high (r -ℤ v) b h))
some_permitted (negsuc b) r v one wide = absurd (omega (arith, ints))

-- the laws of a range with the lowest value l and the highest u
pub permitted_is : (D r v l u : ℤ) → pos 1 ≤ℤ D → l ≡ lowest D r v → u ≡ highest D r v → Some (record { lowest = l; highest = u }) ≡ permitted_values D r v
permitted_is D r v l u one e f =
    ap (λ z. Some (record { lowest = z; highest = u })) e ∙ ap (λ z. Some (record { lowest = lowest D r v; highest = z })) f
    ∙ sym (cond-true _ _ _ (le_test (pos 1) D one))

pub exactly : (D r v l u : ℤ) → pos 1 ≤ℤ D → l ≡ lowest D r v → u ≡ highest D r v → Exactly D r v (record { lowest = l; highest = u })
exactly D r v l u one e f y = (
  (λ p. let q = range_of D r v y one p in (subst (λ z. z ≤ℤ y) (sym e) q.0, subst (λ z. y ≤ℤ z) (sym f) q.1)),
  (λ p. permits_of D r v y one (subst (λ z. z ≤ℤ y) e p.0) (subst (λ z. y ≤ℤ z) f p.1)),
)

pub some : (D r v l u : ℤ) → pos 1 ≤ℤ D → l ≡ lowest D r v → u ≡ highest D r v → D ≤ℤ (pos 2 *ℤ r +ℤ pos 1) → l ≤ℤ u
some D r v l u one e f wide = subst (λ z. z ≤ℤ u) (sym e) (subst (λ z. lowest D r v ≤ℤ z) (sym f) (some_permitted D r v one wide))

-- the floor of a quotient is no larger than what is divided
floor_within : (m b : ℕ) (a : ℤ) → Within m a → Within m (int_div_euclid a (pos b))
floor_within m b (pos a) w = (omega (arith, ints), omega (arith, ints, div-le_self a b))
floor_within m b (negsuc a) w = (omega (arith, ints, div-le_self a b), omega (arith, ints))

-- the magnitude of the lowest and of the highest value
pub lowest_within : (m n : ℕ) (D r v : ℤ) → pos 1 ≤ℤ D → Within m r → Within n v → Within (m + n) (lowest D r v)
lowest_within m n (pos b) r v one f g =
    let w : Within (m + n) (r -ℤ v) = (omega (arith, ints, f.0, g.1), omega (arith, ints, f.1, g.0)) in
    negated_within (m + n) (int_div_euclid (r -ℤ v) (pos b)) (floor_within (m + n) b (r -ℤ v) w)
lowest_within m n (negsuc b) r v one f g = absurd (omega (arith, ints))

pub highest_within : (m n : ℕ) (D r v : ℤ) → pos 1 ≤ℤ D → Within m r → Within n v → Within (m + n) (highest D r v)
highest_within m n (pos b) r v one f g =
    let w : Within (m + n) (v +ℤ r) = (omega (arith, ints, f.0, g.0), omega (arith, ints, f.1, g.1)) in
    floor_within (m + n) b (v +ℤ r) w
highest_within m n (negsuc b) r v one f g = absurd (omega (arith, ints))

-- the lowest value as the code computes it
pub lowest_fits : (D r v : ℤ) → pos 1 ≤ℤ D → SFits w64 r → SFits w64 v → SFits w128 (lowest D r v)
lowest_fits D r v one f g = wide_within (value_limit + value_limit) _ (lit< tt) (lowest_within value_limit value_limit D r v one (value_within r f) (value_within v g))

pub widened_difference : (r v x y : ℤ) → SFits w64 r → SFits w64 v → x ≡ to_z w64 (of_z w64 r) → y ≡ to_z w64 (of_z w64 v) → to_z w128 (of_z w128 (to_z w128 (of_z w128 x) -ℤ to_z w128 (of_z w128 y))) ≡ r -ℤ v
widened_difference r v x y f g d e =
    let a = value_within r f in
    let c = value_within v g in
    let m : Within (2 * value_limit) (r -ℤ v) = (omega (arith, ints, a.0, c.1), omega (arith, ints, a.1, c.0)) in
    rw (widened r x f d, widened v y g e) (to_z-of_z w128 (r -ℤ v) (wide_within (2 * value_limit) (r -ℤ v) (lit< tt) m))

pub quotient_read : (p d q a b : ℤ) → q ≡ int_div_euclid p d → p ≡ a → d ≡ b → q ≡ int_div_euclid a b
quotient_read p d q a b e f g = e ∙ ap (λ z. int_div_euclid z d) f ∙ ap (int_div_euclid a) g

pub negated_read : (q : ℤ) → SFits w128 q → pos 0 -ℤ to_z w128 (of_z w128 q) ≡ neg_ℤ q
negated_read q f = let e = to_z-of_z w128 q f in omega (arith, ints)

-- three numbers as the code passes them
pub numbers_read : (F : ℤ → ℤ → ℤ → ℤ) (a b c : ℤ) → SFits w64 a → SFits w64 b → SFits w64 c → F (to_z w64 (of_z w64 a)) (to_z w64 (of_z w64 b)) (to_z w64 (of_z w64 c)) ≡ F a b c
numbers_read F a b c f g h = rw (to_z-of_z w64 a f, to_z-of_z w64 b g, to_z-of_z w64 c h)
