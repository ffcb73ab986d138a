-- Lemmas on the floor of a quotient, and on the order of products.
use Rattle.std.proofs.Common.{◌≡◌, ℕ, zero, suc, ◌/◌, ◌<◌, ℤ, pos, negsuc, ◌+ℤ◌, ◌-ℤ◌, ◌*ℤ◌, ◌≤ℤ◌, ◌<ℤ◌, refl, ap, ◌∙◌, suc-mul, mul_comm, arith}
use lib.IntN.{zero-*ℤ, suc_ℤ-*ℤ, pos-*ℤ-pos, pos-*ℤ-negsuc}
use Rattle.std.specs.Int.{int_div_euclid}
use Rattle.std.proofs.lemmas.Nat.{div-add-mod', mod_below}
use Rattle.std.proofs.lemmas.Int.{ints, by_lt_z}

-- an integer from 1 on is a natural number
pub natural : (z : ℤ) → pos 1 ≤ℤ z → (b : ℕ) × (z ≡ pos b) × (0 < b)
natural (pos b) h = (b, refl, omega (arith, ints))
natural (negsuc b) h = absurd (omega (arith, ints))

pub mul_one : (b : ℕ) → pos b *ℤ pos 1 ≡ pos b
mul_one b = pos-*ℤ-pos b 1 ∙ ap pos (omega arith)

pub mul_mono : (q : ℕ) (a b : ℤ) → a ≤ℤ b → (pos q *ℤ a) ≤ℤ (pos q *ℤ b)
mul_mono zero a b h = omega (arith, ints, zero-*ℤ a, zero-*ℤ b)
mul_mono (suc q) a b h = omega (arith, ints, mul_mono q a b h, suc_ℤ-*ℤ (pos q) a, suc_ℤ-*ℤ (pos q) b)

-- the order of two numbers from that of their products
pub mul_below : (b : ℕ) (f l : ℤ) → (pos b *ℤ f) ≤ℤ (pos b *ℤ l -ℤ pos 1) → f <ℤ l
mul_below b f l h = by_lt_z f l (λ t. t) (λ t. absurd (omega (arith, ints, mul_mono b l f t)))

pub floor_low : (v : ℤ) (b : ℕ) → 0 < b → (pos b *ℤ int_div_euclid v (pos b)) ≤ℤ v
floor_low (pos a) b h = omega (arith, ints, pos-*ℤ-pos b (a / b), div-add-mod' a b, mul_comm b (a / b))
floor_low (negsuc a) b h =
    omega (arith, ints, pos-*ℤ-negsuc b (a / b), mul_comm b (suc (a / b)), suc-mul (a / b) b, div-add-mod' a b, mod_below a b h)

pub floor_high : (v : ℤ) (b : ℕ) → 0 < b → v ≤ℤ (pos b *ℤ int_div_euclid v (pos b) +ℤ pos b -ℤ pos 1)
floor_high (pos a) b h = omega (arith, ints, pos-*ℤ-pos b (a / b), div-add-mod' a b, mul_comm b (a / b), mod_below a b h)
floor_high (negsuc a) b h =
    omega (arith, ints, pos-*ℤ-negsuc b (a / b), mul_comm b (suc (a / b)), suc-mul (a / b) b, div-add-mod' a b, mod_below a b h)
