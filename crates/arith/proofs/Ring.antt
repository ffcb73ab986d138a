-- The laws of a commutative ring for the integers, and the set of them for `simp`.
use Rattle.std.proofs.Common.{◌≡◌, ℕ, ◌+◌, ◌*◌, ℤ, ◌+ℤ◌, ◌*ℤ◌, neg_ℤ, ap, ◌∙◌, arith}
use lib.IntN.{+ℤ_assoc, +ℤ_comm, *ℤ_comm}
use borrow.Author.Differences.{up, down, same_in, sum_is_lem, neg_is, product_is, ints}

up_mul : (a b : ℤ) → up (a *ℤ b) ≡ up a * up b + down a * down b
up_mul a b = (product_is a b).0

down_mul : (a b : ℤ) → down (a *ℤ b) ≡ up a * down b + down a * up b
down_mul a b = (product_is a b).1

up_neg : (a : ℤ) → up (neg_ℤ a) ≡ down a
up_neg a = (neg_is a).0

down_neg : (a : ℤ) → down (neg_ℤ a) ≡ up a
down_neg a = (neg_is a).1

pub *ℤ_assoc : (a b c : ℤ) → (a *ℤ b) *ℤ c ≡ a *ℤ (b *ℤ c)
*ℤ_assoc a b c = same_in _ _ (simp (up_mul, down_mul) (omega arith))

pub *ℤ_distl : (a b c : ℤ) → a *ℤ (b +ℤ c) ≡ a *ℤ b +ℤ a *ℤ c
*ℤ_distl a b c =
    let s = sum_is_lem b c in
    let t = sum_is_lem (a *ℤ b) (a *ℤ c) in
    let x = ap (λ (n : ℕ). up a * n) s in
    let y = ap (λ (n : ℕ). down a * n) s in
    same_in _ _ (simp (up_mul, down_mul) (omega (arith, simp (up_mul, down_mul) at t)))

pub *ℤ_distr : (a b c : ℤ) → (a +ℤ b) *ℤ c ≡ a *ℤ c +ℤ b *ℤ c
*ℤ_distr a b c = *ℤ_comm (a +ℤ b) c ∙ *ℤ_distl c a b ∙ ap (λ (x : ℤ). x +ℤ c *ℤ b) (*ℤ_comm c a) ∙ ap (λ (x : ℤ). a *ℤ c +ℤ x) (*ℤ_comm c b)

pub *ℤ_left_comm : (a b c : ℤ) → a *ℤ (b *ℤ c) ≡ b *ℤ (a *ℤ c)
*ℤ_left_comm a b c = same_in _ _ (simp (up_mul, down_mul) (omega arith))

pub +ℤ_left_comm : (a b c : ℤ) → a +ℤ (b +ℤ c) ≡ b +ℤ (a +ℤ c)
+ℤ_left_comm a b c = omega (arith, ints)

pub *ℤ_neg : (a b : ℤ) → a *ℤ neg_ℤ b ≡ neg_ℤ (a *ℤ b)
*ℤ_neg a b = same_in _ _ (simp (up_neg, down_neg, up_mul, down_mul, up_neg, down_neg) (omega arith))

pub neg-*ℤ : (a b : ℤ) → neg_ℤ a *ℤ b ≡ neg_ℤ (a *ℤ b)
neg-*ℤ a b = same_in _ _ (simp (up_neg, down_neg, up_mul, down_mul) (omega arith))

pub neg-+ℤ : (a b : ℤ) → neg_ℤ (a +ℤ b) ≡ neg_ℤ a +ℤ neg_ℤ b
neg-+ℤ a b = omega (arith, ints)

-- multiplied out, with factors and terms in one order
pub ruleset ring = (*ℤ_distl, *ℤ_distr, *ℤ_assoc, *ℤ_left_comm, *ℤ_comm, *ℤ_neg, neg-*ℤ, neg-+ℤ, +ℤ_assoc, +ℤ_left_comm, +ℤ_comm)
