-- Lemmas on numbers of 64 bits in arithmetic on 128 bits.
use Rattle.std.proofs.Common.{◌≡◌, Bool, true, not, ℤ, ◌≤ℤ◌, ap, ◌∙◌, arith, w64, SFits, to_z, of_z}
use lib.Signed.{lt_z, le_z}
use Rattle.std.proofs.lemmas.Int.{ints, to_z-of_z}

-- the test of an order
pub le_test : (a b : ℤ) → a ≤ℤ b → le_z a b ≡ true
le_test a b h = grind (arith, ints)

-- an order of two numbers as the code tests it
order_tests : (a b : ℤ) → le_z b a ≡ not (lt_z a b)
order_tests a b = grind (arith, ints)

pub not_above : (a b : ℤ) (t : Bool) → SFits w64 a → SFits w64 b → lt_z (to_z w64 (of_z w64 a)) (to_z w64 (of_z w64 b)) ≡ t → le_z b a ≡ not t
not_above a b t f g h = let e : lt_z a b ≡ t = simp to_z-of_z at h in order_tests a b ∙ ap not e

pub same_order : (p q a b : ℤ) → p ≡ a → q ≡ b → le_z p q ≡ le_z a b
same_order p q a b e f = ap (λ z. le_z z q) e ∙ ap (le_z a) f
