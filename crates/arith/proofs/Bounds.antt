-- Lemmas on bounded integers: tests, products, and what fits the code's numbers.
use Rattle.std.proofs.Common.{◌≡◌, ℕ, zero, suc, ◌*◌, ◌^◌, ◌<◌, ◌≤◌, true, false, T, leb, ◌⊎◌, List, [], ◌∷◌, length, get_or, replicate, ℤ, pos, negsuc, ◌+ℤ◌, ◌-ℤ◌, ◌*ℤ◌, neg_ℤ, nat_abs, ◌≤ℤ◌, ◌<ℤ◌, sym, refl, subst, inl, inr, arith, w64, SFits, to_z, of_z}
use lib.IntN.{pos-*ℤ-pos, pos-*ℤ-negsuc, negsuc-*ℤ-pos, negsuc-*ℤ-negsuc}
use lib.Signed.{le_z}
use Rattle.std.specs.List.{AllByRecursion}
use Rattle.std.proofs.lemmas.Nat.{mul-le}
use Rattle.std.proofs.ByRecursion.{All-weaker}
use Rattle.std.proofs.lemmas.Int.{ints, to_z-of_z}
use Rattle.std.proofs.lemmas.Bool.{and_parts, and_from}
use Rattle.std.proofs.lemmas.Bool.Decides.{nat_tests}
use Rattle.arith.specs.Bounds.{Within, within, all_within}

pub le_z_true : (a b : ℤ) → le_z a b ≡ true → a ≤ℤ b
le_z_true a b e = grind (arith, ints)

pub le_z_false : (a b : ℤ) → le_z a b ≡ false → b <ℤ a
le_z_false a b e = grind (arith, ints)

-- a test that passes
pub within_from_test : (m : ℕ) (z : ℤ) → within m z ≡ true → Within m z
within_from_test m z e = let p = and_parts _ _ e in (record { le = subst T (sym p.0) tt }, record { le = subst T (sym p.1) tt })

-- and the test of what is within
pub test_from_within : (m : ℕ) (z : ℤ) → neg_ℤ (pos m) ≤ℤ z → z ≤ℤ pos m → within m z ≡ true
test_from_within m z lo hi =
    let a : le_z (neg_ℤ (pos m)) z ≡ true = grind (arith, ints) in
    let b : le_z z (pos m) ≡ true = grind (arith, ints) in
    and_from (le_z (neg_ℤ (pos m)) z) (le_z z (pos m)) a b

pub all_from_test : (m : ℕ) (zs : List ℤ) → all_within m zs ≡ true → AllByRecursion (Within m) zs
all_from_test m [] e = tt
all_from_test m (z ∷ zs) e = let p = and_parts (within m z) (all_within m zs) e in (within_from_test m z p.0, all_from_test m zs p.1)

pub test_from_all : (m : ℕ) (zs : List ℤ) → AllByRecursion (Within m) zs → all_within m zs ≡ true
test_from_all m [] w = refl
test_from_all m (z ∷ zs) w = and_from (within m z) (all_within m zs) (test_from_within m z w.0.0 w.0.1) (test_from_all m zs w.1)

pub all_within_at : (m : ℕ) (zs : List ℤ) (i : ℕ) → i < length zs → all_within m zs ≡ true → within m (get_or zs i (pos 0)) ≡ true
all_within_at m [] i lt e = absurd (omega arith)
all_within_at m (z ∷ zs) zero lt e = (and_parts (within m z) (all_within m zs) e).0
all_within_at m (z ∷ zs) (suc i) lt e = all_within_at m zs i (omega arith) (and_parts (within m z) (all_within m zs) e).1

-- the test by the magnitude
pub within_is : (m : ℕ) (z : ℤ) → leb (nat_abs z) m ≡ within m z
within_is m (pos n) = grind (arith, ints, nat_tests)
within_is m (negsuc n) = grind (arith, ints, nat_tests)

-- wider bounds
pub within_wider : (m n : ℕ) → m ≤ n → (z : ℤ) → Within m z → Within n z
within_wider m n le z w = (omega (arith, ints), omega (arith, ints))

pub all_wider : (m n : ℕ) → m ≤ n → (zs : List ℤ) → AllByRecursion (Within m) zs → AllByRecursion (Within n) zs
all_wider m n le zs w = All-weaker (Within m) (Within n) (within_wider m n le) zs w

pub negated_within : (m : ℕ) (z : ℤ) → Within m z → Within m (neg_ℤ z)
negated_within m z w = (omega (arith, ints), omega (arith, ints))

pub zeros_within : (m k : ℕ) → AllByRecursion (Within m) (replicate k (pos 0))
zeros_within m zero = tt
zeros_within m (suc k) = ((omega (arith, ints), omega (arith, ints)), zeros_within m k)

-- what fits 64 bits
pub sfits_within : (m : ℕ) (z : ℤ) → m < 2 ^ 63 → Within m z → SFits w64 z
sfits_within m (pos n) l w = record { sfits = omega (arith, ints) }
sfits_within m (negsuc n) l w = record { sfits = omega (arith, ints) }

-- products
pub product_within : (m n : ℕ) (a b : ℤ) → Within m a → Within n b → Within (m * n) (a *ℤ b)
product_within m n (pos a) (pos b) v w =
    let l = mul-le a b m n (omega (arith, ints)) (omega (arith, ints)) in (omega (arith, ints, pos-*ℤ-pos a b), omega (arith, ints, pos-*ℤ-pos a b))
product_within m n (pos a) (negsuc b) v w =
    let l = mul-le a (suc b) m n (omega (arith, ints)) (omega (arith, ints)) in (omega (arith, ints, pos-*ℤ-negsuc a b), omega (arith, ints, pos-*ℤ-negsuc a b))
product_within m n (negsuc a) (pos b) v w =
    let l = mul-le (suc a) b m n (omega (arith, ints)) (omega (arith, ints)) in (omega (arith, ints, negsuc-*ℤ-pos a b), omega (arith, ints, negsuc-*ℤ-pos a b))
product_within m n (negsuc a) (negsuc b) v w =
    let l = mul-le (suc a) (suc b) m n (omega (arith, ints)) (omega (arith, ints)) in (omega (arith, ints, negsuc-*ℤ-negsuc a b), omega (arith, ints, negsuc-*ℤ-negsuc a b))

-- a sign: -1, 0 or 1
pub sign_cases : (s : ℤ) → Within 1 s → (s ≡ negsuc 0) ⊎ ((s ≡ pos 0) ⊎ (s ≡ pos 1))
sign_cases (pos zero) w = inr (inl refl)
sign_cases (pos (suc zero)) w = inr (inr refl)
sign_cases (pos (suc (suc k))) w = absurd (omega (arith, ints))
sign_cases (negsuc zero) w = inl refl
sign_cases (negsuc (suc k)) w = absurd (omega (arith, ints))

pub sign_within : (m : ℕ) (s a : ℤ) → Within 1 s → Within m a → Within m (s *ℤ a)
sign_within m s a v w =
    elim (sign_cases s v) [
      | inl e ↦ rw e (omega (arith, ints), omega (arith, ints))
      | inr f ↦ elim f [
        | inl e ↦ rw e (omega (arith, ints), omega (arith, ints))
        | inr e ↦ rw e (omega (arith, ints), omega (arith, ints))
      ]
    ]

-- products and sums of numbers as the code computes them
pub product_read : (s a : ℤ) → SFits w64 s → SFits w64 a → to_z w64 (of_z w64 s) *ℤ to_z w64 (of_z w64 a) ≡ s *ℤ a
product_read s a f g = rw (to_z-of_z w64 s f, to_z-of_z w64 a g)

pub sum_read : (a b : ℤ) → SFits w64 a → SFits w64 b → to_z w64 (of_z w64 a) +ℤ to_z w64 (of_z w64 b) ≡ a +ℤ b
sum_read a b f g = rw (to_z-of_z w64 a f, to_z-of_z w64 b g)

pub difference_is : (a b x y : ℤ) → a ≡ x → b ≡ y → SFits w64 x → SFits w64 y → SFits w64 (x -ℤ y) → to_z w64 (of_z w64 (to_z w64 (of_z w64 a) -ℤ to_z w64 (of_z w64 b))) ≡ x -ℤ y
difference_is a b x y e f g h k = rw (e, f) (simp to_z-of_z)

pub difference_fits : (a b x y : ℤ) → a ≡ x → b ≡ y → SFits w64 x → SFits w64 y → SFits w64 (x -ℤ y) → SFits w64 (to_z w64 (of_z w64 a) -ℤ to_z w64 (of_z w64 b))
difference_fits a b x y e f g h k = rw (e, f) (simp to_z-of_z k)

pub negated_read : (m : ℕ) (z : ℤ) → m < 2 ^ 63 → Within m z → to_z w64 (of_z w64 (pos 0 -ℤ to_z w64 (of_z w64 z))) ≡ neg_ℤ z
negated_read m z lt w =
    let f = sfits_within m z lt w in
    let n : Within m (neg_ℤ z) = (omega (arith, ints), omega (arith, ints)) in
    let g = sfits_within m (neg_ℤ z) lt n in
    omega (arith, ints)
