-- Zeros behind a row, the size of a text, and numbers that count.
use Rattle.std.proofs.Common.{◌≡◌, ℕ, zero, suc, ◌≤◌, Bool, true, false, cond, ◌&&◌, leb, List, [], ◌∷◌, ◌++◌, length, get_or, replicate, ℤ, pos, negsuc, nat_abs, ◌≤ℤ◌, Ok, Err, Result, refl, arith}
use lib.Signed.{le_z}
use Rattle.std.proofs.lemmas.Int.{ints}
use Rattle.std.proofs.lemmas.Bool.{and_parts, and_from, leb-true, le-leb, cond-true}
use Rattle.text.specs.Lines.{size_of, text_limit}
use Rattle.text.specs.declared.faults.TextFault.TheVariants.{Size}

zeros_at : (k i : ℕ) → get_or (replicate k (pos 0)) i (pos 0) ≡ pos 0
zeros_at zero i = refl
zeros_at (suc k) zero = refl
zeros_at (suc k) (suc i) = zeros_at k i

-- zeros behind a row leave its numbers
pub padding : (zs : List ℤ) (k i : ℕ) → get_or (zs ++ replicate k (pos 0)) i (pos 0) ≡ get_or zs i (pos 0)
padding [] k i = zeros_at k i
padding (z ∷ zs) k zero = refl
padding (z ∷ zs) k (suc i) = padding zs k i

-- what a test passed by
pub test_to : {E : Type 0} (test : Bool) (e : E) (u : Unit {0}) → ◌≡◌ {A = Result (Unit {0}) E} (cond test (Ok tt) (Err e)) (Ok u) → test ≡ true
test_to true e u h = refl
test_to false e u h = grind arith

pub size_to : (text : List ℕ) (u : Unit {0}) → size_of text ≡ Ok u → length text ≤ text_limit
size_to text u e = leb-true _ _ (and_parts (leb 1 (length text)) (leb (length text) text_limit) (test_to (leb 1 (length text) && leb (length text) text_limit) Size u e)).1

pub size_from : (text : List ℕ) → 1 ≤ length text → length text ≤ text_limit → size_of text ≡ Ok tt
size_from text low high = cond-true _ _ _ (and_from (leb 1 (length text)) (leb (length text) text_limit) (le-leb _ _ low) (le-leb _ _ high))

pub le_z_from : (a b : ℤ) → a ≤ℤ b → le_z a b ≡ true
le_z_from a b h = grind (arith, ints)

-- a number from 0 on is its magnitude
pub natural : (z : ℤ) → pos 0 ≤ℤ z → z ≡ pos (nat_abs z)
natural (pos n) h = refl
natural (negsuc n) h = absurd (omega (arith, ints))

pub count_low : (z : ℤ) → pos 1 ≤ℤ z → 1 ≤ nat_abs z
count_low (pos n) h = omega (arith, ints)
count_low (negsuc n) h = absurd (omega (arith, ints))

pub count_high : (z : ℤ) (k : ℕ) → pos 0 ≤ℤ z → z ≤ℤ pos k → nat_abs z ≤ k
count_high (pos n) k l h = omega (arith, ints)
count_high (negsuc n) k l h = absurd (omega (arith, ints))

pub from_one : (z : ℤ) → pos 1 ≤ℤ z → pos 0 ≤ℤ z
from_one z h = omega (arith, ints)
