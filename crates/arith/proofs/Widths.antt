-- Lemmas on numbers of 64 bits in arithmetic on 128 bits.
use Rattle.std.proofs.Common.{◌≡◌, ℕ, ◌^◌, ◌<◌, ℤ, pos, negsuc, ap, ◌∙◌, arith, lit<, w64, SFits, to_z, of_z}
use mir.Syntax.{w128}
use Rattle.std.proofs.lemmas.Int.{ints, to_z-of_z}
use Rattle.arith.specs.Bounds.{Within}

-- the magnitude of a number of 64 bits
abbrev pub value_limit : ℕ
value_limit = 9223372036854775808

pub value_within : (z : ℤ) → SFits w64 z → Within value_limit z
value_within (pos n) f = (omega (arith, ints), omega (arith, ints, f.sfits))
value_within (negsuc n) f = (omega (arith, ints, f.sfits), omega (arith, ints))

-- what fits 128 bits
pub wide_within : (m : ℕ) (z : ℤ) → m < 2 ^ 127 → Within m z → SFits w128 z
wide_within m (pos n) l w = record { sfits = omega (arith, ints) }
wide_within m (negsuc n) l w = record { sfits = omega (arith, ints) }

pub wide_value : (z : ℤ) → SFits w64 z → SFits w128 z
wide_value z f = wide_within value_limit z (lit< tt) (value_within z f)

-- w is the number z of 64 bits as the code widens it
pub widened : (z w : ℤ) → SFits w64 z → w ≡ to_z w64 (of_z w64 z) → to_z w128 (of_z w128 w) ≡ z
widened z w f e = ap (λ t. to_z w128 (of_z w128 t)) (e ∙ to_z-of_z w64 z f) ∙ to_z-of_z w128 z (wide_value z f)
