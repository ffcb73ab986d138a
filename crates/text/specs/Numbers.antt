-- What a field of a text says: a number, or nothing.
use Rattle.std.specs.Prelude.{ℕ, zero, suc, ◌+◌, ◌-◌, ◌*◌, ◌^◌, min, cond, ◌&&◌, List, [], ◌∷◌, ℤ, pos, negsuc, Some, None, Ok, Err, Option, Result, ◌==◌, int_le}
use Rattle.std.specs.Option.{option_map}
use Rattle.text.specs.Bytes.{is_digit, zero_byte, minus}
use Rattle.text.specs.declared.faults.FieldFault.{FieldFault}
use Rattle.text.specs.declared.faults.FieldFault.TheVariants.{Malformed, Outside}
use Rattle.text.specs.declared.number.Limit.{Limit}

-- the number that digits write after the number n; nothing at another byte
abbrev pub digits_after : ℕ → List ℕ → Option ℕ
digits_after n [] = Some n
digits_after n (b ∷ bs) = cond (is_digit b) (digits_after (n * 10 + (b - zero_byte)) bs) None

-- digits with no zero in front, or one zero
abbrev pub magnitude_of : List ℕ → Option ℕ
magnitude_of [] = None
magnitude_of (b ∷ []) = digits_after 0 (b ∷ [])
magnitude_of (b ∷ (c ∷ bs)) = cond (b == zero_byte) None (digits_after 0 (b ∷ (c ∷ bs)))

-- the negative of a magnitude, which is not 0
abbrev pub negated : Option ℕ → Option ℤ
negated None = None
negated (Some zero) = None
negated (Some (suc n)) = Some (negsuc n)

-- the number that a field writes
abbrev pub number_of : List ℕ → Option ℤ
number_of [] = None
number_of (b ∷ bs) = cond (b == minus) (negated (magnitude_of bs)) (option_map pos (magnitude_of (b ∷ bs)))

-- a number within its limit
abbrev pub within : ℤ → ℤ → Option ℤ → Result ℤ FieldFault
within low high None = Err Malformed
within low high (Some z) = cond (int_le low z && int_le z high) (Ok z) (Err Outside)

abbrev pub field_of : Limit → List ℕ → Result ℤ FieldFault
field_of limit bs = within limit.low limit.high (number_of bs)

-- a number as far as 64 bits hold it
abbrev pub capped : ℕ → ℕ
capped n = min n (2 ^ 64 - 1)

abbrev pub clipped : ℤ → ℤ
clipped (pos n) = pos (capped n)
clipped (negsuc n) = negsuc (min n (2 ^ 64 - 2))
