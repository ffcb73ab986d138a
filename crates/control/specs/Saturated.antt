-- The saturated law: for each input floor ((gains × x + offset) / divisor), clipped to low..high.
use Rattle.std.specs.Prelude.{ℕ, zero, suc, ◌+◌, ◌*◌, ◌/◌, ◌%◌, ◌^◌, Bool, cond, ◌&&◌, List, [], ◌∷◌, map, length, take, ℤ, pos, negsuc, ◌+ℤ◌, ◌-ℤ◌, ◌*ℤ◌, neg_ℤ, Ok, Err, Result, ◌==◌, int_le}
use Rattle.std.specs.Int.{int_div_euclid, int_max, int_min}
use Rattle.std.specs.List.{list_all, range_with_len}
use Rattle.arith.specs.Bounds.{within, all_within}
use Rattle.arith.specs.Products.{dot}
use Rattle.control.specs.declared.fault.ControlFault.{ControlFault}
use Rattle.control.specs.declared.fault.ControlFault.TheVariants.{Length, Range}
use Rattle.control.specs.declared.input.Input.{Input}
use Rattle.control.specs.declared.input.Digit.{Digit}
use Rattle.control.specs.declared.input.Digit.TheVariants.{Low, Middle, High}
use Rattle.control.specs.declared.lines.Line.{Line}
use Rattle.control.specs.Meaning.{Row}
use Rattle.control.specs.Limits.{most_states, sizes_ok, setting_limit, state_limit}
use Rattle.control.specs.Lines.{line, stacked}

-- the limits of an input
abbrev pub gain_limit : ℕ
gain_limit = 10000

abbrev pub offset_limit : ℕ
offset_limit = 100000000

abbrev pub most_divisor : ℕ
most_divisor = 1000

abbrev pub gains_ok : Input → Bool
gains_ok i = (length i.gains == most_states && all_within gain_limit i.gains) && within offset_limit i.offset

abbrev pub divisor_ok : Input → Bool
divisor_ok i = int_le (pos 1) i.divisor && int_le i.divisor (pos most_divisor)

abbrev pub bounds_ok : Input → Bool
bounds_ok i = (within setting_limit i.low && within setting_limit i.high) && int_le i.low i.high

abbrev pub input_ok : Input → Bool
input_ok i = (gains_ok i && divisor_ok i) && bounds_ok i

abbrev pub inputs_ok : List Input → Bool
inputs_ok is = list_all input_ok is

-- the laws that can be made
abbrev pub saturated_ok : ℕ → List Input → Bool
saturated_ok n is = sizes_ok n (length is) && inputs_ok is

-- gains × x + offset, over the n states
abbrev pub value : ℕ → Input → List ℤ → ℤ
value n i x = dot (take n i.gains) x +ℤ i.offset

-- v / q, rounded down
abbrev pub quotient : ℤ → ℤ → ℤ
quotient v q = int_div_euclid v q

-- the part of the command for an input with the value v
abbrev pub part : Input → ℤ → ℤ
part i v = int_max i.low (int_min i.high (quotient v i.divisor))

abbrev pub saturated_command : ℕ → List Input → List ℤ → List ℤ
saturated_command n is x = map (λ i. part i (value n i x)) is

-- the greatest value at which an input is low, and the least at which it is high
abbrev pub low_edge : Input → ℤ
low_edge i = i.divisor *ℤ i.low -ℤ pos 1

abbrev pub high_edge : Input → ℤ
high_edge i = i.divisor *ℤ (i.high +ℤ pos 1)

abbrev pub digit_of : Input → ℤ → Digit
digit_of i v = cond (int_le v (low_edge i)) Low (cond (int_le (high_edge i) v) High Middle)

-- the rows of an input with a digit
abbrev pub lines : Input → Digit → List Line
lines i Low =
    line (pos 0) (pos 1) i.low ∷ line (pos 0) (negsuc 0) (neg_ℤ i.low)
    ∷ line (pos 1) (pos 0) (low_edge i -ℤ i.offset) ∷ []
lines i Middle =
    line (negsuc 0) i.divisor i.offset ∷ line (pos 1) (neg_ℤ i.divisor) (i.divisor -ℤ pos 1 -ℤ i.offset)
    ∷ line (pos 0) (pos 1) i.high ∷ line (pos 0) (negsuc 0) (neg_ℤ i.low) ∷ []
lines i High =
    line (pos 0) (pos 1) i.high ∷ line (pos 0) (negsuc 0) (neg_ℤ i.high)
    ∷ line (negsuc 0) (pos 0) (i.offset -ℤ high_edge i) ∷ []

-- digits as numbers, of which there are radix
abbrev pub radix : ℕ
radix = 3

abbrev pub number : Digit → ℕ
number Low = 0
number Middle = 1
number High = 2

abbrev pub numbered : ℕ → Digit
numbered zero = Low
numbered (suc zero) = Middle
numbered (suc (suc d)) = High

-- regions by their index from 0: the digits of the inputs, the first input's lowest
abbrev pub region_lines : List Input → ℕ → List (List Line)
region_lines [] r = []
region_lines (i ∷ is) r = lines i (numbered (r % radix)) ∷ region_lines is (r / radix)

abbrev pub gains_at : ℕ → List Input → ℕ → List ℤ
gains_at n [] j = []
gains_at n (i ∷ is) zero = take n i.gains
gains_at n (i ∷ is) (suc j) = gains_at n is j

abbrev pub region_rows : ℕ → List Input → ℕ → List Row
region_rows n is r = stacked (gains_at n is) (length is) 0 (region_lines is r)

abbrev pub saturated_partition : ℕ → List Input → List (List Row)
saturated_partition n is = map (region_rows n is) (range_with_len 0 (radix ^ length is))

abbrev pub index_of : List Digit → ℕ
index_of [] = 0
index_of (d ∷ ds) = number d + radix * index_of ds

-- the digits at a state, and the number of the region there
abbrev pub digits_at : ℕ → List Input → List ℤ → List Digit
digits_at n is x = map (λ i. digit_of i (value n i x)) is

abbrev pub region_at : ℕ → List Input → List ℤ → ℕ
region_at n is x = 1 + index_of (digits_at n is x)

abbrev pub region_answer : ℕ → List Input → List ℤ → Result ℕ ControlFault
region_answer n is x = cond (length x == n) (cond (all_within state_limit x) (Ok (region_at n is x)) (Err Range)) (Err Length)
