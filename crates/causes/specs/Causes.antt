-- The number of each cause.
use Rattle.std.specs.Prelude.{ℕ}
use Rattle.causes.specs.declared.Cause.{Cause}
use Rattle.causes.specs.declared.Cause.TheVariants.{Size, Line, Malformed, Outside, Word, Order, Narrow, Sizes, Missing, Repeated, Absent, Unequal, Excess, Length}

abbrev pub number_of : Cause → ℕ
number_of Size = 1
number_of Line = 2
number_of Malformed = 3
number_of Outside = 4
number_of Word = 5
number_of Order = 6
number_of Narrow = 9
number_of Sizes = 11
number_of Missing = 12
number_of Repeated = 13
number_of Absent = 14
number_of Unequal = 15
number_of Excess = 16
number_of Length = 18
