-- The classes of a byte.
use Rattle.std.specs.Prelude.{ℕ, ◌-◌, Bool, cond, ◌&&◌, ◌==◌, nat_le}
use Rattle.text.specs.declared.bytes.ByteClass.{ByteClass}
use Rattle.text.specs.declared.bytes.ByteClass.TheVariants.{Digit, Minus, Space, LineFeed, Foreign}

abbrev pub line_feed : ℕ
line_feed = 10

abbrev pub space : ℕ
space = 32

abbrev pub minus : ℕ
minus = 45

-- the byte of the digit 0
abbrev pub zero_byte : ℕ
zero_byte = 48

abbrev pub is_digit : ℕ → Bool
is_digit b = nat_le 48 b && nat_le b 57

abbrev pub class_of : ℕ → ByteClass
class_of b =
    cond (is_digit b) (Digit (b - zero_byte))
    (cond (b == minus) Minus (cond (b == space) Space (cond (b == line_feed) LineFeed Foreign)))
