-- Lines and fields of a text, and the first fault in reading them from left to right.
use Rattle.std.specs.Prelude.{ℕ, ◌+◌, ◌-◌, cond, ◌&&◌, List, [], ◌∷◌, ◌++◌, length, replicate, ℤ, pos, Some, None, Ok, Err, Option, Result, ◌==◌, nat_le}
use Rattle.std.specs.Borrow.{Bor}
use Rattle.std.specs.Option.{option_map}
use Rattle.std.specs.Str.{bytes_eq}
use Rattle.text.specs.Bytes.{space, line_feed}
use Rattle.text.specs.Numbers.{field_of}
use Rattle.text.specs.declared.faults.FieldFault.{FieldFault}
use Rattle.text.specs.declared.faults.FieldFault.TheVariants.{Malformed}
use Rattle.text.specs.declared.faults.Place.{Place}
use Rattle.text.specs.declared.faults.TextFault.{TextFault}
use Rattle.text.specs.declared.faults.TextFault.TheVariants.{Size, Line, Field}
use Rattle.text.specs.declared.number.Limit.{Limit}

-- go on with the value of an Ok, and keep an Err
abbrev pub bind : {X Y E : Type 0} → Result X E → (X → Result Y E) → Result Y E
bind (Ok x) k = k x
bind (Err e) k = Err e

-- the most bytes of a text
abbrev pub text_limit : ℕ
text_limit = 60000

-- a text is neither empty nor too long
abbrev pub size_of : List ℕ → Result (Unit {0}) TextFault
size_of bs = cond (nat_le 1 (length bs) && nat_le (length bs) text_limit) (Ok tt) (Err Size)

abbrev pub cons_front : ℕ → List ℕ × List ℕ → List ℕ × List ℕ
cons_front b p = (b ∷ p.0, p.1)

-- what stands before the first byte `at` of a text, and what stands after it
abbrev pub cut_at : ℕ → List ℕ → Option (List ℕ × List ℕ)
cut_at at [] = None
cut_at at (b ∷ bs) = cond (b == at) (Some ([], bs)) (option_map (cons_front b) (cut_at at bs))

-- the first field of what is left of a line, and what is left then: nothing after the last field
abbrev pub first_field : List ℕ → Option (List ℕ × List ℕ) → List ℕ × Option (List ℕ)
first_field left None = (left, None)
first_field left (Some p) = (p.0, Some p.1)

abbrev pub split_field : List ℕ → List ℕ × Option (List ℕ)
split_field left = first_field left (cut_at space left)

abbrev pub place : ℕ → ℕ → Place
place line field = record { line = line; field = field }

-- tells where a field stands
abbrev pub placed : {X : Type 0} → Place → Result X FieldFault → Result X TextFault
placed p (Ok x) = Ok x
placed p (Err e) = Err (Field p e)

-- the bytes of the next field, and what is left after it
abbrev pub next_field : Option (List ℕ) → Option (List ℕ)
next_field None = None
next_field (Some left) = Some (split_field left).0

abbrev pub after_field : Option (List ℕ) → Option (List ℕ)
after_field None = None
after_field (Some left) = (split_field left).1

-- the number of the next field; a lacking field is malformed
abbrev pub next_number : Place → Limit → Option (List ℕ) → Result ℤ TextFault
next_number p limit None = Err (Field p Malformed)
next_number p limit (Some left) = placed p (field_of limit (split_field left).0)

-- a line has no field more
abbrev pub end_of : Place → Option (List ℕ) → Result (Unit {0}) TextFault
end_of p None = Ok tt
end_of p (Some left) = Err (Field p Malformed)

-- the numbers of what is left of a line, one for each limit, and no field more
abbrev pub numbers_of : ℕ → ℕ → List Limit → Option (List ℕ) → Result (List ℤ) TextFault
numbers_of line field [] left = bind (end_of (place line field) left) (λ _. Ok [])
numbers_of line field (l ∷ ls) left =
    bind (next_number (place line field) l left) (λ z.
    bind (numbers_of line (field + 1) ls (after_field left)) (λ zs. Ok (z ∷ zs)))

-- zeros up to so many places
abbrev pub padded_to : ℕ → List ℤ → List ℤ
padded_to width zs = zs ++ replicate (width - length zs) (pos 0)

-- a row of so many places, with the numbers behind the fields that stand before it
abbrev pub wide_row_of : ℕ → ℕ → ℕ → List Limit → Option (List ℕ) → Result (List ℤ) TextFault
wide_row_of width line before limits left = bind (numbers_of line (before + 1) limits left) (λ zs. Ok (padded_to width zs))

-- the most numbers of a row, and of a long row
abbrev pub row_width : ℕ
row_width = 8

abbrev pub long_row_width : ℕ
long_row_width = 41

-- a row of eight places
abbrev pub padded : List ℤ → List ℤ
padded = padded_to row_width

abbrev pub row_of : ℕ → ℕ → List Limit → Option (List ℕ) → Result (List ℤ) TextFault
row_of = wide_row_of row_width

-- a whole line of numbers, and the text after it
abbrev pub numbers_by : ℕ → List Limit → Option (List ℕ × List ℕ) → Result (List ℤ × List ℕ) TextFault
numbers_by line limits None = Err (Line line)
numbers_by line limits (Some p) = bind (numbers_of line 1 limits (Some p.0)) (λ zs. Ok (zs, p.1))

abbrev pub numbers_line : ℕ → List Limit → List ℕ → Result (List ℤ × List ℕ) TextFault
numbers_line line limits text = numbers_by line limits (cut_at line_feed text)

abbrev pub padded_line : {E : Type 0} → Result (List ℤ × List ℕ) E → Result (List ℤ × List ℕ) E
padded_line (Ok p) = Ok (padded p.0, p.1)
padded_line (Err e) = Err e

-- the text after a line of just these names
abbrev pub names_by : ℕ → List ℕ → Option (List ℕ × List ℕ) → Result (List ℕ) TextFault
names_by line names None = Err (Line line)
names_by line names (Some p) = cond (bytes_eq p.0 names) (Ok p.1) (Err (Line line))

abbrev pub names_line : ℕ → List ℕ → List ℕ → Result (List ℕ) TextFault
names_line line names text = names_by line names (cut_at line_feed text)

-- what an answer's references hold
abbrev pub held : {E : Type 0} → Result (Bor (List ℕ)) E → Result (List ℕ) E
held (Ok r) = Ok r.now
held (Err e) = Err e

abbrev pub with_rest : {X E : Type 0} → Result (X × Bor (List ℕ)) E → Result (X × List ℕ) E
with_rest (Ok p) = Ok (p.0, p.1.now)
with_rest (Err e) = Err e
