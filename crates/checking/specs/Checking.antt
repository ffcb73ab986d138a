-- What check answers: the first fault of the proof part of a case text, line by line, or that there is none.
use Rattle.std.specs.Prelude.{ℕ, ◌+◌, Bool, false, cond, ◌&&◌, ◌||◌, List, [], ◌∷◌, length, drop, replicate, ℤ, pos, Some, None, Ok, Err, Option, Result, ◌==◌, nat_le, slice_index_or, unsigned_abs}
use Rattle.std.specs.List.{range_with_len}
use Rattle.text.specs.Bytes.{line_feed}
use Rattle.text.specs.Lines.{bind, text_limit, place, next_number, after_field, numbers_of}
use Rattle.text.specs.declared.faults.FieldFault.TheVariants.{Malformed, Outside}
use Rattle.text.specs.declared.faults.TextFault.{TextFault}
use Rattle.text.specs.declared.faults.TextFault.TheVariants.{Size, Line, Field}
use Rattle.text.specs.declared.number.Limit.{Limit}
use Rattle.control.specs.Limits.{most_states}
use Rattle.control.specs.Meaning.{Meaning}
use Rattle.case.specs.Faces.{faces}
use Rattle.case.specs.Fields.{from_to}
use Rattle.case.specs.Limits.{most_pushes, most_extras}
use Rattle.case.specs.Stored.{line_after}
use Rattle.case.specs.Values.{CaseValues}
use Rattle.system.specs.Answers.{fits, system_of}
use Rattle.certificate.specs.Tests.{multiplier_limit, face_of, equations_of}
use Rattle.certificate.specs.declared.fault.ProofFault.{ProofFault}
use Rattle.checking.specs.declared.faults.CheckFault.{CheckFault}
use Rattle.checking.specs.declared.faults.CheckFault.TheVariants.{Text, Sizes, Missing, Repeated, Absent, Unproved}
use Rattle.checking.specs.declared.faults.Pair.{Pair}

-- Lines of a text.

-- one byte more before the lines of a text
abbrev pub before_rest : ℕ → List (List ℕ) → List ℕ → List (List ℕ) × List ℕ
before_rest b [] rest = ([], b ∷ rest)
before_rest b (l ∷ ls) rest = ((b ∷ l) ∷ ls, rest)

abbrev pub before_lines : ℕ → List (List ℕ) × List ℕ → List (List ℕ) × List ℕ
before_lines b p = cond (b == line_feed) ([] ∷ p.0, p.1) (before_rest b p.0 p.1)

-- the lines of a text, each without its line feed, and what stands after the last line feed
abbrev pub text_lines : List ℕ → List (List ℕ) × List ℕ
text_lines [] = ([], [])
text_lines (b ∷ bs) = before_lines b (text_lines bs)

-- Proof lines.

-- the numbers of a proof line; its region and its face count from 1
pub record ProofLine : Type 0 where
  pub region : ℕ
  pub face : ℕ
  pub scale : ℤ
  pub multipliers : List ℤ

abbrev pub pair : ℕ → ℕ → Pair
pair region face = record { region = region; face = face }

-- one of the lines names the region and the face
abbrev pub names : List ProofLine → ℕ → ℕ → Bool
names [] region face = false
names (l ∷ ls) region face = (l.region == region && l.face == face) || names ls region face

-- a fault of the text is a fault of check, but a number outside is no region or face
abbrev pub as_check : {X : Type 0} → Result X TextFault → Result X CheckFault
as_check (Ok x) = Ok x
as_check (Err e) = Err (Text e)

abbrev pub index_fault : TextFault → CheckFault
index_fault Size = Text Size
index_fault (Line line) = Text (Line line)
index_fault (Field p Malformed) = Text (Field p Malformed)
index_fault (Field p Outside) = Missing p

abbrev pub as_index : Result ℤ TextFault → Result ℕ CheckFault
as_index (Ok z) = Ok (unsigned_abs z)
as_index (Err e) = Err (index_fault e)

abbrev pub up_to : ℕ → Limit
up_to n = from_to (pos 1) (pos n)

-- the region and the face that a line names, in its first two fields
abbrev pub region_field : Meaning → ℕ → List ℕ → Result ℕ CheckFault
region_field m line bytes = as_index (next_number (place line 1) (up_to (length m.regions)) (Some bytes))

abbrev pub face_field : CaseValues → ℕ → List ℕ → Result ℕ CheckFault
face_field k line bytes = as_index (next_number (place line 2) (up_to (length (faces k))) (after_field (Some bytes)))

-- the pair is not one of those that are named
abbrev pub unnamed : (ℕ → ℕ → Bool) → ℕ → ℕ → ℕ → Result (Unit {0}) CheckFault
unnamed named line region face = cond (named region face) (Err (Repeated line (pair region face))) (Ok tt)

-- the scale and a multiplier for each row of the region's system, in the fields behind
abbrev pub proof_limit : Limit
proof_limit = from_to (pos 0) (pos multiplier_limit)

abbrev pub proof_limits : CaseValues → Meaning → ℕ → List Limit
proof_limits k m region = replicate (1 + length (system_of k m region)) proof_limit

abbrev pub number_fields : CaseValues → Meaning → ℕ → ℕ → List ℕ → Result (List ℤ) CheckFault
number_fields k m region line bytes = as_check (numbers_of line 3 (proof_limits k m region) (after_field (after_field (Some bytes))))

abbrev pub proof_line : ℕ → ℕ → List ℤ → ProofLine
proof_line region face zs = record { region = region; face = face; scale = slice_index_or zs 0 (pos 0); multipliers = drop 1 zs }

-- Farkas' equations in the region's system
abbrev pub proved_at : ℕ → ℕ → ℕ → Result (Unit {0}) ProofFault → Result (Unit {0}) CheckFault
proved_at line region face (Ok t) = Ok tt
proved_at line region face (Err e) = Err (Unproved line (pair region face) e)

abbrev pub equations_at : CaseValues → Meaning → ℕ → ProofLine → Result (Unit {0}) CheckFault
equations_at k m line l =
    proved_at line l.region l.face (equations_of k (system_of k m l.region) (face_of k l.face) l.scale l.multipliers)

-- the numbers of the line with these bytes, judged from left to right, where these pairs are named
abbrev pub line_behind : CaseValues → Meaning → (ℕ → ℕ → Bool) → ℕ → List ℕ → Result ProofLine CheckFault
line_behind k m named line bytes =
    bind (region_field m line bytes) (λ region.
    bind (face_field k line bytes) (λ face.
    bind (unnamed named line region face) (λ _.
    bind (number_fields k m region line bytes) (λ zs.
    bind (equations_at k m line (proof_line region face zs)) (λ _.
    Ok (proof_line region face zs))))))

-- judged behind the lines before it
abbrev pub line_of : CaseValues → Meaning → List ProofLine → ℕ → List ℕ → Result ProofLine CheckFault
line_of k m before line bytes = line_behind k m (names before) line bytes

-- Pairs that no line names.

-- the first of these faces that is not named with the region
abbrev pub absent_face : (ℕ → ℕ → Bool) → ℕ → List ℕ → Option ℕ
absent_face named region [] = None
absent_face named region (f ∷ fs) = cond (named region f) (absent_face named region fs) (Some f)

abbrev pub unless_absent : ℕ → Option ℕ → Result (Unit {0}) CheckFault → Result (Unit {0}) CheckFault
unless_absent region None r = r
unless_absent region (Some face) r = Err (Absent (pair region face))

-- by region, then face
abbrev pub all_named : (ℕ → ℕ → Bool) → List ℕ → List ℕ → Result (Unit {0}) CheckFault
all_named named [] fs = Ok tt
all_named named (r ∷ rs) fs = unless_absent r (absent_face named r fs) (all_named named rs fs)

abbrev pub complete : CaseValues → Meaning → List ProofLine → Result (Unit {0}) CheckFault
complete k m ls = all_named (names ls) (range_with_len 1 (length m.regions)) (range_with_len 1 (length (faces k)))

-- The whole proof part.

-- the lines from here on, each behind those before it, and then the pairs that no line names
abbrev pub lines_check : CaseValues → Meaning → List ProofLine → ℕ → List (List ℕ) → List ℕ → Result (Unit {0}) CheckFault
lines_check k m before line [] [] = complete k m before
lines_check k m before line [] (b ∷ bs) = Err (Text (Line line))
lines_check k m before line (l ∷ ls) rest = bind (line_of k m before line l) (λ x. lines_check k m (x ∷ before) (line + 1) ls rest)

abbrev pub text_check : CaseValues → Meaning → List ProofLine → ℕ → List ℕ → Result (Unit {0}) CheckFault
text_check k m before line text = lines_check k m before line (text_lines text).0 (text_lines text).1

-- the number that the first proof line of a case text has at the most
abbrev pub most_first_line : ℕ
most_first_line = line_after most_states most_pushes most_extras

-- a proof part begins where the head of a case text can end, and is no longer than a text
abbrev pub is_measured : ℕ → List ℕ → Bool
is_measured line proofs = nat_le line most_first_line && nat_le (length proofs) text_limit

-- a controller of other sizes is refused before any line, and so is a proof part that no case text has
abbrev pub check_of : CaseValues → Meaning → ℕ → List ℕ → Result (Unit {0}) CheckFault
check_of k m line proofs = cond (fits k m) (cond (is_measured line proofs) (text_check k m [] line proofs) (Err (Text Size))) (Err Sizes)
