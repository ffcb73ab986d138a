-- The first line of a text and the lines behind it.
use Rattle.std.proofs.Common.{◌≡◌, ℕ, ◌+◌, ◌≤◌, Bool, true, false, cond, eqb, List, [], ◌∷◌, length, Some, None, Ok, Err, Option, Result, sym, refl, ap, ◌∙◌, arith}
use Rattle.std.specs.Option.{option_map}
use Rattle.std.proofs.lemmas.List.{length-append}
use Rattle.std.proofs.lemmas.Bool.{eqb-true, eqb-false}
use Rattle.text.specs.Bytes.{line_feed}
use Rattle.text.specs.Lines.{bind, cut_at, cons_front}
use Rattle.text.specs.declared.faults.TextFault.TheVariants.{Line}
use Rattle.text.proofs.Forming.{cut_is}
use Rattle.control.specs.Meaning.{Meaning}
use Rattle.case.specs.Values.{CaseValues}
use Rattle.checking.specs.Checking.{ProofLine, before_rest, text_lines, line_of, lines_check, text_check}
use Rattle.checking.specs.declared.faults.CheckFault.{CheckFault}
use Rattle.checking.specs.declared.faults.CheckFault.TheVariants.{Text}

-- the lines of a text, by where its first line feed is
abbrev pub lines_by : List ℕ → Option (List ℕ × List ℕ) → List (List ℕ) × List ℕ
lines_by text None = ([], text)
lines_by text (Some p) = (p.0 ∷ (text_lines p.1).0, (text_lines p.1).1)

lines_moved : (b : ℕ) (bs : List ℕ) (o : Option (List ℕ × List ℕ)) → text_lines bs ≡ lines_by bs o → before_rest b (text_lines bs).0 (text_lines bs).1 ≡ lines_by (b ∷ bs) (option_map (cons_front b) o)
lines_moved b bs None e = ap (λ p. before_rest b p.0 p.1) e
lines_moved b bs (Some q) e = ap (λ p. before_rest b p.0 p.1) e

lines_test : (b : ℕ) (bs : List ℕ) (t : Bool) → text_lines bs ≡ lines_by bs (cut_at line_feed bs)
    → cond t ([] ∷ (text_lines bs).0, (text_lines bs).1) (before_rest b (text_lines bs).0 (text_lines bs).1)
    ≡ lines_by (b ∷ bs) (cond t (Some ([], bs)) (option_map (cons_front b) (cut_at line_feed bs)))
lines_test b bs true e = refl
lines_test b bs false e = lines_moved b bs (cut_at line_feed bs) e

pub lines_cut : (text : List ℕ) → text_lines text ≡ lines_by text (cut_at line_feed text)
lines_cut [] = refl
lines_cut (b ∷ bs) = lines_test b bs (eqb b line_feed) (lines_cut bs)

-- what is left behind a line is shorter
pub rest_shorter : (text bytes rest : List ℕ) → Some (bytes, rest) ≡ cut_at line_feed text → length rest + 1 ≤ length text
rest_shorter text bytes rest e =
    omega (arith, ap length (cut_is line_feed text (bytes, rest) (sym e)), length-append bytes (line_feed ∷ rest))

module _ (k : CaseValues) (m : Meaning) (ls : List ProofLine) (line : ℕ) where
  abbrev lines_from : List (List ℕ) × List ℕ → Result (Unit {0}) CheckFault
  lines_from p = lines_check k m ls line p.0 p.1

  pub text_unfinished : (b : ℕ) (bs : List ℕ) → None ≡ cut_at line_feed (b ∷ bs) → text_check k m ls line (b ∷ bs) ≡ Err (Text (Line line))
  text_unfinished b bs e = ap lines_from (lines_cut (b ∷ bs) ∙ ap (lines_by (b ∷ bs)) (sym e))

  pub line_stops : (text bytes rest : List ℕ) (e : CheckFault) → Some (bytes, rest) ≡ cut_at line_feed text → line_of k m ls line bytes ≡ Err e → text_check k m ls line text ≡ Err e
  line_stops text bytes rest e cut stop =
      ap lines_from (lines_cut text ∙ ap (lines_by text) (sym cut))
      ∙ ap (λ r. bind r (λ x. text_check k m (x ∷ ls) (line + 1) rest)) stop

  pub line_more : (text bytes rest : List ℕ) (l : ProofLine) → Some (bytes, rest) ≡ cut_at line_feed text → line_of k m ls line bytes ≡ Ok l → text_check k m ls line text ≡ text_check k m (l ∷ ls) (line + 1) rest
  line_more text bytes rest l cut good =
      ap lines_from (lines_cut text ∙ ap (lines_by text) (sym cut))
      ∙ ap (λ r. bind r (λ x. text_check k m (x ∷ ls) (line + 1) rest)) good

-- whether anything is left of a text
pub nothing_left : (text : List ℕ) → eqb (length text) 0 ≡ true → text ≡ []
nothing_left [] e = refl
nothing_left (b ∷ bs) e = absurd (omega (arith, eqb-true (length (b ∷ bs)) 0 e))

pub unfinished : (k : CaseValues) (m : Meaning) (ls : List ProofLine) (line : ℕ) (text : List ℕ) → eqb (length text) 0 ≡ false → None ≡ cut_at line_feed text → text_check k m ls line text ≡ Err (Text (Line line))
unfinished k m ls line [] e cut = absurd (eqb-false 0 0 e refl)
unfinished k m ls line (b ∷ bs) e cut = text_unfinished k m ls line b bs cut
