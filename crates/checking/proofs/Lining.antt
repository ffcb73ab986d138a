-- The lines of a text against its rendering.
use Rattle.std.proofs.Common.{◌≡◌, ℕ, Bool, true, false, cond, eqb, List, [], ◌∷◌, map, ℤ, sym, refl, ap, ◌∙◌, arith}
use Rattle.std.proofs.lemmas.Bool.{eqb-true, ne_eqb, cond-false}
use Rattle.text.specs.Bytes.{line_feed}
use Rattle.text.specs.Render.{fields_text, line_before}
use Rattle.text.proofs.Forming.{Above, fields_above}
use Rattle.case.specs.Forms.{rows_before}
use Rattle.checking.specs.Checking.{before_rest, before_lines, text_lines}

-- lines, each followed by a line feed, before the rest of a text
abbrev pub lines_before : List (List ℕ) → List ℕ → List ℕ
lines_before [] rest = rest
lines_before (l ∷ ls) rest = line_before l (lines_before ls rest)

-- From a rendering to its lines.

-- a byte that is no line feed joins the first line
byte_more : (b : ℕ) (l : List ℕ) (ls : List (List ℕ)) (rest : List ℕ) → (b ≡ line_feed → ⊥) → before_lines b (l ∷ ls, rest) ≡ ((b ∷ l) ∷ ls, rest)
byte_more b l ls rest other = cond-false (eqb b line_feed) _ _ (ne_eqb b line_feed other)

pub line_more : (bytes rest : List ℕ) → Above line_feed bytes → text_lines (line_before bytes rest) ≡ (bytes ∷ (text_lines rest).0, (text_lines rest).1)
line_more [] rest plain = refl
line_more (b ∷ bytes) rest plain =
    ap (before_lines b) (line_more bytes rest plain.1)
    ∙ byte_more b bytes (text_lines rest).0 (text_lines rest).1 (λ e. omega (arith, plain.0))

-- the lines of a rendering are the rows, with nothing behind them
pub rows_lines : (rows : List (List ℤ)) → text_lines (rows_before rows []) ≡ (map fields_text rows, [])
rows_lines [] = refl
rows_lines (row ∷ rows) =
    line_more (fields_text row) (rows_before rows []) (fields_above line_feed row (omega arith))
    ∙ ap (λ p. (fields_text row ∷ p.0, p.1)) (rows_lines rows)

-- From the lines back to the text.

rest_is : (b : ℕ) (ls : List (List ℕ)) (rest : List ℕ) → lines_before (before_rest b ls rest).0 (before_rest b ls rest).1 ≡ b ∷ lines_before ls rest
rest_is b [] rest = refl
rest_is b (l ∷ ls) rest = refl

byte_is : (b : ℕ) (p : List (List ℕ) × List ℕ) → lines_before (before_lines b p).0 (before_lines b p).1 ≡ b ∷ lines_before p.0 p.1
byte_is b p = by_test (eqb b line_feed) refl
  where
    by_test : (t : Bool) → eqb b line_feed ≡ t
        → lines_before (cond t ([] ∷ p.0, p.1) (before_rest b p.0 p.1)).0 (cond t ([] ∷ p.0, p.1) (before_rest b p.0 p.1)).1 ≡ b ∷ lines_before p.0 p.1
    by_test true t = ap (λ x. x ∷ lines_before p.0 p.1) (sym (eqb-true b line_feed t))
    by_test false t = rest_is b p.0 p.1

-- a text is its lines, each with its line feed, and what stands after them
pub text_is : (text : List ℕ) → text ≡ lines_before (text_lines text).0 (text_lines text).1
text_is [] = refl
text_is (b ∷ bs) = ap (λ t. b ∷ t) (text_is bs) ∙ sym (byte_is b (text_lines bs))

pub text_of_lines : (text : List ℕ) (ls : List (List ℕ)) → text_lines text ≡ (ls, []) → text ≡ lines_before ls []
text_of_lines text ls e = text_is text ∙ ap (λ p. lines_before p.0 p.1) e

-- lines that are renderings are rows
pub lines_rows : (rows : List (List ℤ)) (rest : List ℕ) → lines_before (map fields_text rows) rest ≡ rows_before rows rest
lines_rows [] rest = refl
lines_rows (row ∷ rows) rest = ap (line_before (fields_text row)) (lines_rows rows rest)
