-- The rows of the fixed law, one by one.
use Rattle.std.proofs.Common.{◌≡◌, ℕ, zero, suc, ◌-◌, ◌*◌, ◌/◌, ◌%◌, ◌<◌, ◌≤◌, true, ◌&&◌, List, length, get_or, replicate, ℤ, pos, sym, refl, ap, ◌∙◌, arith, w64, SFits, to_z, of_z}
use Rattle.std.specs.Prelude.{slice_get, Some}
use Rattle.std.proofs.lemmas.Option.{get_or_from_slice_get}
use Rattle.std.proofs.lemmas.Int.{to_z-of_z}
use Rattle.std.proofs.lemmas.Bool.{and_from}
use Rattle.control.specs.declared.lines.Line.{Line}
use Rattle.control.specs.Answers.{no_row, present, region_of, row_of}
use Rattle.control.specs.Lines.{no_line, row_from}
use Rattle.control.specs.Fixed.{fixed_lines, fixed_rows, fixed_partition}
use Rattle.control.proofs.Outcomes.{there}
use Rattle.control.specs.declared.per_input.PerInput.{PerInput}
use Rattle.control.specs.declared.per_input.PerInput.TheVariants.{One, Two}
use Rattle.control.specs.Meaning.{Meaning}
use Rattle.control.specs.PerInput.{items}
use Rattle.control.specs.Lawful.FixedLaws.{fixed_meaning}

rows_long : (n : ℕ) (p : PerInput ℤ) → length (fixed_rows n (items p)) ≡ 2 * length (items p)
rows_long n (One a) = refl
rows_long n (Two a b) = refl

-- row k, counted from 0, speaks of input k / 2
abbrev pub line_at : List ℤ → ℕ → Line
line_at us k = get_or (fixed_lines (get_or us (k / 2) (pos 0))) (k % 2) no_line

-- the line that the code takes
pub code_line : (us : List ℤ) (k : ℕ) (u : ℤ) (l : Line) → slice_get us (k / 2) ≡ Some u → SFits w64 u → l ≡ get_or (fixed_lines (to_z w64 (of_z w64 u))) (k % 2) no_line → l ≡ line_at us k
code_line us k u l at f e = e ∙ ap (λ v. get_or (fixed_lines v) (k % 2) no_line) (to_z-of_z w64 _ f ∙ sym (get_or_from_slice_get us (k / 2) u (pos 0) at))

row_is : (n : ℕ) (p : PerInput ℤ) (k : ℕ) → k < 2 * length (items p) → get_or (fixed_rows n (items p)) k no_row ≡ row_from (replicate n (pos 0)) (length (items p)) (k / 2) (line_at (items p) k)
row_is n (One a) zero lt = refl
row_is n (One a) (suc zero) lt = refl
row_is n (One a) (suc (suc k)) lt = absurd (omega arith)
row_is n (Two a b) zero lt = refl
row_is n (Two a b) (suc zero) lt = refl
row_is n (Two a b) (suc (suc zero)) lt = refl
row_is n (Two a b) (suc (suc (suc zero))) lt = refl
row_is n (Two a b) (suc (suc (suc (suc k)))) lt = absurd (omega arith)

abbrev pub means : ℕ → PerInput ℤ → Meaning
means n p = fixed_meaning n (length (items p)) (items p)

-- which rows a fixed law has
pub such_row : (n : ℕ) (p : PerInput ℤ) (k j : ℕ) → k ≡ 1 → 1 ≤ j → j ≤ 2 * length (items p) → (present (fixed_partition n (items p)) k && present (region_of (means n p) k) j) ≡ true
such_row n p k j e l h =
    let r : length (region_of (means n p) k) ≡ 2 * length (items p) = ap (λ i. length (region_of (means n p) i)) e ∙ rows_long n p in
    and_from (present (fixed_partition n (items p)) k) _ (there (fixed_partition n (items p)) k (omega arith) (omega arith)) (there (region_of (means n p) k) j l (omega arith))

-- what row_of gives there
pub that_row : (n : ℕ) (p : PerInput ℤ) (k j : ℕ) → k ≡ 1 → 1 ≤ j → j ≤ 2 * length (items p) → row_of (means n p) k j ≡ row_from (replicate n (pos 0)) (length (items p)) ((j - 1) / 2) (line_at (items p) (j - 1))
that_row n p k j e l h = ap (λ i. row_of (means n p) i j) e ∙ row_is n p (j - 1) (omega arith)
