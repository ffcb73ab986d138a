-- What holds of the start rows: limits, signs, and that each is what its multipliers and scale say.
use Rattle.std.proofs.Common.{◌≡◌, ℕ, suc, ◌+◌, ◌<◌, ◌≤◌, List, [], ◌∷◌, map, length, get_or, ℤ, pos, neg_ℤ, ◌≤ℤ◌, ◌<ℤ◌, ap, ◌∙◌, inl, inr, arith}
use lib.IntN.{zero-*ℤ}
use Rattle.std.specs.List.{AllByRecursion}
use Rattle.std.proofs.ByRecursion.{All-push, All-map, All-weaker, All-set}
use Rattle.std.proofs.lemmas.List.{length-map, length-set, length-replicate, get_or_past, get_or-set_same}
use Rattle.std.proofs.lemmas.Int.{ints}
use Rattle.arith.specs.Bounds.{Within}
use Rattle.arith.proofs.Bounds.{all_wider, negated_within, zeros_within}
use Rattle.arith.proofs.Dots.{dot_zero}
use Rattle.control.specs.Limits.{coefficient_limit, right_limit, RowLimits}
use Rattle.control.specs.Meaning.{Row as Inequality}
use Rattle.case.specs.System.{column_count, none}
use Rattle.case.specs.Values.{CaseValues}
use Rattle.system.specs.Answers.{most_system_rows, most_columns}
use Rattle.certificate.specs.Certificates.{face_over_next}
use Rattle.fourier.specs.Cone.{Narrow}
use Rattle.elimination.specs.declared.row.Row.{Row}
use Rattle.elimination.specs.Rows.{at, multiplier_limit, number_limit, Proper}
use Rattle.elimination.specs.Traced.{Source, source_at, source_right, summed, Traced}
use Rattle.solve.specs.Solving.{system_row, system_rows, turned_face, start_rows}
use Rattle.solve.proofs.Places.{get_or_none, get_d_front, padded_long, padded_within, zeros_low, unit_dot, unit_others, source}

-- a system of at most 40 rows over at most 12 columns and a face, all within their limits
pub record Startable (k : CaseValues) (rows : List Inequality) (face : Inequality) : Type 0 where
  pub few : length rows ≤ most_system_rows
  pub narrow : column_count k ≤ most_columns
  pub each : AllByRecursion (RowLimits (column_count k)) rows
  pub face_long : length (face_over_next k face) ≡ column_count k
  pub face_small : AllByRecursion (Within coefficient_limit) (face_over_next k face)
  pub face_right : Within right_limit face.right

-- the turned face as a source
abbrev pub turned_source : CaseValues → Inequality → Source
turned_source k face = record { coefficients = map neg_ℤ (face_over_next k face); right = neg_ℤ face.right }

-- the multipliers behind the first n are 0
abbrev pub Idle : ℕ → Row → Type 0
Idle n r = (i : ℕ) → n ≤ i → get_or r.multipliers i (pos 0) ≡ pos 0

-- a fact of each row of the system, from its place and its limits
each_row : (P : Row → Type 0) (width top k : ℕ) (rs : List Inequality) → k + length rs ≤ top → ((i : ℕ) (r : Inequality) → i < top → RowLimits width r → P (system_row i r)) → AllByRecursion (RowLimits width) rs → AllByRecursion P (system_rows k rs)
each_row P width top k [] l f h = tt
each_row P width top k (r ∷ rs) l f h = (f k r (omega arith) h.0, each_row P width top (suc k) rs (omega arith) f h.1)

one_low : pos 0 ≤ℤ pos 1
one_low = omega (arith, ints)

one_within : (m : ℕ) → 1 ≤ m → Within m (pos 1)
one_within m l = (omega (arith, ints), omega (arith, ints))

zero_within : (m : ℕ) → Within m (pos 0)
zero_within m = (omega (arith, ints), omega (arith, ints))

one_above : (z : ℤ) → z ≡ pos 1 → pos 0 <ℤ z
one_above z e = omega (arith, ints)

-- limits, lengths and signs
system_row_proper : (width i : ℕ) (r : Inequality) → width ≤ most_columns → i < most_system_rows → RowLimits width r → Proper (system_row i r)
system_row_proper width i r n l h =
    record {
      long = length-set (none most_system_rows) i (pos 1) ∙ length-replicate most_system_rows (pos 0);
      wide = padded_long most_columns r.coefficients (omega (arith, h.wide));
      multipliers = All-set (Within multiplier_limit) (none most_system_rows) i (pos 1) (one_within multiplier_limit (omega arith)) (zeros_within multiplier_limit most_system_rows);
      scale = zero_within multiplier_limit;
      coefficients = padded_within number_limit most_columns r.coefficients (all_wider coefficient_limit number_limit (omega arith) r.coefficients h.small);
      right = h.right_small;
      multipliers_low = All-set (λ m. pos 0 ≤ℤ m) (none most_system_rows) i (pos 1) one_low (zeros_low most_system_rows);
      scale_low = omega (arith, ints);
      weighty = inr (i, one_above _ (get_or-set_same (none most_system_rows) i (pos 1) (pos 0) (omega (arith, length-replicate most_system_rows (pos 0)))));
    }

module _ (k : CaseValues) (rows : List Inequality) (face : Inequality) (startable : Startable k rows face) where
  abbrev turned : List ℤ
  turned = map neg_ℤ (face_over_next k face)

  turned_long : length turned ≡ column_count k
  turned_long = length-map (face_over_next k face) neg_ℤ ∙ startable.face_long

  turned_proper : Proper (turned_face k face)
  turned_proper =
      record {
        long = length-replicate most_system_rows (pos 0);
        wide = padded_long most_columns turned (omega (arith, turned_long, startable.narrow));
        multipliers = zeros_within multiplier_limit most_system_rows;
        scale = one_within multiplier_limit (omega arith);
        coefficients = padded_within number_limit most_columns turned
            (all_wider coefficient_limit number_limit (omega arith) turned
            (All-map (Within coefficient_limit) neg_ℤ (face_over_next k face) (All-weaker (Within coefficient_limit) (λ z. Within coefficient_limit (neg_ℤ z)) (λ z w. negated_within coefficient_limit z w) (face_over_next k face) startable.face_small)));
        right = negated_within right_limit face.right startable.face_right;
        multipliers_low = zeros_low most_system_rows;
        scale_low = one_low;
        weighty = inl (omega (arith, ints));
      }

  pub start_proper : AllByRecursion Proper (start_rows k rows face)
  start_proper =
      All-push Proper (system_rows 0 rows) (turned_face k face)
      (each_row Proper (column_count k) most_system_rows 0 rows (omega (arith, startable.few)) (λ i r l h. system_row_proper (column_count k) i r startable.narrow l h) startable.each) turned_proper

  -- 0 from the last column on
  pub start_narrow : AllByRecursion (Narrow at (column_count k)) (start_rows k rows face)
  start_narrow =
      All-push (Narrow at (column_count k)) (system_rows 0 rows) (turned_face k face)
      (each_row (Narrow at (column_count k)) (column_count k) (length rows) 0 rows (omega arith) (λ i r l h j n. get_d_front r.coefficients _ j ∙ get_or_past r.coefficients j (pos 0) (omega (arith, h.wide))) startable.each)
      (λ j n. get_d_front turned _ j ∙ get_or_past turned j (pos 0) (omega (arith, turned_long)))

  -- 0 behind the multipliers of the system's rows
  pub start_idle : AllByRecursion (Idle (length rows)) (start_rows k rows face)
  start_idle =
      All-push (Idle (length rows)) (system_rows 0 rows) (turned_face k face)
      (each_row (Idle (length rows)) (column_count k) (length rows) 0 rows (omega arith) (λ i r l h j n. unit_others most_system_rows i j (pos 1) (λ e. omega arith)) startable.each)
      (λ j n. get_or_none most_system_rows j)

  -- each row is what its multipliers and its scale say
  abbrev Sources : List Source
  Sources = map source rows

  abbrev Says : Row → Type 0
  Says = Traced Sources (turned_source k face)

  once : (i : ℕ) (part : Source → ℤ) (r : Inequality) → i < most_system_rows → get_or (map part Sources) i (pos 0) ≡ part (source r) → part (source r) ≡ summed part Sources (turned_source k face) (system_row i r)
  once i part r l e = omega (arith, ints, e, unit_dot most_system_rows i (map part Sources) l, zero-*ℤ (part (turned_source k face)))

  rows_traced : (i : ℕ) (rs : List Inequality) → i + length rs ≤ most_system_rows → ((part : Source → ℤ) (j : ℕ) → get_or (map part Sources) (i + j) (pos 0) ≡ get_or (map part (map source rs)) j (pos 0)) → AllByRecursion Says (system_rows i rs)
  rows_traced i [] l h = tt
  rows_traced i (r ∷ rs) l h =
      let here = λ (part : Source → ℤ). once i part r (omega arith) (ap (λ n. get_or (map part Sources) n (pos 0)) (omega arith) ∙ h part 0) in (
        record { columns = λ j. get_d_front r.coefficients _ j ∙ here (source_at j); right = here source_right },
        rows_traced (suc i) rs (omega arith) (λ part j. ap (λ n. get_or (map part Sources) n (pos 0)) (omega arith) ∙ h part (suc j)),
      )

  alone : (part : Source → ℤ) → part (turned_source k face) ≡ summed part Sources (turned_source k face) (turned_face k face)
  alone part = omega (arith, ints, dot_zero most_system_rows (map part Sources))

  pub start_traced : AllByRecursion Says (start_rows k rows face)
  start_traced =
      All-push Says (system_rows 0 rows) (turned_face k face)
      (rows_traced 0 rows (omega (arith, startable.few)) (λ part j. ap (λ n. get_or (map part Sources) n (pos 0)) (omega arith)))
      (record { columns = λ j. get_d_front turned _ j ∙ alone (source_at j); right = alone source_right })
