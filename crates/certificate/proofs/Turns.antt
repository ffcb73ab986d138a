-- The turns of the loop that adds up the rows of a proof.
use Rattle.std.proofs.Common.{◌≡◌, ℕ, ◌+◌, ◌*◌, ◌<◌, ◌≤◌, true, List, [], ◌∷◌, length, get_or, drop, ℤ, pos, ◌+ℤ◌, ◌*ℤ◌, sym, ap, ◌∙◌, subst, arith, lit<, w64, to_z, of_z}
use lib.IntN.{zero-*ℤ}
use Rattle.std.specs.List.{AllByRecursion}
use Rattle.std.proofs.ByRecursion.{All-get_or}
use Rattle.std.proofs.lemmas.List.{at_drop_all, drop_more, length-map, length-replicate}
use Rattle.std.proofs.lemmas.Int.{ints, to_z-of_z}
use Rattle.arith.specs.Bounds.{Within}
use Rattle.arith.proofs.Bounds.{all_wider, product_within, sfits_within, within_wider, zeros_within}
use Rattle.control.specs.Answers.{no_row}
use Rattle.control.specs.Limits.{coefficient_limit, right_limit, RowLimits}
use Rattle.control.specs.Meaning.{Row}
use Rattle.case.specs.System.{none}
use Rattle.system.specs.Answers.{most_system_rows}
use Rattle.system.specs.Filled.{filled}
use Rattle.certificate.specs.Certificates.{scaled, added, column_sums, right_sum}
use Rattle.certificate.specs.Tests.{multiplier_limit, all_in_limit}
use Rattle.certificate.proofs.Adding.{added_assoc, added_comm, added_none, scaled_zero, length_added, added_within, scaled_within, Computed, computed}
use Rattle.certificate.proofs.Found.{limited_within}
use Rattle.certificate.proofs.Tested.{Limited, decides_all_in_limit}

-- the bounds of multiplier × coefficient and of multiplier × right side
abbrev pub term_limit : ℕ
term_limit = multiplier_limit * coefficient_limit

abbrev pub right_term_limit : ℕ
right_term_limit = multiplier_limit * right_limit

-- the sums over the rows below i
pub record Summed (width : ℕ) (ms : List ℤ) (rows : List Row) (i : ℕ) (sums : List ℤ) (sum : ℤ) : Type 0 where
  pub long : length sums ≡ width
  pub columns : added sums (column_sums width (drop i ms) (drop i rows)) ≡ column_sums width ms rows
  pub rights : sum +ℤ right_sum (drop i ms) (drop i rows) ≡ right_sum ms rows
  pub small : AllByRecursion (Within (i * term_limit)) sums
  pub right_small : Within (i * right_term_limit) sum

-- the same sums
pub summed_same : (width : ℕ) (ms : List ℤ) (rows : List Row) (i : ℕ) (sums sums' : List ℤ) (sum sum' : ℤ) → sums' ≡ sums → sum' ≡ sum → Summed width ms rows i sums sum → Summed width ms rows i sums' sum'
summed_same width ms rows i sums sums' sum sum' e f s = subst (λ l. Summed width ms rows i l sum') (sym e) (subst (Summed width ms rows i sums) (sym f) s)

pub column_sums_long : (width : ℕ) (ms : List ℤ) (rows : List Row) → AllByRecursion (RowLimits width) rows → length (column_sums width ms rows) ≡ width
column_sums_long width [] rows l = length-replicate width (pos 0)
column_sums_long width (m ∷ ms) [] l = length-replicate width (pos 0)
column_sums_long width (m ∷ ms) (r ∷ rows) l =
    let one : length (scaled m r.coefficients) ≡ width = length-map r.coefficients (λ z. m *ℤ z) ∙ l.0.wide in
    length_added (scaled m r.coefficients) (column_sums width ms rows) (one ∙ sym (column_sums_long width ms rows l.1)) ∙ one

pub summed_none : (width : ℕ) (ms : List ℤ) (rows : List Row) → AllByRecursion (RowLimits width) rows → Summed width ms rows 0 (none width) (pos 0)
summed_none width ms rows l =
    let all = column_sums width ms rows in
    record {
      long = length-replicate width (pos 0);
      columns = added_comm (none width) all ∙ added_none width all (omega (arith, column_sums_long width ms rows l));
      rights = omega (arith, ints);
      small = zeros_within (0 * term_limit) width;
      right_small = (omega (arith, ints), omega (arith, ints));
    }

-- what is left, one row on
columns_left : (width : ℕ) (ms : List ℤ) (rows : List Row) (i : ℕ) → i < length ms → i < length rows → column_sums width (drop i ms) (drop i rows) ≡ added (scaled (get_or ms i (pos 0)) (get_or rows i no_row).coefficients) (column_sums width (drop (i + 1) ms) (drop (i + 1) rows))
columns_left width ms rows i lt lr =
    ap (λ l. column_sums width l (drop i rows)) (drop_more ms i (pos 0) lt) ∙ ap (column_sums width (get_or ms i (pos 0) ∷ drop (i + 1) ms)) (drop_more rows i no_row lr)

rights_left : (ms : List ℤ) (rows : List Row) (i : ℕ) → i < length ms → i < length rows → right_sum (drop i ms) (drop i rows) ≡ get_or ms i (pos 0) *ℤ (get_or rows i no_row).right +ℤ right_sum (drop (i + 1) ms) (drop (i + 1) rows)
rights_left ms rows i lt lr =
    ap (λ l. right_sum l (drop i rows)) (drop_more ms i (pos 0) lt) ∙ ap (right_sum (get_or ms i (pos 0) ∷ drop (i + 1) ms)) (drop_more rows i no_row lr)

-- the row of place i, with its multiplier
module _ (width : ℕ) (ms : List ℤ) (rows : List Row) (i : ℕ) (sums : List ℤ) (sum : ℤ) (lt : i < length ms) (lr : i < length rows) (row : RowLimits width (get_or rows i no_row)) (limit : Within multiplier_limit (get_or ms i (pos 0))) (before : Summed width ms rows i sums sum) where
  pub summed_more : Summed width ms rows (i + 1) (added sums (scaled (get_or ms i (pos 0)) (get_or rows i no_row).coefficients)) (sum +ℤ get_or ms i (pos 0) *ℤ (get_or rows i no_row).right)
  summed_more =
      let m = get_or ms i (pos 0) in
      let r = get_or rows i no_row in
      let term = scaled m r.coefficients in
      let wide : length term ≡ width = length-map r.coefficients (λ z. m *ℤ z) ∙ row.wide in
      let p : Within right_term_limit (m *ℤ r.right) = product_within multiplier_limit right_limit m r.right limit row.right_small in
      let next : i * term_limit + term_limit ≡ (i + 1) * term_limit = omega arith in
      record {
        long = length_added sums term (before.long ∙ sym wide) ∙ before.long;
        columns = added_assoc sums term (column_sums width (drop (i + 1) ms) (drop (i + 1) rows)) ∙ ap (added sums) (sym (columns_left width ms rows i lt lr)) ∙ before.columns;
        rights = omega (arith, ints, before.rights, rights_left ms rows i lt lr);
        small = subst (λ n. AllByRecursion (Within n) (added sums term)) next (added_within (i * term_limit) term_limit sums term before.small (scaled_within multiplier_limit coefficient_limit m r.coefficients limit row.small));
        right_small = (omega (arith, ints, p.0, before.right_small.0), omega (arith, ints, p.1, before.right_small.1));
      }

  -- a multiplier of 0 adds nothing
  pub summed_skip : get_or ms i (pos 0) ≡ pos 0 → Summed width ms rows (i + 1) sums sum
  summed_skip e =
      let r = get_or rows i no_row in
      let le : length sums ≤ length r.coefficients = omega (arith, before.long, row.wide) in
      let c : added sums (scaled (get_or ms i (pos 0)) r.coefficients) ≡ sums =
      ap (λ m. added sums (scaled m r.coefficients)) e ∙ ap (added sums) (scaled_zero r.coefficients) ∙ added_none (length r.coefficients) sums le in
      let d : sum +ℤ get_or ms i (pos 0) *ℤ r.right ≡ sum = ap (λ m. sum +ℤ m *ℤ r.right) e ∙ omega (arith, ints, zero-*ℤ r.right) in
      summed_same width ms rows (i + 1) _ sums _ sum (sym c) (sym d) summed_more

-- all rows
pub summed_all : (width : ℕ) (ms : List ℤ) (rows : List Row) (i : ℕ) (sums : List ℤ) (sum : ℤ) → length ms ≤ i → Summed width ms rows i sums sum → (sums ≡ column_sums width ms rows) × (sum ≡ right_sum ms rows)
summed_all width ms rows i sums sum le all = (
  sym (ap (added sums) (at_drop_all (λ l. column_sums width l (drop i rows)) ms i le) ∙ added_none width sums (omega (arith, all.long))) ∙ all.columns,
  omega (arith, ints, all.rights, at_drop_all (λ l. right_sum l (drop i rows)) ms i le),
)

-- one turn: what holds at multiplier i
pub record Turn (width : ℕ) (ms : List ℤ) (rows : List Row) (i : ℕ) (sums : List ℤ) (sum : ℤ) : Type 0 where
  pub small : AllByRecursion (RowLimits width) rows
  pub few : length rows ≤ most_system_rows
  pub long : length ms ≡ length rows
  pub all : all_in_limit ms ≡ true
  pub lt : i < length ms
  pub before : Summed width ms rows i sums sum

module _ {width : ℕ} {ms : List ℤ} {rows : List Row} {i : ℕ} {sums : List ℤ} {sum : ℤ} (t : Turn width ms rows i sums sum) where
  multiplier_small : Within multiplier_limit (get_or ms i (pos 0))
  multiplier_small = limited_within (get_or ms i (pos 0)) (All-get_or Limited ms i (pos 0) t.lt ((decides_all_in_limit ms).0 t.all))

  row_small : RowLimits width (get_or rows i no_row)
  row_small = All-get_or (RowLimits width) rows i no_row (omega arith) t.small

  pub multiplier_read : to_z w64 (of_z w64 (get_or ms i (pos 0))) ≡ get_or ms i (pos 0)
  multiplier_read = to_z-of_z w64 (get_or ms i (pos 0)) (sfits_within multiplier_limit (get_or ms i (pos 0)) (lit< tt) multiplier_small)

  pub multiplier_within : Within multiplier_limit (to_z w64 (of_z w64 (get_or ms i (pos 0))))
  multiplier_within = subst (Within multiplier_limit) (sym multiplier_read) multiplier_small

  pub sums_within : AllByRecursion (Within (most_system_rows * term_limit)) sums
  sums_within = all_wider (i * term_limit) (most_system_rows * term_limit) (omega (arith, t.few)) sums t.before.small

  -- a multiplier of 0
  pub turn_skipped : of_z w64 (get_or ms i (pos 0)) ≡ 0 → Summed width ms rows (i + 1) sums sum
  turn_skipped e = summed_skip width ms rows i sums sum t.lt (omega arith) row_small multiplier_small t.before (sym multiplier_read ∙ ap (to_z w64) e)

  -- the row of place i as it was filled in
  module _ {right : ℤ} {coefficients : List ℤ} (row : filled coefficients right ≡ get_or rows i no_row) where
    pub turn_row : RowLimits width (filled coefficients right)
    turn_row = subst (RowLimits width) (sym row) row_small

    pub turn_computed : Computed sum (get_or ms i (pos 0)) right
    turn_computed =
        let few : i * right_term_limit ≤ most_system_rows * right_term_limit = omega (arith, t.few) in
        computed (most_system_rows * right_term_limit) multiplier_limit right_limit sum (get_or ms i (pos 0)) right (lit< tt) (lit< tt) (lit< tt)
        (within_wider (i * right_term_limit) (most_system_rows * right_term_limit) few sum t.before.right_small) multiplier_small turn_row.right_small

    -- the sums as the code computes them
    pub turn_added : (sums' : List ℤ) (sum' : ℤ) → sums' ≡ added sums (scaled (to_z w64 (of_z w64 (get_or ms i (pos 0)))) coefficients) → sum' ≡ to_z w64 (of_z w64 (sum +ℤ to_z w64 (of_z w64 (to_z w64 (of_z w64 (get_or ms i (pos 0))) *ℤ to_z w64 (of_z w64 right))))) → Summed width ms rows (i + 1) sums' sum'
    turn_added sums' sum' es e =
        let m = get_or ms i (pos 0) in
        summed_same width ms rows (i + 1) _ sums' _ sum'
        (es ∙ ap (λ z. added sums (scaled z coefficients)) multiplier_read ∙ ap (λ r. added sums (scaled m r.coefficients)) row)
        (e ∙ turn_computed.sum ∙ ap (λ r. sum +ℤ m *ℤ r.right) row)
        (summed_more width ms rows i sums sum t.lt (omega arith) row_small multiplier_small t.before)
