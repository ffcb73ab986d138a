-- The proof of `count_signs`: what the search leaves.
use Rattle.std.proofs.Common.{◌≡◌, ℕ, ◌+◌, ◌<◌, Bool, true, false, cond, List, length, get_or, take, filter, sym, ap, ◌∙◌, arith}
use Rattle.std.proofs.lemmas.Grind.{common_steps}
use Rattle.std.proofs.lemmas.List.Filters.{length-filter_more}
use Rattle.std.proofs.lemmas.List.Sums.{length-filter}
use Rattle.elimination.specs.declared.row.Row.{Row}
use Rattle.fourier.specs.Cone.{is_zero, is_positive, is_negative}
use Rattle.elimination.specs.Rows.{coefficient}
use Rattle.elimination.proofs.Signs.{zero_is, positive_only, negative_left}
use Rattle.elimination.proofs.Standing.{no_row}
use Rattle.elimination.proofs.column.count_signs.Goals as goal
use Rattle.elimination.proofs.column.count_signs.Goals.{then-is_zero, else-is_zero+then-is_positive, else-is_zero+else-is_positive}

-- a row that passes a test is one more, and another is none
one_more : (test : Row → Bool) (rows : List Row) (i : ℕ) → i < length rows → (b : Bool) → test (get_or rows i no_row) ≡ b → (m n : ℕ) → m ≡ length (filter test (take i rows)) → n ≡ m + cond b 1 0
    → n ≡ length (filter test (take (i + 1) rows))
one_more test rows i l b t m n h k = omega (arith, h, k, rw t at (length-filter_more test rows i no_row l))

pub overflow_add-zero : goal.overflow_add-zero
overflow_add-zero c = grind (arith, common_steps, length-filter)

pub overflow_add-positive : goal.overflow_add-positive
overflow_add-positive c = grind (arith, common_steps, length-filter)

pub overflow_add-negative : goal.overflow_add-negative
overflow_add-negative c = grind (arith, common_steps, length-filter)

pub loop-row-preserved : goal.loop-row-preserved
loop-row-preserved c =
    let n = c.loop-row in
    let m = c.if-is_zero in
    let h = n.invariant in
    let rows = c.args.rows.now in
    let z = coefficient (get_or rows n.row-index no_row) c.args.column in
    let zeros = one_more (λ r. is_zero (coefficient r c.args.column)) rows n.row-index c.loop-row-test.true in
    let positives = one_more (λ r. is_positive (coefficient r c.args.column)) rows n.row-index c.loop-row-test.true in
    let negatives = one_more (λ r. is_negative (coefficient r c.args.column)) rows n.row-index c.loop-row-test.true in
    elim c.if-is_zero.branch [
      | then-is_zero w ↦
          let e = sym c.is_zero.ensures.value ∙ w.if-is_zero.true in
          let v = zero_is z e in
          record {
            zero = zeros true e n.zero m.zero h.zero (omega (arith, w.zero-is));
            positive = positives false (ap is_positive v) n.positive m.positive h.positive (omega (arith, w.positive-is));
            negative = negatives false (ap is_negative v) n.negative m.negative h.negative (omega (arith, w.negative-is));
          }
      | else-is_zero+then-is_positive w ↦
          let e = sym w.is_positive.ensures.value ∙ w.if-is_positive.true in
          record {
            zero = zeros false (sym c.is_zero.ensures.value ∙ w.if-is_zero.false) n.zero m.zero h.zero (omega (arith, w.zero-is));
            positive = positives true e n.positive m.positive h.positive (omega (arith, w.positive-is));
            negative = negatives false (positive_only z e).1 n.negative m.negative h.negative (omega (arith, w.negative-is));
          }
      | else-is_zero+else-is_positive w ↦
          let e = sym c.is_zero.ensures.value ∙ w.if-is_zero.false in
          let f = sym w.is_positive.ensures.value ∙ w.if-is_positive.false in
          record {
            zero = zeros false e n.zero m.zero h.zero (omega (arith, w.zero-is));
            positive = positives false f n.positive m.positive h.positive (omega (arith, w.positive-is));
            negative = negatives true (negative_left z e f) n.negative m.negative h.negative (omega (arith, w.negative-is));
          }
    ]
