-- The proof of `join_all`: what the search leaves.
use Rattle.std.proofs.Common.{◌≡◌, ℕ, ◌+◌, ◌*◌, ◌≤◌, false, map, length, get_or, take, Err, ap, ◌∙◌, suc-mul, arith, rules}
use Rattle.std.proofs.lemmas.Nat.{mul-le}
use Rattle.std.proofs.lemmas.Grind.{common_steps}
use Rattle.elimination.specs.Rows.{joined_row}
use Rattle.elimination.specs.Columns.{positives, negatives, pairs, all_allowed}
use Rattle.elimination.specs.Standing.{standing}
use Rattle.elimination.proofs.Passing.{fewer_before, lists_fail}
use Rattle.elimination.proofs.Standing.{no_row, puts_ok, puts_stop, same_trans}
use Rattle.elimination.proofs.column.Rows.join_all.Goals as goal
use Rattle.elimination.proofs.column.Rows.join_all.Goals.{then-is_positive+in_ok-join_with, else-is_positive}

-- so many rows for each of one more row
one_more : (k m n : ℕ) → m ≡ k + 1 → m * n ≡ k * n + n
one_more k m n e = rw e (omega (arith, suc-mul k n))

pub join_with-requires-clause-room : goal.join_with-requires-clause-room
join_with-requires-clause-room c =
    let k = length (positives c.args.column (take c.loop-p.p-index c.args.rows.now)) in
    let n = length (negatives c.args.column c.args.rows.now) in
    let f : k + 1 ≤ length (positives c.args.column c.args.rows.now) = grind (arith, fewer_before) in
    let m = mul-le (k + 1) n (length (positives c.args.column c.args.rows.now)) n f (omega arith) in
    omega (arith, one_more k (k + 1) n, m)

pub returns-in_err-join_with-clause-rows : goal.returns-in_err-join_with-clause-rows
returns-in_err-join_with-clause-rows c =
    let new = map (joined_row c.args.column (get_or c.args.rows.now c.loop-p.p-index no_row)) (negatives c.args.column c.args.rows.now) in
    let j = puts_stop (standing c.loop-p.self) new (standing c.join_with.new.self) c.join_with.result c.in_err-join_with.field-0.0 c.join_with.ensures.rows c.in_err-join_with.was in
    let e : c.from_residual.result ≡ Err c.in_err-join_with.field-0.0 = search rules in
    let f : all_allowed (pairs c.args.column (positives c.args.column c.args.rows.now) (negatives c.args.column c.args.rows.now)) ≡ false = grind (arith, lists_fail, j.1) in
    rw f (e ∙ ap Err j.0)

pub loop-p-preserved : goal.loop-p-preserved
loop-p-preserved c = elim c.if-is_positive.branch [
  | then-is_positive+in_ok-join_with w ↦
      let new = map (joined_row c.args.column (get_or c.args.rows.now c.loop-p.p-index no_row)) (negatives c.args.column c.args.rows.now) in
      let j = puts_ok (standing c.loop-p.self) new (standing w.join_with.new.self) w.join_with.result w.join_with.ensures.rows w.in_ok-join_with.was in
      rw w.self-is record {
        rows = grind (arith, common_steps, j.1);
        allowed = grind (arith, common_steps, j.0);
        count = grind (arith, common_steps, one_more, w.in_ok-join_with.ensures.count);
        places = same_trans _ _ _ c.loop-p.invariant.places w.join_with.ensures.places;
      }
  | else-is_positive w ↦ grind (arith, common_steps)
]
