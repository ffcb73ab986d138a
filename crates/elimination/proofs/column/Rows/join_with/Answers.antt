-- The proof of `join_with`: what the search leaves.
use Rattle.std.proofs.Common.{◌≡◌, false, map, get_or, Err, sym, ap, ◌∙◌, arith, rules}
use Rattle.std.proofs.lemmas.Grind.{common_steps}
use Rattle.elimination.specs.Rows.{joined_row}
use Rattle.elimination.specs.Columns.{negatives, all_allowed}
use Rattle.elimination.proofs.Passing.{elements_fail}
use Rattle.elimination.proofs.Standing.{no_row, judged_allowed, judged_stop, same_trans}
use Rattle.elimination.proofs.column.Rows.join_with.Goals as goal
use Rattle.elimination.proofs.column.Rows.join_with.Goals.{then-is_negative+in_ok-combine, else-is_negative}

pub returns-in_err-combine-clause-rows : goal.returns-in_err-combine-clause-rows
returns-in_err-combine-clause-rows c =
    let j = judged_stop (joined_row c.args.column c.args.p.now (get_or c.args.rows.now c.loop-q.q-index no_row)) c.in_err-combine.field-0.0 (sym c.combine.ensures.value ∙ c.in_err-combine.was) in
    let e : c.from_residual.result ≡ Err c.in_err-combine.field-0.0 = search rules in
    let f : all_allowed (map (joined_row c.args.column c.args.p.now) (negatives c.args.column c.args.rows.now)) ≡ false = grind (arith, elements_fail, j.1) in
    rw f (e ∙ ap Err j.0)

pub loop-q-preserved : goal.loop-q-preserved
loop-q-preserved c = elim c.if-is_negative.branch [
  | then-is_negative+in_ok-combine w ↦
      let j = judged_allowed (joined_row c.args.column c.args.p.now (get_or c.args.rows.now c.loop-q.q-index no_row)) w.in_ok-combine.field-0 (sym w.combine.ensures.value ∙ w.in_ok-combine.was) in
      rw w.self-is record {
        rows = grind (arith, common_steps);
        allowed = grind (arith, common_steps);
        count = grind (arith, common_steps);
        places = same_trans _ _ _ c.loop-q.invariant.places w.push.ensures.places;
      }
  | else-is_negative w ↦ grind (arith, common_steps)
]
