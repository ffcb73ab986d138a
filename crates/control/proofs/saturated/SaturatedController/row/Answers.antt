-- The proof of `Saturated::row`: what the search leaves.
use Rattle.std.proofs.Common.{refl, ◌≡◌, ◌≢◌, ◌+◌, ◌-◌, ◌≤◌, length, Ok, sym, ap, ◌∙◌, inl, inr, arith, w64, SFits, rules}
use Rattle.std.proofs.lemmas.Int.{to_z-of_z}
use Rattle.std.proofs.lemmas.List.{length-map}
use Rattle.std.proofs.lemmas.Bool.{eq-eqb, ne_eqb}
use Rattle.control.specs.declared.input.Limited.{Limited}
use Rattle.control.specs.PerInput.{items}
use Rattle.control.specs.Held.{inputs_of, partition_of, rows_of}
use Rattle.control.proofs.Outcomes.{row_missing, row_short, row_found}
use Rattle.control.specs.Lawful.Spread.{filled}
use Rattle.control.specs.Lawful.Inputs.{ok_input, gains_long, gains_within}
use Rattle.control.proofs.SaturatedRows.{means, such_row, no_such_row, that_row}
use Rattle.control.proofs.saturated.SaturatedController.row.Goals as goal
use Rattle.control.proofs.saturated.SaturatedController.row.Goals.{then-row-lt1-via-then-row-lt1, then-row-lt1-via-else-row-lt1+then-row-row_count}

pub returns-then-row-lt1 : goal.returns-then-row-lt1
returns-then-row-lt1 c =
    let s = c.args.self.now in
    let k = c.args.region in
    let high : k ≤ length (partition_of s) = omega (arith, c.region_count.ensures) in
    let p = row_missing (means s) k c.args.row c.args.coefficients.now
    (no_such_row s k c.args.row c.if-region-lt1.false high
    (elim c.then-row-lt1.branch [
      | then-row-lt1-via-then-row-lt1 w ↦ inl w.if-row-lt1.true
      | then-row-lt1-via-else-row-lt1+then-row-row_count w ↦ inr (omega (arith, w.row_count.ensures, w.if-row-row_count.true))
    ])) in
    record { answer = p.0; fills = p.1 }

pub returns-then-coefficients-self-clause-answer : goal.returns-then-coefficients-self-clause-answer
returns-then-coefficients-self-clause-answer c =
    let s = c.args.self.now in
    let k = c.args.region in
    let high : k ≤ length (partition_of s) = omega (arith, c.region_count.ensures) in
    let h : c.args.row ≤ length (rows_of s (k - 1)) = omega (arith, c.row_count.ensures) in
    let ne : length c.args.coefficients.now ≢ s.states.count + length (inputs_of s.inputs) = omega (arith, c.count.ensures, length-map (items s.inputs) (λ (t : Limited). t.input)) in
    (row_short (means s) k c.args.row c.args.coefficients.now (such_row s k c.args.row c.if-region-lt1.false high c.if-row-lt1.false h) (ne_eqb _ _ ne)).0

pub fill_row-requires-clause-small : goal.fill_row-requires-clause-small
fill_row-requires-clause-small c =
    let l = c.placed-placed.result.input in gains_within c.args.self.now.states.count l.input (ok_input l.input l.kept)

pub returns : goal.returns
returns c =
    let s = c.args.self.now in
    let k = c.args.region in
    let i = c.placed-placed.result.input in
    let l = c.placed-placed.result.line in
    let f : SFits w64 l.right = search rules in
    let high : k ≤ length (partition_of s) = omega (arith, c.region_count.ensures) in
    let h : c.args.row ≤ length (rows_of s (k - 1)) = omega (arith, c.row_count.ensures) in
    let wide : length c.args.coefficients.now ≡ s.states.count + length (inputs_of s.inputs) = omega (arith, c.count.ensures, length-map (items s.inputs) (λ (t : Limited). t.input)) in
    let p = row_found (means s) k c.args.row c.args.coefficients.now (such_row s k c.args.row c.if-region-lt1.false high c.if-row-lt1.false h) (eq-eqb _ _ wide) in
    let t = that_row s k c.args.row c.if-region-lt1.false high ∙ c.placed-placed.ensures.row in
    record {
      answer = ap Ok (to_z-of_z w64 _ f ∙ sym (ap (λ r. r.right) t)) ∙ p.0;
      fills =
          filled s.states.count (length (inputs_of s.inputs)) c.placed-placed.result.place _ _ c.args.coefficients.now _ _ _ refl
          (gains_long s.states.count i.input s.states.few (ok_input i.input i.kept)) wide c.fill_row.ensures t
          ∙ p.1;
    }
