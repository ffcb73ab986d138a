-- The proof of `Fixed::row`: what the search leaves.
use Rattle.std.proofs.Common.{◌≡◌, ◌+◌, ◌*◌, ◌≤◌, ◌-◌, ◌/◌, length, replicate, pos, Ok, sym, ap, ◌∙◌, arith, w64, SFits, rules}
use Rattle.std.proofs.lemmas.List.{length-replicate, take-replicate}
use Rattle.std.proofs.lemmas.Int.{to_z-of_z}
use Rattle.std.proofs.lemmas.Bool.{eq-eqb}
use Rattle.control.specs.Limits.{most_states}
use Rattle.control.specs.Lines.{row_from}
use Rattle.control.specs.PerInput.{items}
use Rattle.control.proofs.Outcomes.{row_found}
use Rattle.control.specs.Lawful.Spread.{filled}
use Rattle.control.proofs.FixedRows.{means, such_row, that_row, code_line}
use Rattle.control.proofs.fixed.FixedController.row.Goals as goal

pub returns : goal.returns
returns c =
    let s = c.args.self.now in
    let m = length (items s.commands) in
    let long : c.args.row ≤ 2 * m = omega (arith, c.count.ensures) in
    let wide : length c.args.coefficients.now ≡ s.states.count + m = omega (arith, c.count-2.ensures) in
    let h : SFits w64 c.command_line-line.result.right = search rules in
    let f : SFits w64 c.at.result = search rules in
    let l = code_line (items s.commands) (c.args.row - 1) _ _ c.at.ensures f c.command_line-line.ensures.line in
    let p = row_found (means s.states.count s.commands) c.args.region c.args.row c.args.coefficients.now (such_row s.states.count s.commands _ _ c.if-region-ne1.false c.if-row-lt1.false long) (eq-eqb _ _ wide) in
    let t = that_row s.states.count s.commands _ _ c.if-region-ne1.false c.if-row-lt1.false long in
    record {
      answer = ap Ok (to_z-of_z w64 _ h ∙ ap (λ r. r.right) l ∙ sym (ap (λ r. r.right) t)) ∙ p.0;
      fills =
          filled s.states.count m ((c.args.row - 1) / 2) _ _ c.args.coefficients.now _ _ _ (take-replicate s.states.count most_states (pos 0) s.states.few)
          (length-replicate s.states.count (pos 0)) wide c.fill_row.ensures (t ∙ ap (row_from (replicate s.states.count (pos 0)) m ((c.args.row - 1) / 2)) (sym l))
          ∙ p.1;
    }
