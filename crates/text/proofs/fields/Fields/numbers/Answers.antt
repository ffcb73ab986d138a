use Rattle.std.proofs.Common.{◌≡◌, ℕ, ◌+◌, List, [], length, get_or, take, replicate, ℤ, pos, Ok, Option, Result, sym, ap, ◌∙◌, arith, length-set, w64, SFits, rules}
use native.Mathlib.Nat.{sub-zero}
use Rattle.std.proofs.lemmas.List.{length-replicate}
use Rattle.std.proofs.lemmas.Int.{to_z-of_z}
use Rattle.text.specs.Left.{left_of}
use Rattle.text.specs.Lines.{bind, numbers_of, next_number, end_of, place, padded_to, wide_row_of}
use Rattle.text.specs.declared.number.Limit.{Limit}
use Rattle.text.specs.declared.faults.TextFault.{TextFault}
use Rattle.text.proofs.Rows.{onto, onto_none, err_is, row_more, row_stops, row_ends, row_full_to, rest_more}
use Rattle.text.proofs.fields.Fields.numbers.Goals as goal

-- the row of the limits that are used
over : (w line before : ℕ) (used limits : List Limit) (left : Option (List ℕ)) (r : Result (List ℤ) TextFault)
    → used ≡ take w limits → numbers_of line (before + 1) used left ≡ r → bind r (λ zs. Ok (padded_to w zs)) ≡ wide_row_of w line before (take w limits) left
over w line before used limits left r u e =
    sym (ap (λ t. bind t (λ zs. Ok (padded_to w zs))) (ap (λ ls. numbers_of line (before + 1) ls left) (sym u) ∙ e))

abbrev none : Limit
none = record { low = pos 0; high = pos 0 }

pub loop-i-init : goal.loop-i-init
loop-i-init g c =
    let e : c.args.before + 0 + 1 ≡ c.args.before + 1 = omega arith in (
      length-replicate g.row.N (pos 0),
      ap (λ n. replicate n (pos 0)) (sym (sub-zero g.row.N)),
      ap (λ f. onto [] (numbers_of c.args.line f c.row_limits-used.result.now (left_of c.args.self))) e ∙ onto_none _,
    )

pub returns-in_err-row : goal.returns-in_err-row
returns-in_err-row g c =
    let e : c.from.result + c.loop-i.i + 1 ≡ c.args.before + c.loop-i.i + 1 = omega arith in
    record {
      value = err_is c.from_residual.result c.in_err-row.field-0.0 c.from_residual.ensures.1
          ∙ over g.row.N c.args.line c.args.before c.row_limits-used.result.now c.args.limits.now (left_of c.args.self) _ c.row_limits-used.ensures.value
          (row_stops c.args.line _ c.loop-i.i (take c.loop-i.i c.loop-i.row) c.row_limits-used.result.now none (left_of c.loop-i.self) _ _ c.loop-i-test.true
          (c.in_err-row.ensures.value ∙ ap (λ f. next_number (place c.args.line f) (get_or c.row_limits-used.result.now c.loop-i.i none) (left_of c.loop-i.self)) e) c.loop-i.invariant.2);
    }

pub loop-i-preserved : goal.loop-i-preserved
loop-i-preserved g c =
    let h = c.in_ok-row.ensures in
    let e : c.from.result + c.loop-i.i + 1 ≡ c.args.before + c.loop-i.i + 1 = omega arith in
    let n : c.args.before + (c.loop-i.i + 1) + 1 ≡ c.args.before + c.loop-i.i + 1 + 1 = omega arith in
    let f : SFits w64 c.in_ok-row.field-0 = search rules in
    simp (to_z-of_z, n) (
      length-set c.loop-i.row c.loop-i.i c.in_ok-row.field-0 ∙ c.loop-i.invariant.0,
      rest_more g.row.N c.loop-i.i c.loop-i.row c.in_ok-row.field-0 (pos 0) c.loop-i.invariant.1,
      row_more c.args.line _ c.loop-i.i c.loop-i.row c.row_limits-used.result.now none (left_of c.loop-i.self) _ _ _ c.loop-i-test.true (omega arith)
          (h.value ∙ ap (λ f. next_number (place c.args.line f) (get_or c.row_limits-used.result.now c.loop-i.i none) (left_of c.loop-i.self)) e) h.left c.loop-i.invariant.2,
    )

pub returns-in_err-end : goal.returns-in_err-end
returns-in_err-end g c =
    let k : c.loop-i.i ≡ length c.row_limits-used.result.now = omega arith in
    let e : c.from-2.result + length c.row_limits-used.result.now + 1 ≡ c.args.before + c.loop-i.i + 1 = omega arith in
    record {
      value = err_is c.from_residual-in_err-end.result c.in_err-end.field-0.0 c.from_residual-in_err-end.ensures.1
          ∙ over g.row.N c.args.line c.args.before c.row_limits-used.result.now c.args.limits.now (left_of c.args.self) _ c.row_limits-used.ensures.value
          (row_ends c.args.line _ c.loop-i.i (take c.loop-i.i c.loop-i.row) c.row_limits-used.result.now (left_of c.loop-i.self) _ _ c.loop-i-test.false
          (c.in_err-end.ensures ∙ ap (λ f. end_of (place c.args.line f) (left_of c.loop-i.self)) e) c.loop-i.invariant.2);
    }

pub returns : goal.returns
returns g c =
    let k : c.loop-i.i ≡ length c.row_limits-used.result.now = omega arith in
    let e : c.from-2.result + length c.row_limits-used.result.now + 1 ≡ c.args.before + c.loop-i.i + 1 = omega arith in
    record {
      value = ap Ok (row_full_to g.row.N c.loop-i.i c.loop-i.row (omega arith) c.loop-i.invariant.1)
          ∙ over g.row.N c.args.line c.args.before c.row_limits-used.result.now c.args.limits.now (left_of c.args.self) _ c.row_limits-used.ensures.value
          (row_ends c.args.line _ c.loop-i.i (take c.loop-i.i c.loop-i.row) c.row_limits-used.result.now (left_of c.loop-i.self) _ _ c.loop-i-test.false
          (c.in_ok-end.ensures ∙ ap (λ f. end_of (place c.args.line f) (left_of c.loop-i.self)) e) c.loop-i.invariant.2);
    }
