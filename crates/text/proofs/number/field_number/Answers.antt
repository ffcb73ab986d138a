use Rattle.std.proofs.Common.{◌≤ℤ◌, Ok, Err, IfOk, sym, ap, ◌∙◌, subst, arith, w64, SFits, rules}
use Rattle.std.proofs.lemmas.Int.{ints}
use Rattle.std.proofs.lemmas.Bool.Decides.{nat_tests}
use Rattle.text.proofs.Reading.{outside, inside, unread}
use Rattle.text.proofs.Render.{number_form}
use Rattle.text.proofs.Rows.{absent_told, err_is}
use Rattle.text.proofs.number.field_number.Goals as goal
use Rattle.text.proofs.number.field_number.Goals.{then-number-from-via-then-number-from, then-number-from-via-else-number-from+then-from-number}

pub returns-then-number-from : goal.returns-then-number-from
returns-then-number-from c =
    let f : SFits w64 c.args.limit.low = search rules in
    let g : SFits w64 c.args.limit.high = search rules in
    record {
      form = number_form c.args.field.now;
      inside = tt;
      value = outside c.args.limit.low c.args.limit.high c.in_ok-number.number _ f g (sym c.in_ok-number.ensures.ok_part ∙ c.wide_number.ensures)
          (elim c.then-number-from.branch [
            | then-number-from-via-then-number-from w ↦ grind (arith, ints, nat_tests, w.if-number-from.true)
            | then-number-from-via-else-number-from+then-from-number w ↦ grind (arith, ints, nat_tests, w.if-from-number.true)
          ]);
    }

pub returns : goal.returns
returns c =
    let f : SFits w64 c.args.limit.low = search rules in
    let g : SFits w64 c.args.limit.high = search rules in
    record {
      form = number_form c.args.field.now;
      inside = (grind (arith, ints, nat_tests), grind (arith, ints, nat_tests));
      value = ap Ok (omega (arith, ints))
          ∙ inside c.args.limit.low c.args.limit.high c.in_ok-number.number _ f g (sym c.in_ok-number.ensures.ok_part ∙ c.wide_number.ensures) (grind (arith, ints, nat_tests));
    }

pub returns-in_err-number : goal.returns-in_err-number
returns-in_err-number c =
    let e = err_is c.from_residual.result c.in_err-number.field-0.0 c.from_residual.ensures.1 in
    let told = ap Err (absent_told _ _ _ c.in_err-number.ensures.value c.in_err-number.ensures.ok_part) in
    record {
      value = e ∙ told ∙ unread c.args.limit.low c.args.limit.high _ (sym c.in_err-number.ensures.ok_part ∙ c.wide_number.ensures);
      inside = subst (λ r. IfOk r (λ z. (c.args.limit.low ≤ℤ z) × (z ≤ℤ c.args.limit.high))) (sym e) tt;
      form = number_form c.args.field.now;
    }
