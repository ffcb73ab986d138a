-- The rows of a stored case have the lengths that its sizes say.
use Rattle.std.proofs.Common.{◌≡◌, ℕ, ◌≤◌, List, length, take, ℤ, sym, ◌∙◌, arith}
use Rattle.std.proofs.ByRecursion.{All-map, All-weaker}
use Rattle.std.proofs.lemmas.List.{length-take-le}
use Rattle.control.specs.Limits.{most_states, most_inputs}
use Rattle.case.specs.declared.values.StateEquation.{StateEquation}
use Rattle.case.specs.declared.values.Case.{Case}
use Rattle.case.specs.Limits.{most_pushes}
use Rattle.case.specs.Values.{state_count, equation_of, extra_of, values_of}
use Rattle.case.proofs.Stored.{RowOk, EquationOk, ExtraOk, states_are, pushes_are, stored_equations, stored_extras}
use Rattle.system.proofs.Rows.{EquationWide}
use Rattle.system.proofs.Bridged.{Wide}

front_long : (n width : ℕ) (row : List ℤ) → RowOk width row → n ≤ width → length (take n row) ≡ n
front_long n width row ok le = let h : n ≤ length row = omega (arith, ok.long) in length-take-le n row h

equation_wide : (c : Case) (s : StateEquation) → EquationOk s → EquationWide (values_of c) (equation_of c.states c.inputs c.pushes s)
equation_wide c s ok =
    record {
      a_long = front_long c.states most_states s.a ok.a_ok c.sizes.1 ∙ sym (states_are c);
      b_long = front_long c.inputs most_inputs s.b ok.b_ok c.sizes.3;
      e_long = front_long c.pushes most_pushes s.e ok.e_ok c.counts.0 ∙ sym (pushes_are c);
    }

pub case_wide : (c : Case) → Wide (values_of c)
case_wide c =
    let S = equation_of c.states c.inputs c.pushes in
    let F = extra_of c.states in
    record {
      equations_wide =
          All-map (EquationWide (values_of c)) S (take c.states c.equations)
          (All-weaker EquationOk (λ s. EquationWide (values_of c) (S s)) (equation_wide c) (take c.states c.equations) (stored_equations c));
      extra_wide =
          All-map (λ f. length f.coefficients ≡ state_count (values_of c)) F (take c.extras c.extra)
          (All-weaker ExtraOk (λ f. length (F f).coefficients ≡ state_count (values_of c))
          (λ f ok. front_long c.states most_states f.coefficients ok.row c.sizes.1 ∙ sym (states_are c))
          (take c.extras c.extra) (stored_extras c));
    }
