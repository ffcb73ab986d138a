-- What the limits of a stored case give, as facts.
use Rattle.std.proofs.Common.{◌≡◌, ℕ, ◌≤◌, true, ◌&&◌, eqb, List, [], ◌∷◌, length, take, ℤ, pos, ◌≤ℤ◌, ◌∙◌, arith}
use lib.Signed.{le_z}
use Rattle.std.specs.List.{AllByRecursion}
use Rattle.std.proofs.ByRecursion.{All-take}
use Rattle.std.proofs.lemmas.List.{length-map, length-take-le}
use Rattle.std.proofs.lemmas.Bool.{and_parts, eqb-true}
use Rattle.arith.specs.Bounds.{Within, within, all_within}
use Rattle.arith.proofs.Bounds.{le_z_true, all_from_test, within_from_test}
use Rattle.control.specs.Limits.{most_states, most_inputs}
use Rattle.case.specs.declared.values.StateEquation.{StateEquation}
use Rattle.case.specs.declared.values.PushBounds.{PushBounds}
use Rattle.case.specs.declared.values.ExtraFace.{ExtraFace}
use Rattle.case.specs.declared.values.Case.{Case}
use Rattle.case.specs.Limits.{most_pushes, bound_limit, entry_limit, constant_limit, extra_limit, leeway_limit, range_ok, row_ok, equation_ok, bounds_ok, extra_ok, all_equations_ok, all_bounds_ok, all_extras_ok}
use Rattle.case.specs.Values.{state_count, push_count, equation_of, extra_of, values_of}

-- the limits of low and high, of a row, of an equation, of a push and of an extra face, as facts
pub record RangeOk (low high : ℤ) : Type 0 where
  pub low_small : Within bound_limit low
  pub high_small : Within bound_limit high

pub record RowOk (width : ℕ) (row : List ℤ) : Type 0 where
  pub long : length row ≡ width
  pub small : AllByRecursion (Within entry_limit) row

pub record EquationOk (s : StateEquation) : Type 0 where
  pub range : RangeOk s.low s.high
  pub leeway_low : pos 0 ≤ℤ s.leeway
  pub leeway_high : s.leeway ≤ℤ pos leeway_limit
  pub constant_small : Within constant_limit s.constant
  pub a_ok : RowOk most_states s.a
  pub b_ok : RowOk most_inputs s.b
  pub e_ok : RowOk most_pushes s.e

pub record ExtraOk (f : ExtraFace) : Type 0 where
  pub row : RowOk most_states f.coefficients
  pub right_small : Within extra_limit f.right

pub ok_range : (low high : ℤ) → range_ok low high ≡ true → RangeOk low high
ok_range low high t =
    let p = and_parts (within bound_limit low && within bound_limit high) (le_z low high) t in
    let q = and_parts (within bound_limit low) (within bound_limit high) p.0 in
    record { low_small = within_from_test bound_limit low q.0; high_small = within_from_test bound_limit high q.1 }

pub ok_row : (width : ℕ) (row : List ℤ) → row_ok width row ≡ true → RowOk width row
ok_row width row t =
    let p = and_parts (eqb (length row) width) (all_within entry_limit row) t in
    record { long = eqb-true _ _ p.0; small = all_from_test entry_limit row p.1 }

pub ok_equation : (s : StateEquation) → equation_ok s ≡ true → EquationOk s
ok_equation s t =
    let fit = le_z (pos 0) s.leeway && le_z s.leeway (pos leeway_limit) in
    let rows = row_ok most_states s.a && (row_ok most_inputs s.b && row_ok most_pushes s.e) in
    let p = and_parts (range_ok s.low s.high && (fit && within constant_limit s.constant)) rows t in
    let q = and_parts (range_ok s.low s.high) (fit && within constant_limit s.constant) p.0 in
    let r = and_parts fit (within constant_limit s.constant) q.1 in
    let l = and_parts (le_z (pos 0) s.leeway) (le_z s.leeway (pos leeway_limit)) r.0 in
    let a = and_parts (row_ok most_states s.a) (row_ok most_inputs s.b && row_ok most_pushes s.e) p.1 in
    let b = and_parts (row_ok most_inputs s.b) (row_ok most_pushes s.e) a.1 in
    record {
      range = ok_range s.low s.high q.0;
      leeway_low = le_z_true _ _ l.0;
      leeway_high = le_z_true _ _ l.1;
      constant_small = within_from_test constant_limit s.constant r.1;
      a_ok = ok_row most_states s.a a.0;
      b_ok = ok_row most_inputs s.b b.0;
      e_ok = ok_row most_pushes s.e b.1;
    }

pub ok_extra : (f : ExtraFace) → extra_ok f ≡ true → ExtraOk f
ok_extra f t =
    let p = and_parts (row_ok most_states f.coefficients) (within extra_limit f.right) t in
    record { row = ok_row most_states f.coefficients p.0; right_small = within_from_test extra_limit f.right p.1 }

pub ok_equations : (ss : List StateEquation) → all_equations_ok ss ≡ true → AllByRecursion EquationOk ss
ok_equations [] t = tt
ok_equations (s ∷ ss) t = let p = and_parts (equation_ok s) (all_equations_ok ss) t in (ok_equation s p.0, ok_equations ss p.1)

pub ok_bounds : (bs : List PushBounds) → all_bounds_ok bs ≡ true → AllByRecursion (λ b. RangeOk b.low b.high) bs
ok_bounds [] t = tt
ok_bounds (b ∷ bs) t = let p = and_parts (bounds_ok b) (all_bounds_ok bs) t in (ok_range b.low b.high p.0, ok_bounds bs p.1)

pub ok_extras : (fs : List ExtraFace) → all_extras_ok fs ≡ true → AllByRecursion ExtraOk fs
ok_extras [] t = tt
ok_extras (f ∷ fs) t = let p = and_parts (extra_ok f) (all_extras_ok fs) t in (ok_extra f p.0, ok_extras fs p.1)

-- a case stores as many equations, bounds and extra faces as it has
pub equations_enough : (c : Case) → c.states ≤ length c.equations
equations_enough c = omega (arith, c.sizes.1, c.lengths.0)

pub bounds_enough : (c : Case) → c.pushes ≤ length c.bounds
bounds_enough c = omega (arith, c.counts.0, c.lengths.1)

pub extras_enough : (c : Case) → c.extras ≤ length c.extra
extras_enough c = omega (arith, c.counts.1, c.lengths.2)

-- how many states, pushes and extra faces the values have
pub states_are : (c : Case) → state_count (values_of c) ≡ c.states
states_are c =
    length-map (take c.states c.equations) (equation_of c.states c.inputs c.pushes) ∙ length-take-le c.states c.equations (equations_enough c)

pub pushes_are : (c : Case) → push_count (values_of c) ≡ c.pushes
pushes_are c = length-take-le c.pushes c.bounds (bounds_enough c)

pub extras_are : (c : Case) → length (values_of c).extra ≡ c.extras
extras_are c =
    length-map (take c.extras c.extra) (extra_of c.states) ∙ length-take-le c.extras c.extra (extras_enough c)

pub stored_equations : (c : Case) → AllByRecursion EquationOk (take c.states c.equations)
stored_equations c = All-take EquationOk c.states c.equations (ok_equations c.equations c.limits.0)

pub stored_extras : (c : Case) → AllByRecursion ExtraOk (take c.extras c.extra)
stored_extras c = All-take ExtraOk c.extras c.extra (ok_extras c.extra c.limits.2)
