-- Every row of a case's system keeps the limits of a row: its length, its coefficients and its right side.
use Rattle.std.proofs.Common.{◌≡◌, ℕ, suc, ◌+◌, List, [], ◌∷◌, ◌++◌, map, length, take, ℤ, pos, negsuc, ◌+ℤ◌, ◌-ℤ◌, ◌*ℤ◌, neg_ℤ, sym, ◌∙◌, subst, arith}
use Rattle.std.specs.List.{AllByRecursion}
use Rattle.std.proofs.ByRecursion.{All-append, All-map, All-take, All-weaker, All-set}
use Rattle.std.proofs.lemmas.List.{length-append, length-map, length-replicate}
use Rattle.std.proofs.lemmas.Int.{ints}
use Rattle.arith.specs.Bounds.{Within}
use Rattle.arith.proofs.Bounds.{within_wider, negated_within, sign_within, zeros_within}
use Rattle.control.specs.Limits.{coefficient_limit, right_limit, RowLimits}
use Rattle.control.specs.Meaning.{Row}
use Rattle.case.specs.declared.values.StateEquation.{StateEquation}
use Rattle.case.specs.declared.values.PushBounds.{PushBounds}
use Rattle.case.specs.declared.values.ExtraFace.{ExtraFace}
use Rattle.case.specs.declared.values.Case.{Case}
use Rattle.case.specs.Limits.{bound_limit}
use Rattle.case.specs.Faces.{unit, box_faces, extra_face, faces}
use Rattle.case.specs.System.{column_count, none, over_states, over_commands, push_rows, equation_row, next_rows, system}
use Rattle.case.specs.Values.{CaseValues, state_count, push_count, equation_of, extra_of, values_of}
use Rattle.case.proofs.Stored.{RangeOk, EquationOk, ExtraOk, ok_bounds, states_are, stored_equations, stored_extras}
use Rattle.system.proofs.Rows.{EquationWide}
use Rattle.system.proofs.Bridged.{Wide, unit_long}
use Rattle.system.proofs.Stored.{case_wide}

-- a coefficient list within its limit
abbrev Small : List ℤ → Type 0
Small cs = AllByRecursion (Within coefficient_limit) cs

zeros : (n : ℕ) → Small (none n)
zeros n = zeros_within coefficient_limit n

unit_small : (n i : ℕ) (z : ℤ) → Within coefficient_limit z → Small (unit n i z)
unit_small n i z w = All-set (Within coefficient_limit) (none n) i z w (zeros n)

plus_one : Within coefficient_limit (pos 1)
plus_one = (omega (arith, ints), omega (arith, ints))

minus_one : Within coefficient_limit (negsuc 0)
minus_one = (omega (arith, ints), omega (arith, ints))

bound_wider : (z : ℤ) → Within bound_limit z → Within right_limit z
bound_wider = within_wider bound_limit right_limit (omega arith)

-- the range and the sizes of an equation, with the entries that there are
pub record EquationSmall (s : StateEquation) : Type 0 where
  pub range : RangeOk s.low s.high
  pub up_small : Within right_limit (s.constant +ℤ s.leeway)
  pub down_small : Within right_limit (s.leeway -ℤ s.constant)
  pub a_small : Small s.a
  pub b_small : Small s.b
  pub e_small : Small s.e

pub record CaseSmall (k : CaseValues) : Type 0 where
  pub divisor_small : Within coefficient_limit k.divisor
  pub equations_small : AllByRecursion EquationSmall k.equations
  pub bounds_small : AllByRecursion (λ b. RangeOk b.low b.high) k.bounds
  pub extra_small : AllByRecursion (λ f. Small f.coefficients × Within right_limit f.right) k.extra

-- rows over the first columns
front_limits : (width more total : ℕ) (c : List ℤ) (r : ℤ) → width + more ≡ total → RowLimits width (record { coefficients = c; right = r }) → RowLimits total (record { coefficients = c ++ none more; right = r })
front_limits width more total c r e l =
    record {
      wide = length-append c (none more) ∙ omega (arith, l.wide, length-replicate more (pos 0));
      small = All-append (Within coefficient_limit) c (none more) l.small (zeros more);
      right_small = l.right_small;
    }

unit_limits : (n i : ℕ) (z r : ℤ) → Within coefficient_limit z → Within right_limit r → RowLimits n (record { coefficients = unit n i z; right = r })
unit_limits n i z r v w = record { wide = unit_long n i z; small = unit_small n i z v; right_small = w }

box_limits : (n i : ℕ) (ss : List StateEquation) → AllByRecursion EquationSmall ss → AllByRecursion (RowLimits n) (box_faces n i ss)
box_limits n i [] ok = tt
box_limits n i (s ∷ ss) ok = (
  unit_limits n i (pos 1) s.high plus_one (bound_wider _ ok.0.range.high_small),
  (
    unit_limits n i (negsuc 0) (neg_ℤ s.low) minus_one (negated_within right_limit _ (bound_wider _ ok.0.range.low_small)),
    box_limits n (suc i) ss ok.1,
  ),
)

extra_limits : (n : ℕ) (fs : List ExtraFace) → AllByRecursion (λ f. length f.coefficients ≡ n) fs → AllByRecursion (λ f. Small f.coefficients × Within right_limit f.right) fs → AllByRecursion (RowLimits n) (map extra_face fs)
extra_limits n [] wide ok = tt
extra_limits n (f ∷ fs) wide ok = (record { wide = wide.0; small = ok.0.0; right_small = ok.0.1 }, extra_limits n fs wide.1 ok.1)

push_limits : (k : CaseValues) (j : ℕ) (bs : List PushBounds) → AllByRecursion (λ b. RangeOk b.low b.high) bs → AllByRecursion (RowLimits (column_count k)) (push_rows k j bs)
push_limits k j [] ok = tt
push_limits k j (b ∷ bs) ok =
    let n = state_count k in
    let p = push_count k in
    let one = λ (z r : ℤ) (v : Within coefficient_limit z) (w : Within right_limit r).
    let c = unit p j z ++ none n in
    let l : RowLimits (column_count k) (record { coefficients = none (n + k.inputs) ++ c; right = r }) = record {
      wide = length-append (none (n + k.inputs)) c ∙ omega (arith, length-append (unit p j z) (none n), unit_long p j z, length-replicate (n + k.inputs) (pos 0), length-replicate n (pos 0));
      small = All-append (Within coefficient_limit) (none (n + k.inputs)) c (zeros (n + k.inputs)) (All-append (Within coefficient_limit) (unit p j z) (none n) (unit_small p j z v) (zeros n));
      right_small = w;
    } in l in (
      one (pos 1) b.high plus_one (bound_wider _ ok.0.high_small),
      (one (negsuc 0) (neg_ℤ b.low) minus_one (negated_within right_limit _ (bound_wider _ ok.0.low_small)), push_limits k (suc j) bs ok.1),
    )

next_limits : (k : CaseValues) → Within coefficient_limit k.divisor → (i : ℕ) (ss : List StateEquation) → AllByRecursion (EquationWide k) ss → AllByRecursion EquationSmall ss → AllByRecursion (RowLimits (column_count k)) (next_rows k i ss)
next_limits k d i [] wide ok = tt
next_limits k d i (s ∷ ss) wide ok =
    let n = state_count k in
    let f = s.a ++ (s.b ++ s.e) in
    let small : Small f = All-append (Within coefficient_limit) s.a (s.b ++ s.e) ok.0.a_small (All-append (Within coefficient_limit) s.b s.e ok.0.b_small ok.0.e_small) in
    let long : length f ≡ n + k.inputs + push_count k = length-append s.a (s.b ++ s.e) ∙ omega (arith, length-append s.b s.e, wide.0.a_long, wide.0.b_long, wide.0.e_long) in
    let one = λ (sign own r : ℤ) (u : Within 1 sign) (v : Within coefficient_limit own) (w : Within right_limit r).
    let g = map (λ z. sign *ℤ z) f in
    let l : RowLimits (column_count k) (record { coefficients = equation_row k i s sign own; right = r }) = record {
      wide = length-append g (unit n i own) ∙ omega (arith, length-map f (λ z. sign *ℤ z), long, unit_long n i own);
      small = All-append (Within coefficient_limit) g (unit n i own)
          (All-map (Within coefficient_limit) (λ z. sign *ℤ z) f (All-weaker (Within coefficient_limit) (λ z. Within coefficient_limit (sign *ℤ z)) (λ z t. sign_within coefficient_limit sign z u t) f small))
          (unit_small n i own v);
      right_small = w;
    } in l in (
      one (negsuc 0) k.divisor (s.constant +ℤ s.leeway) (omega (arith, ints), omega (arith, ints)) d ok.0.up_small,
      (
        one (pos 1) (neg_ℤ k.divisor) (s.leeway -ℤ s.constant) (omega (arith, ints), omega (arith, ints)) (negated_within coefficient_limit _ d) ok.0.down_small,
        next_limits k d (suc i) ss wide.1 ok.1,
      ),
    )

limits_of : (k : CaseValues) → Wide k → CaseSmall k → (region : List Row) → AllByRecursion (RowLimits (state_count k + k.inputs)) region → AllByRecursion (RowLimits (column_count k)) (system k (faces k) region)
limits_of k wide ok region small =
    let n = state_count k in
    let N = column_count k in
    let L = RowLimits N in
    let F = map (over_states k) (faces k) in
    let G = map (over_commands k) region in
    let W = push_rows k 0 k.bounds in
    let X = next_rows k 0 k.equations in
    let fs = All-append (RowLimits n) (box_faces n 0 k.equations) (map extra_face k.extra) (box_limits n 0 k.equations ok.equations_small) (extra_limits n k.extra wide.extra_wide ok.extra_small) in
    All-append L F (G ++ (W ++ X))
    (All-map L (over_states k) (faces k) (All-weaker (RowLimits n) (λ r. L (over_states k r)) (λ r l. front_limits n (k.inputs + push_count k + n) N r.coefficients r.right (omega arith) l) (faces k) fs))
    (All-append L G (W ++ X)
    (All-map L (over_commands k) region (All-weaker (RowLimits (n + k.inputs)) (λ r. L (over_commands k r)) (λ r l. front_limits (n + k.inputs) (push_count k + n) N r.coefficients r.right (omega arith) l) region small))
    (All-append L W X (push_limits k 0 k.bounds ok.bounds_small) (next_limits k ok.divisor_small 0 k.equations wide.equations_wide ok.equations_small)))

-- the values of a case are small
equation_small : (n m p : ℕ) (s : StateEquation) → EquationOk s → EquationSmall (equation_of n m p s)
equation_small n m p s ok =
    let c = ok.constant_small in
    record {
      range = ok.range;
      up_small = (omega (arith, ints, c.0, ok.leeway_low), omega (arith, ints, c.1, ok.leeway_high));
      down_small = (omega (arith, ints, c.1, ok.leeway_low), omega (arith, ints, c.0, ok.leeway_high));
      a_small = All-take (Within coefficient_limit) n s.a ok.a_ok.small;
      b_small = All-take (Within coefficient_limit) m s.b ok.b_ok.small;
      e_small = All-take (Within coefficient_limit) p s.e ok.e_ok.small;
    }

pub case_small : (c : Case) → CaseSmall (values_of c)
case_small c =
    let S = equation_of c.states c.inputs c.pushes in
    let F = extra_of c.states in
    let Q : ExtraFace → Type 0 = λ f. Small f.coefficients × Within right_limit f.right in
    record {
      divisor_small = (omega (arith, ints, c.divides.0), omega (arith, ints, c.divides.1));
      equations_small =
          All-map EquationSmall S (take c.states c.equations)
          (All-weaker EquationOk (λ s. EquationSmall (S s)) (equation_small c.states c.inputs c.pushes) (take c.states c.equations) (stored_equations c));
      bounds_small = All-take (λ b. RangeOk b.low b.high) c.pushes c.bounds (ok_bounds c.bounds c.limits.1);
      extra_small =
          All-map Q F (take c.extras c.extra)
          (All-weaker ExtraOk (λ f. Q (F f)) (λ f ok. (All-take (Within coefficient_limit) c.states f.coefficients ok.row.small, ok.right_small)) (take c.extras c.extra) (stored_extras c));
    }

-- every row of the system has a coefficient for each column, and each number is within its limit
pub system_limits : (c : Case) (region : List Row) → AllByRecursion (RowLimits (c.states + c.inputs)) region → AllByRecursion (RowLimits (column_count (values_of c))) (system (values_of c) (faces (values_of c)) region)
system_limits c region small = limits_of (values_of c) (case_wide c) (case_small c) region (subst (λ n. AllByRecursion (RowLimits (n + c.inputs)) region) (sym (states_are c)) small)
