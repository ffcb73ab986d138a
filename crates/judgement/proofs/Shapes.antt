-- The rows of a case text that keeps its limits have their lengths, and the bounds of its states are in range.
use Rattle.std.proofs.Common.{◌≡◌, ℕ, ◌+◌, ◌≤◌, List, [], ◌∷◌, length, get_or, take, drop, ℤ, pos, sym, refl, ◌∙◌, arith}
use Rattle.std.specs.List.{AllByRecursion}
use Rattle.std.proofs.ByRecursion.{All-map, All-weaker}
use Rattle.std.proofs.lemmas.List.{length-drop, length-map, length-take-le}
use Rattle.case.proofs.Storing.{dynamics_long, extra_long}
use Rattle.case.specs.Fields.{state_limits, dynamics_limits, extra_limits}
use Rattle.case.specs.Forms.{RowKept, GoodState, AnyRow, CaseKept, sizes_from}
use Rattle.case.specs.Stored.{equation_from, equations_from, bounds_from, extra_from, case_values}
use Rattle.case.specs.Texts.{CaseText}
use Rattle.case.specs.Values.{CaseValues, state_count, push_count}
use Rattle.case.proofs.Storing.{count_is}
use Rattle.case.proofs.Stored.{RangeOk}
use Rattle.certificate.proofs.Soundness.{Shaped}
use Rattle.system.proofs.Rows.{EquationWide}

part_long : (f c : ℕ) (d : List ℤ) → f + c ≤ length d → length (take c (drop f d)) ≡ c
part_long f c d h = length-take-le c (drop f d) (omega (arith, length-drop f d))

module _ (k : CaseValues) (n m p : ℕ) (n_is : state_count k ≡ n) (m_is : k.inputs ≡ m) (p_is : push_count k ≡ p) where
  equation_wide : (s d : List ℤ) → n + m + p ≤ length d → EquationWide k (equation_from n m p s d)
  equation_wide s d h = record {
    a_long = length-take-le n d (omega arith) ∙ sym n_is;
    b_long = part_long n m d (omega arith) ∙ sym m_is;
    e_long = part_long (n + m) p d (omega arith) ∙ sym p_is;
  }

  equations_wide : (ss ds : List (List ℤ)) → AllByRecursion (λ d. n + m + p ≤ length d) ds → AllByRecursion (EquationWide k) (equations_from n m p ss ds)
  equations_wide [] ds h = tt
  equations_wide (s ∷ ss) [] h = tt
  equations_wide (s ∷ ss) (d ∷ ds) h = (equation_wide s d h.0, equations_wide ss ds h.1)

state_range : (D : ℤ) (s : List ℤ) → RowKept state_limits (GoodState D) s → RangeOk (get_or s 0 (pos 0)) (get_or s 1 (pos 0))
state_range D [] k = absurd k.0
state_range D (l ∷ []) k = absurd k.0.2
state_range D (l ∷ h ∷ s) k = record { low_small = (k.0.0, k.0.1); high_small = (k.0.2.0, k.0.2.1) }

state_ranges : (n m p : ℕ) (D : ℤ) (ss ds : List (List ℤ)) → AllByRecursion (RowKept state_limits (GoodState D)) ss → AllByRecursion (λ s. RangeOk s.low s.high) (equations_from n m p ss ds)
state_ranges n m p D [] ds h = tt
state_ranges n m p D (s ∷ ss) [] h = tt
state_ranges n m p D (s ∷ ss) (d ∷ ds) h = (state_range D s h.0, state_ranges n m p D ss ds h.1)

pub kept_shaped : (t : CaseText) → CaseKept t → Shaped (case_values t)
kept_shaped t h =
    let k = case_values t in
    let n = length t.states in
    let w = n + t.inputs + length t.pushes in
    let states_are : state_count (case_values t) ≡ length t.states = count_is t h (sizes_from t) refl in
    record {
      wide = record {
        equations_wide = equations_wide k n t.inputs (length t.pushes) states_are refl (length-map t.pushes bounds_from) t.states t.dynamics
            (All-weaker (RowKept (dynamics_limits w) AnyRow) (λ d. w ≤ length d) (dynamics_long w) t.dynamics h.each_dynamics);
        extra_wide = All-map (λ f. length f.coefficients ≡ state_count k) (extra_from n) t.extras
            (All-weaker (RowKept (extra_limits n) AnyRow) (λ row. length (take n row) ≡ state_count k) (λ row e. length-take-le n row (extra_long n row e) ∙ sym states_are) t.extras h.each_extra);
      };
      ranges = state_ranges n t.inputs (length t.pushes) t.divisor t.states t.dynamics h.each_state;
    }
