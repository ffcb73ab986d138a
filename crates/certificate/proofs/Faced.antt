-- The equations of a face, from its row of the system: the face over the state, in the first columns.
use Rattle.std.proofs.Common.{◌≡◌, ℕ, ◌+◌, ◌-◌, ◌≤◌, Bool, true, false, cond, not, List, ◌++◌, length, take, ℤ, Some, None, Ok, Err, Option, sym, refl, ap, ◌∙◌, subst, arith}
use Rattle.std.specs.List.{AllByRecursion}
use Rattle.std.proofs.ByRecursion.{All-get_or}
use Rattle.std.proofs.lemmas.List.{append_assoc, take_at}
use Rattle.arith.specs.Bounds.{Within}
use Rattle.control.specs.Answers.{present, region_of, no_row}
use Rattle.control.specs.Limits.{coefficient_limit, right_limit, Limits, RowLimits}
use Rattle.control.specs.Meaning.{Row, Meaning}
use Rattle.case.specs.declared.values.Case.{Case}
use Rattle.case.specs.Faces.{faces}
use Rattle.case.specs.System.{column_count, none, over_states}
use Rattle.case.specs.Values.{CaseValues, state_count, push_count, values_of}
use Rattle.case.proofs.Faces.{case_columns, faces_count}
use Rattle.case.proofs.Stored.{states_are, pushes_are, extras_are}
use Rattle.system.specs.Answers.{system_of, system_row_of}
use Rattle.system.specs.Filled.{filled}
use Rattle.system.proofs.Bridged.{faces_wide}
use Rattle.system.proofs.Counts.{system_count}
use Rattle.system.proofs.Groups.{face_at}
use Rattle.system.proofs.Rows.{all_append_parts}
use Rattle.system.proofs.Stored.{case_wide}
use Rattle.certificate.specs.declared.fault.ProofFault.TheVariants.{Unequal, Excess}
use Rattle.certificate.specs.Certificates.{scaled, column_sums, right_sum, face_over_next}
use Rattle.certificate.specs.Tests.{first_unequal, low_enough, right_low, equations_by, equations_of, face_of}
use Rattle.certificate.proofs.Found.{Ready, system_small}
use Rattle.certificate.proofs.Tested.{decides_present}
use Rattle.certificate.proofs.Turns.{column_sums_long}

-- region and face are there
pub record FaceReady (c : Case) (m : Meaning) (region face : ℕ) : Type 0 where
  pub ready : Ready c m region
  pub limits : Limits m
  pub there : present (faces (values_of c)) face ≡ true

module _ {c : Case} {m : Meaning} {region face : ℕ} (t : FaceReady c m region face) where
  pub face_low : 1 ≤ face
  face_low = ((decides_present (faces (values_of c)) face).0 t.there).0

  pub face_high : face ≤ length (system_of (values_of c) m region)
  face_high = omega (arith, ((decides_present (faces (values_of c)) face).0 t.there).1, system_count (values_of c) (faces (values_of c)) (region_of m region))

  face_row : over_states (values_of c) (face_of (values_of c) face) ≡ system_row_of (values_of c) m region face
  face_row =
      let k = values_of c in
      face_at c (region_of m region) (face - 1) (omega (arith, ((decides_present (faces k) face).0 t.there).0, ((decides_present (faces k) face).0 t.there).1, faces_count k, states_are c, extras_are c))

  face_limits : RowLimits (column_count (values_of c)) (over_states (values_of c) (face_of (values_of c) face))
  face_limits =
      subst (RowLimits (column_count (values_of c))) (sym face_row)
      (All-get_or (RowLimits (column_count (values_of c))) (system_of (values_of c) m region) (face - 1) no_row (omega (arith, face_low, face_high)) (system_small c m region t.ready t.limits))

  pub face_long : length (face_of (values_of c) face).coefficients ≡ c.states
  face_long =
      let k = values_of c in
      let p = (decides_present (faces k) face).0 t.there in
      All-get_or (λ r. length r.coefficients ≡ state_count k) (faces k) (face - 1) no_row (omega (arith, p.0, p.1)) (faces_wide k (case_wide c)) ∙ states_are c

  pub face_small : AllByRecursion (Within coefficient_limit) (face_of (values_of c) face).coefficients
  face_small =
      let k = values_of c in
      (all_append_parts (Within coefficient_limit) (face_of k face).coefficients (none (k.inputs + push_count k + state_count k)) face_limits.small).0

  -- the row of the face as it was filled in
  module _ {right : ℤ} {coefficients : List ℤ} (row : filled coefficients right ≡ system_row_of (values_of c) m region face) where
    face_is : filled coefficients right ≡ over_states (values_of c) (face_of (values_of c) face)
    face_is = row ∙ sym face_row

    pub face_right : right ≡ (face_of (values_of c) face).right
    face_right = ap (λ r. r.right) face_is

    pub right_small : Within right_limit right
    right_small = subst (Within right_limit) (sym face_right) face_limits.right_small

    pub face_front : (rest : List ℤ) → take (c.states - 0) (coefficients ++ rest) ≡ (face_of (values_of c) face).coefficients
    face_front rest =
        let k = values_of c in
        let f = (face_of k face).coefficients in
        let zeros = none (k.inputs + push_count k + state_count k) in
        let e : length f ≡ c.states - 0 = omega (arith, face_long) in
        ap (λ r. take (c.states - 0) (r.coefficients ++ rest)) face_is
        ∙ ap (take (c.states - 0)) (append_assoc f zeros rest) ∙ take_at f (zeros ++ rest) (c.states - 0) e

  -- the sums as the code has them
  module _ (ms : List ℤ) {sums : List ℤ} (es : sums ≡ column_sums (column_count (values_of c)) ms (system_of (values_of c) m region)) where
    pub sums_long : length sums ≡ c.states + c.inputs + c.pushes + c.states
    sums_long = ap length es ∙ column_sums_long (column_count (values_of c)) ms (system_of (values_of c) m region) (system_small c m region t.ready t.limits) ∙ sym (case_columns c)

    pub sums_front : (rest : List ℤ) → take (c.states + c.inputs + c.pushes + c.states - 0) (sums ++ rest) ≡ sums
    sums_front rest = let e : length sums ≡ c.states + c.inputs + c.pushes + c.states - 0 = omega (arith, sums_long) in take_at sums rest (c.states + c.inputs + c.pushes + c.states - 0) e

    -- the first unequal column is that of the definition
    pub first_is : (face' front : List ℤ) (scale : ℤ) (first : Option ℕ) → front ≡ sums → face' ≡ (face_of (values_of c) face).coefficients → first ≡ first_unequal 1 front (scaled scale (none (c.states + c.inputs + c.pushes) ++ face')) → first_unequal 1 (column_sums (column_count (values_of c)) ms (system_of (values_of c) m region)) (scaled scale (face_over_next (values_of c) (face_of (values_of c) face))) ≡ first
    first_is face' front scale first ef e is =
        let k = values_of c in
        let w : state_count k + k.inputs + push_count k ≡ c.states + c.inputs + c.pushes = omega (arith, states_are c, pushes_are c) in
        ap (λ l. first_unequal 1 l (scaled scale (face_over_next k (face_of k face)))) (sym es ∙ sym ef)
        ∙ ap (λ n. first_unequal 1 front (scaled scale (none n ++ (face_of k face).coefficients))) w
        ∙ ap (λ l. first_unequal 1 front (scaled scale (none (c.states + c.inputs + c.pushes) ++ l))) (sym e) ∙ sym is

-- what the test answers
by_low : (low : Bool) → cond (not low) (Err Excess) (Ok tt) ≡ equations_by None low
by_low true = refl
by_low false = refl

module _ (k : CaseValues) (rows : List Row) (face : Row) (scale : ℤ) (ms : List ℤ) where
  pub answer_unequal : (j : ℕ) → first_unequal 1 (column_sums (column_count k) ms rows) (scaled scale (face_over_next k face)) ≡ Some j → Err (Unequal j) ≡ equations_of k rows face scale ms
  answer_unequal j e = sym (ap (λ o. equations_by o (right_low rows face scale ms)) e)

  -- by the test of the right side, as the code has the numbers
  pub answer_equal : (t : Bool) (sum right : ℤ) → first_unequal 1 (column_sums (column_count k) ms rows) (scaled scale (face_over_next k face)) ≡ None → sum ≡ right_sum ms rows → right ≡ face.right → t ≡ not (low_enough sum scale right) → cond t (Err Excess) (Ok tt) ≡ equations_of k rows face scale ms
  answer_equal t sum right e es er is =
      let low : t ≡ not (right_low rows face scale ms) =
      is ∙ ap (λ s. not (low_enough s scale right)) es ∙ ap (λ r. not (low_enough (right_sum ms rows) scale r)) er in
      ap (λ b. cond b (Err Excess) (Ok tt)) low ∙ by_low (right_low rows face scale ms) ∙ sym (ap (λ o. equations_by o (right_low rows face scale ms)) e)
