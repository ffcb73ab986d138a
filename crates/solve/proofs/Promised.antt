-- The promise, from the facts on the start rows, on joining, and on rows that refute.
use Rattle.std.proofs.Common.{◌≡◌, ℕ, ◌+◌, ◌-◌, Bool, true, false, cond, ◌&&◌, eqb, ◌⊎◌, List, map, length, get_or, pos, ◌≤ℤ◌, Ok, Err, sym, refl, ◌∙◌, subst, inl, inr, arith}
use Rattle.std.specs.List.{ContainsAt as Has, AllByRecursion}
use Rattle.std.proofs.ByRecursion.{All-append, All-get_or, all-has, All-take, All-weaker}
use Rattle.std.proofs.lemmas.List.{length-append, length-replicate}
use Rattle.std.proofs.lemmas.Bool.{and_parts, eqb-true}
use Rattle.arith.specs.Bounds.{Within, within, all_within}
use Rattle.arith.proofs.Bounds.{within_from_test, all_from_test, zeros_within}
use Rattle.control.specs.Answers.{region_of, no_row}
use Rattle.control.specs.Limits.{coefficient_limit, right_limit, RowLimits}
use Rattle.control.specs.Meaning.{Meaning, Row as Inequality}
use Rattle.case.specs.declared.values.Case.{Case}
use Rattle.case.specs.Faces.{faces}
use Rattle.case.specs.System.{column_count, none, over_states}
use Rattle.case.specs.Values.{CaseValues, state_count, push_count, values_of}
use Rattle.case.proofs.Faces.{faces_count}
use Rattle.case.proofs.Stored.{states_are, extras_are}
use Rattle.system.specs.Answers.{system_of}
use Rattle.system.proofs.Counts.{system_count}
use Rattle.system.proofs.Groups.{face_at}
use Rattle.certificate.specs.Tests.{face_of}
use Rattle.certificate.proofs.Faced.{FaceReady, face_long, face_small}
use Rattle.certificate.proofs.Found as found
use Rattle.certificate.proofs.Tested.{decides_present}
use Rattle.fourier.specs.Bounded.{Found, Nothing, Judges}
use Rattle.fourier.proofs.Lists.{all_by_two}
use Rattle.fourier.proofs.Runs.{run_nothing_is_none, run_found_refutes, run_found_passed, run_stops}
use Rattle.elimination.specs.declared.row.Row.{Row}
use Rattle.elimination.specs.declared.row.Stop.{Stop}
use Rattle.elimination.specs.declared.row.Stop.TheVariants.{Crowd, Number}
use Rattle.elimination.specs.Columns.{most_rows}
use Rattle.elimination.specs.Rows.{at, multiplier_limit, number_limit, dead, allowed, joined_row, judged, Proper}
use Rattle.elimination.specs.Traced.{Traced}
use Rattle.solve.specs.Solving.{live, start_rows, outcome}
use Rattle.solve.specs.Promise.{Asked, RowStands, Unprovable, Solved, SolvePromise}
use Rattle.solve.proofs.Places.{source}
use Rattle.solve.proofs.Start.{Startable, Idle, turned_source, start_proper, start_narrow, start_idle, start_traced}
use Rattle.solve.proofs.Completeness.{proof_refutes}
use Rattle.solve.proofs.Joining.{Good, sane}
use Rattle.solve.proofs.Soundness.{row_proves}

-- a row passes the judge as it is, or is refused
judges : Judges judged
judges r = by_test (allowed r)
  where
    by_test : (t : Bool) → (cond t (Ok r) (Err Number) ≡ Ok r) ⊎ ((f : Stop) × (cond t (Ok r) (Err Number) ≡ Err f))
    by_test true = inl refl
    by_test false = inr (Number, refl)

passed_allowed : (r : Row) → judged r ≡ Ok r → allowed r ≡ true
passed_allowed r e = by_test (allowed r) refl e
  where
    by_test : (t : Bool) → allowed r ≡ t → cond t (Ok r) (Err Number) ≡ Ok r → allowed r ≡ true
    by_test true s k = s
    by_test false s k = absurd (grind arith)

-- multipliers and scale within their limit
abbrev Small : Row → Type 0
Small r = AllByRecursion (Within multiplier_limit) r.multipliers × Within multiplier_limit r.scale

allowed_small : (r : Row) → allowed r ≡ true → Small r
allowed_small r e =
    let t = and_parts (all_within multiplier_limit r.multipliers) (within multiplier_limit r.scale && (all_within number_limit r.coefficients && within number_limit r.right)) e in
    let u = and_parts (within multiplier_limit r.scale) (all_within number_limit r.coefficients && within number_limit r.right) t.1 in
    (all_from_test multiplier_limit r.multipliers t.0, within_from_test multiplier_limit r.scale u.0)

module _ (k : CaseValues) (rows : List Inequality) (face : Inequality) (startable : Startable k rows face) where
  -- the start rows are good
  pub start_good : AllByRecursion (Good (map source rows) (turned_source k face) (length rows)) (start_rows k rows face)
  start_good =
      let start = start_rows k rows face in
      let Says = Traced (map source rows) (turned_source k face) in
      let Both : Row → Type 0 = λ r. Says r × Idle (length rows) r in
      all_by_two Proper Both (Good (map source rows) (turned_source k face) (length rows))
      (λ r p h. record { long = p.long; wide = p.wide; multipliers_low = p.multipliers_low; scale_low = p.scale_low; weighty = p.weighty; traced = h.0; idle = h.1 })
      start (start_proper k rows face startable)
      (all_by_two Says (Idle (length rows)) Both (λ r s i. (s, i)) start (start_traced k rows face startable) (start_idle k rows face startable))

  -- a found row is a start row or has passed the judge
  found_small : (r : Row) → Has (start_rows k rows face) r ⊎ (judged r ≡ Ok r) → Small r
  found_small r (inl h) = let p = all-has Proper (start_rows k rows face) r (start_proper k rows face startable) h in (p.multipliers, p.scale)
  found_small r (inr e) = allowed_small r (passed_allowed r e)

-- what is asked for can be started with
module _ {c : Case} {m : Meaning} {region face : ℕ} (asked : Asked c m region face) where
  abbrev k : CaseValues
  k = values_of c

  states_same : m.states ≡ state_count k
  states_same = eqb-true _ _ (and_parts (eqb m.states (state_count k)) (eqb m.inputs k.inputs) asked.sizes).0

  inputs_same : m.inputs ≡ k.inputs
  inputs_same = eqb-true _ _ (and_parts (eqb m.states (state_count k)) (eqb m.inputs k.inputs) asked.sizes).1

  there : found.Ready c m region
  there = record { states = states_same ∙ states_are c; inputs = inputs_same; there = asked.region_there }

  face_ready : FaceReady c m region face
  face_ready = record { ready = there; limits = asked.limits; there = asked.face_there }

  rows_small : AllByRecursion (RowLimits (column_count k)) (system_of k m region)
  rows_small = found.system_small c m region there asked.limits

  face_right_small : Within right_limit (face_of k face).right
  face_right_small =
      let p = (decides_present (faces k) face).0 asked.face_there in
      let n = system_count k (faces k) (region_of m region) in
      let row : over_states k (face_of k face) ≡ get_or (system_of k m region) (face - 1) no_row = face_at c (region_of m region) (face - 1) (omega (arith, p.0, p.1, faces_count k, states_are c, extras_are c)) in
      subst (λ (r : Inequality). Within right_limit r.right) (sym row)
      (All-get_or (RowLimits (column_count k)) (system_of k m region) (face - 1) no_row (omega (arith, p.0, p.1, n)) rows_small).right_small

  pub asked_startable : Startable k (system_of k m region) (face_of k face)
  asked_startable =
      let before = state_count k + k.inputs + push_count k in
      record {
        few = found.system_few c m region there asked.limits;
        narrow = found.columns_few c;
        each = rows_small;
        face_long = length-append (none before) (face_of k face).coefficients ∙ omega (arith, length-replicate before (pos 0), face_long face_ready, states_are c);
        face_small = All-append (Within coefficient_limit) (none before) (face_of k face).coefficients (zeros_within coefficient_limit before) (face_small face_ready);
        face_right = face_right_small;
      }

  abbrev system : List Inequality
  system = system_of k m region

  abbrev start : List Row
  start = start_rows k system (face_of k face)

  abbrev Kept : Row → Type 0
  Kept = Good (map source system) (turned_source k (face_of k face)) (length system)

  -- the three answers
  found_stands : (r : Row) → outcome k m region face ≡ Found r → RowStands k m region face r
  found_stands r e =
      let h = run_found_refutes at dead live joined_row judged most_rows Crowd judges Kept (sane (map source system) (turned_source k (face_of k face)) (length system)) (column_count k) start (start_good k system (face_of k face) asked_startable) r e in
      let s = found_small k system (face_of k face) asked_startable r (run_found_passed at dead live joined_row judged most_rows Crowd judges (column_count k) start r e) in
      let re = (decides_present m.regions region).0 asked.region_there in
      let fa = (decides_present (faces k) face).0 asked.face_there in
      record {
        stands = record {
          states_same = states_same;
          inputs_same = inputs_same;
          region_low = re.0;
          region_high = re.1;
          face_low = fa.0;
          face_high = fa.1;
          scale_high = s.1.1;
          each_high = All-take (λ z. z ≤ℤ pos multiplier_limit) (length system) r.multipliers (All-weaker (Within multiplier_limit) (λ z. z ≤ℤ pos multiplier_limit) (λ z w. w.1) r.multipliers s.0);
          proves = row_proves k system (face_of k face) asked_startable r h.1 h.0;
        };
        others = h.1.idle;
      }

  nothing_proves : outcome k m region face ≡ Nothing → Unprovable k m region face
  nothing_proves e s ms proof =
      run_nothing_is_none at dead live joined_row judged most_rows Crowd judges Kept (sane (map source system) (turned_source k (face_of k face)) (length system)) (column_count k) start (start_good k system (face_of k face) asked_startable)
      (start_narrow k system (face_of k face) asked_startable) e (proof_refutes k system (face_of k face) asked_startable s ms proof)

  pub solved : Solved k m region face
  solved = record {
    found = found_stands;
    none = nothing_proves;
    stop = run_stops at dead live joined_row judged most_rows Crowd judges (column_count k) start;
  }

pub solve_promise : SolvePromise
solve_promise c m region face asked = solved asked
