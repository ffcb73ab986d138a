-- A certificate makes the set of a case invariant.
use Rattle.std.proofs.Common.{◌≡◌, ℕ, suc, ◌+◌, ◌<◌, List, [], ◌∷◌, map, length, get_or, drop, ℤ, pos, negsuc, sym, refl, ap, ◌∙◌, subst, arith, drop-cons}
use Rattle.std.specs.List.{AllByRecursion}
use Rattle.std.proofs.ByRecursion.{All-from_get_or, All-get_or, All-weaker}
use Rattle.std.proofs.lemmas.List.{drop_all}
use Rattle.std.proofs.lemmas.Int.{ints}
use Rattle.arith.specs.Bounds.{Within}
use Rattle.arith.proofs.Dots.{dot_unit}
use Rattle.control.specs.Answers.{no_row}
use Rattle.control.specs.Cover.{Cover, Holds}
use Rattle.control.specs.Limits.{state_limit, Limits, RegionLimits, RowLimits, State}
use Rattle.control.specs.Meaning.{Row, Meaning}
use Rattle.case.specs.declared.values.StateEquation.{StateEquation}
use Rattle.case.specs.declared.values.PushBounds.{PushBounds}
use Rattle.case.specs.declared.values.Case.{Case}
use Rattle.case.specs.Faces.{box_faces, extra_face, faces, Inside}
use Rattle.case.specs.Next.{AllPermitted, AllBounded}
use Rattle.case.specs.Values.{CaseValues, state_count, push_count, values_of}
use Rattle.case.proofs.Stored.{RangeOk, states_are}
use Rattle.system.specs.Bridge.{Step, Solves, Bridge}
use Rattle.system.proofs.Bridged.{Wide, faces_wide, bridge}
use Rattle.system.proofs.Limits.{EquationSmall, case_small}
use Rattle.system.proofs.Rows.{all_append_parts}
use Rattle.system.proofs.Stored.{case_wide}
use Rattle.certificate.specs.Certificates.{region_system, Certified, Invariant}
use Rattle.certificate.specs.Sound.{CertificatesSound}
use Rattle.certificate.proofs.Farkas.{proved_face}

-- a case whose rows have its lengths, and whose states have bounds in range
pub record Shaped (k : CaseValues) : Type 0 where
  pub wide : Wide k
  pub ranges : AllByRecursion (λ s. RangeOk s.low s.high) k.equations

pub case_shaped : (c : Case) → Shaped (values_of c)
case_shaped c = record {
  wide = case_wide c;
  ranges = All-weaker EquationSmall (λ s. RangeOk s.low s.high) (λ s ok. ok.range) (values_of c).equations (case_small c).equations_small;
}

-- the lengths of pushes within their bounds, and of a permitted next state
pub bounded_long : (bs : List PushBounds) (w : List ℤ) → AllBounded bs w → length w ≡ length bs
bounded_long [] [] h = refl
bounded_long [] (z ∷ w) h = absurd h
bounded_long (b ∷ bs) [] h = absurd h
bounded_long (b ∷ bs) (z ∷ w) h = ap suc (bounded_long bs w h.2)

pub permitted_long : (D : ℤ) (ss : List StateEquation) (x u w y : List ℤ) → AllPermitted D ss x u w y → length y ≡ length ss
permitted_long D [] x u w [] h = refl
permitted_long D [] x u w (z ∷ y) h = absurd h
permitted_long D (s ∷ ss) x u w [] h = absurd h
permitted_long D (s ∷ ss) x u w (z ∷ y) h = ap suc (permitted_long D ss x u w y h.1)

-- a state inside is in range, since the box of the case is
box_small : (n i : ℕ) (ss : List StateEquation) (x : List ℤ) → i + length ss ≡ n → length x ≡ n → AllByRecursion (λ s. RangeOk s.low s.high) ss → AllByRecursion (Holds x) (box_faces n i ss) → AllByRecursion (Within state_limit) (drop i x)
box_small n i [] x e ex ok holds = subst (AllByRecursion (Within state_limit)) (sym (drop_all i x (omega arith))) tt
box_small n i (s ∷ ss) x e ex ok holds =
    let lt : i < length x = omega arith in
    let high = dot_unit n i (pos 1) x (omega arith) ex in
    let low = dot_unit n i (negsuc 0) x (omega arith) ex in
    let one : Within state_limit (get_or x i (pos 0)) = (
      omega (arith, ints, low, holds.1.0, ok.0.low_small.0),
      omega (arith, ints, high, holds.0, ok.0.high_small.1),
    ) in
    subst (AllByRecursion (Within state_limit)) (sym (drop-cons x i (pos 0) lt)) (one, box_small n (suc i) ss x (omega arith) ex ok.1 holds.1.1)

pub inside_state : (k : CaseValues) (x : List ℤ) → Shaped k → Inside k x → State (state_count k) x
inside_state k x shape inside =
    let box = box_faces (state_count k) 0 k.equations in
    record {
      long = inside.long;
      small = box_small (state_count k) 0 k.equations x (omega arith) inside.long shape.ranges (all_append_parts (Holds x) box (map extra_face k.extra) inside.holds).0;
    }

-- the rows of a controller's region have a coefficient for each state and each input
region_wide : (m : Meaning) (r : ℕ) → Limits m → r < length m.regions → AllByRecursion (λ row. length row.coefficients ≡ m.states + m.inputs) (get_or m.regions r [])
region_wide m r limits lt =
    let width = m.states + m.inputs in
    let rows = get_or m.regions r [] in
    All-weaker (RowLimits width) (λ row. length row.coefficients ≡ width) (λ row l. l.wide) rows
    (All-get_or (RegionLimits width) m.regions r [] lt limits.each).each

-- in each region that covers the state, all rows of the system hold
solved : (k : CaseValues) (region : List Row) (x u w y : List ℤ) → Wide k → AllByRecursion (λ row. length row.coefficients ≡ state_count k + k.inputs) region → length u ≡ k.inputs → length w ≡ push_count k → length y ≡ state_count k → Step k region x u w y → Solves k region x u w y
unfolding Bridge
solved k region x u w y wide narrow eu ew ey step = (bridge k region wide narrow x u w y step.inside.long eu ew ey).0 step

pub sound : (k : CaseValues) (m : Meaning) → Shaped k → Limits m → Cover m → m.states ≡ state_count k → m.inputs ≡ k.inputs → Certified k m → Invariant k m
sound k m shape limits cover es ei certified x w y inside bounded permitted =
    let u = m.command x in
    let state : State m.states x = subst (λ n. State n x) (sym es) (inside_state k x shape inside) in
    let covered = cover x state in
    let r = covered.0 in
    let region = get_or m.regions r [] in
    let width : m.states + m.inputs ≡ state_count k + k.inputs = omega arith in
    let narrow = subst (λ n. AllByRecursion (λ row. length row.coefficients ≡ n) region) width (region_wide m r limits covered.1) in
    let eu = limits.command_long x state ∙ ei in
    let ew = bounded_long k.bounds w bounded in
    let ey = permitted_long k.divisor k.equations x u w y permitted in
    let holds = solved k region x u w y shape.wide narrow eu ew ey (record { inside = inside; allowed = covered.2; bounded = bounded; permitted = permitted }) in
    record {
      long = ey;
      holds = All-from_get_or (Holds y) (faces k) no_row (λ f lt.
          let face = get_or (faces k) f no_row in
          let proof = certified r f covered.1 lt in
          let ef = All-get_or (λ row. length row.coefficients ≡ state_count k) (faces k) f no_row lt (faces_wide k shape.wide) in
          proved_face k x u w y inside.long eu ew ey (region_system k m r) face proof.0 proof.1.0 ef proof.1.1 holds);
    }

pub certificates_sound : CertificatesSound
certificates_sound c m limits cover es ei certified = sound (values_of c) m (case_shaped c) limits cover (es ∙ sym (states_are c)) ei certified
