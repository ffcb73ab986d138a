-- Lemmas on the test of rows and on the faces of a case.
use Rattle.std.proofs.Common.{◌≡◌, ℕ, zero, suc, ◌+◌, ◌-◌, ◌*◌, ◌<◌, ◌≤◌, Bool, true, cond, eqb, List, [], ◌∷◌, ◌++◌, map, length, get_or, take, drop, ℤ, pos, negsuc, ◌*ℤ◌, neg_ℤ, Ok, Err, Decides, Result, sym, ap, ◌∙◌, subst, inl, inr, arith}
use lib.Signed.{le_z}
use Rattle.std.specs.List.{AllByRecursion}
use Rattle.std.proofs.lemmas.List.{at_drop_all, at_drop_more, get_or-map, length-map, length-take-le, get_or-take}
use Rattle.std.proofs.lemmas.Int.{ints}
use Rattle.std.proofs.lemmas.Bool.{cases_Bool, cond-true, cond-false, eqb-true, eq-eqb, ne_eqb}
use Rattle.std.proofs.lemmas.Bool.Decides.{not_from_Decides}
use Rattle.arith.proofs.Bounds.{le_z_true}
use Rattle.arith.proofs.Dots.{dot_unit}
use Rattle.control.specs.Answers.{no_row}
use Rattle.control.specs.Cover.{Holds}
use Rattle.control.specs.Meaning.{Row}
use Rattle.case.specs.Faces.{unit, box_faces, extra_face, faces, Inside}
use Rattle.case.specs.Values.{CaseValues, state_count, equation_of, extra_of, values_of}
use Rattle.case.specs.declared.values.Case.{Case}
use Rattle.case.specs.declared.values.StateEquation.{StateEquation}
use Rattle.case.proofs.Faces.{box_count}
use Rattle.case.proofs.Stored.{equations_enough, extras_enough, states_are, extras_are}
use Rattle.motion.specs.declared.faces.Outside.{Outside}
use Rattle.motion.specs.declared.faces.Outside.TheVariants.{Length, Face}
use Rattle.motion.specs.Moves.{no_equation}
use Rattle.motion.specs.Tests.{holds_test, rows_test, state_test, FirstFailing}
use Rattle.motion.proofs.Widths.{le_test}
use Rattle.motion.proofs.Stored.{no_extra, held_at}

-- the test of a row says whether it holds
pub holds_decides : (x : List ℤ) (row : Row) → Decides (holds_test x row) (Holds x row)
holds_decides x row = (le_z_true _ _, le_test _ _)

-- the rows of one state
one_times : (z : ℤ) → pos 1 *ℤ z ≡ z
one_times z = omega (arith, ints)

minus_times : (z : ℤ) → negsuc 0 *ℤ z ≡ neg_ℤ z
minus_times z = omega (arith, ints)

negated_test : (a b : ℤ) → le_z (neg_ℤ a) (neg_ℤ b) ≡ le_z b a
negated_test a b = grind (arith, ints)

high_test : (n i : ℕ) (x : List ℤ) (h : ℤ) → i < n → length x ≡ n → holds_test x (record { coefficients = unit n i (pos 1); right = h }) ≡ le_z (get_or x i (pos 0)) h
high_test n i x h lt e = ap (λ t. le_z t h) (dot_unit n i (pos 1) x lt e ∙ one_times _)

low_test : (n i : ℕ) (x : List ℤ) (l : ℤ) → i < n → length x ≡ n → holds_test x (record { coefficients = unit n i (negsuc 0); right = neg_ℤ l }) ≡ le_z l (get_or x i (pos 0))
low_test n i x l lt e = ap (λ t. le_z t (neg_ℤ l)) (dot_unit n i (negsuc 0) x lt e ∙ minus_times (get_or x i (pos 0))) ∙ negated_test (get_or x i (pos 0)) l

-- what is left of the test where the bounds of the states below i have passed
abbrev pub bounds_left : ℕ → List ℤ → List StateEquation → ℕ → Result (Unit {0}) Outside
bounds_left n x ss i = rows_test x (2 * i + 1) (box_faces n i (drop i ss))

bounds_turn : (n : ℕ) (x : List ℤ) (ss : List StateEquation) (i : ℕ) (s : StateEquation) → i < n → length x ≡ n → length ss ≡ n → get_or ss i no_equation ≡ s → bounds_left n x ss i ≡ cond (le_z (get_or x i (pos 0)) s.high) (cond (le_z s.low (get_or x i (pos 0))) (bounds_left n x ss (i + 1)) (Err (Face (2 * i + 2)))) (Err (Face (2 * i + 1)))
bounds_turn n x ss i s lt e f is =
    let lss : i < length ss = omega arith in
    let k = 2 * i + 1 in
    let more : suc (suc k) ≡ 2 * (i + 1) + 1 = omega arith in
    let next : suc i ≡ i + 1 = omega arith in
    let second : suc k ≡ 2 * i + 2 = omega arith in
    at_drop_more (λ t. rows_test x k (box_faces n i t)) ss i no_equation lss
    ∙ ap (λ t. rows_test x k (box_faces n i (t ∷ drop (i + 1) ss))) is
    ∙ rw (high_test n i x s.high lt e, low_test n i x s.low lt e, more, next, second)

-- one turn of the loop over the states of a case
pub case_turn : (k : Case) (x : List ℤ) (i : ℕ) → i < k.states → length x ≡ k.states → bounds_left k.states x (values_of k).equations i ≡ cond (le_z (get_or x i (pos 0)) (get_or k.equations i no_equation).high) (cond (le_z (get_or k.equations i no_equation).low (get_or x i (pos 0))) (bounds_left k.states x (values_of k).equations (i + 1)) (Err (Face (2 * i + 2)))) (Err (Face (2 * i + 1)))
case_turn k x i lt e =
    let f = equation_of k.states k.inputs k.pushes in
    bounds_turn k.states x (values_of k).equations i (f (get_or k.equations i no_equation)) lt e (states_are k) (held_at f k.states k.equations i no_equation no_equation lt (equations_enough k))

pub bounds_end : (k : Case) (x : List ℤ) (i : ℕ) → k.states ≤ i → bounds_left k.states x (values_of k).equations i ≡ Ok tt
bounds_end k x i le =
    let h : length (values_of k).equations ≤ i = omega (arith, states_are k) in
    at_drop_all (λ t. rows_test x (2 * i + 1) (box_faces k.states i t)) (values_of k).equations i h

-- a test that passes
passed : (b : Bool) (r : Result (Unit {0}) Outside) (e : Outside) → cond b r (Err e) ≡ Ok tt → (b ≡ true) × (r ≡ Ok tt)
passed b r e h =
    elim (cases_Bool b) [
      | inl p ↦ (p, sym (cond-true b r (Err e) p) ∙ h)
      | inr p ↦ (let q = sym (cond-false b r (Err e) p) ∙ h in let z : ◌≡◌ {A = ℕ} 0 1 = cc in absurd (omega arith))
    ]

-- one list of rows after another
pub rows_refused : (x : List ℤ) (k : ℕ) (rows more : List Row) (e : Outside) → rows_test x k rows ≡ Err e → rows_test x k (rows ++ more) ≡ Err e
rows_refused x k [] more e h = let z : ◌≡◌ {A = ℕ} 0 1 = cc in absurd (omega arith)
rows_refused x k (row ∷ rows) more e h =
    elim (cases_Bool (holds_test x row)) [
      | inl p ↦ cond-true _ _ _ p ∙ rows_refused x (suc k) rows more e (sym (cond-true _ _ _ p) ∙ h)
      | inr p ↦ cond-false _ _ _ p ∙ (sym (cond-false _ _ _ p) ∙ h)
    ]

pub rows_passed : (x : List ℤ) (k : ℕ) (rows more : List Row) → rows_test x k rows ≡ Ok tt → rows_test x k (rows ++ more) ≡ rows_test x (k + length rows) more
rows_passed x k [] more h = ap (λ j. rows_test x j more) (omega arith)
rows_passed x k (row ∷ rows) more h =
    let p = passed (holds_test x row) (rows_test x (suc k) rows) (Face k) h in
    cond-true _ _ _ p.0 ∙ rows_passed x (suc k) rows more p.1 ∙ ap (λ j. rows_test x j more) (omega arith)

-- rows that pass are rows that hold
rows_hold : (x : List ℤ) (k : ℕ) (rows : List Row) → rows_test x k rows ≡ Ok tt → AllByRecursion (Holds x) rows
rows_hold x k [] h = tt
rows_hold x k (row ∷ rows) h =
    let p = passed (holds_test x row) (rows_test x (suc k) rows) (Face k) h in
    ((holds_decides x row).0 p.0, rows_hold x (suc k) rows p.1)

rows_pass : (x : List ℤ) (k : ℕ) (rows : List Row) → AllByRecursion (Holds x) rows → rows_test x k rows ≡ Ok tt
rows_pass x k [] h = cc
rows_pass x k (row ∷ rows) h = cond-true _ _ _ ((holds_decides x row).1 h.0) ∙ rows_pass x (suc k) rows h.1

-- the number of a row that is refused
rows_first : (x : List ℤ) (k j : ℕ) (rows : List Row) → rows_test x k rows ≡ Err (Face j) → (m : ℕ) × (j ≡ k + m) × (m < length rows) × AllByRecursion (Holds x) (take m rows) × (Holds x (get_or rows m no_row) → ⊥)
rows_first x k j [] h = let z : ◌≡◌ {A = ℕ} 0 1 = cc in absurd (omega arith)
rows_first x k j (row ∷ rows) h =
    elim (cases_Bool (holds_test x row)) [
      | inl p ↦ (let q = rows_first x (suc k) j rows (sym (cond-true _ _ _ p) ∙ h) in
          (suc q.0, omega (arith, q.1), omega (arith, q.2), ((holds_decides x row).0 p, q.3), q.4))
      | inr p ↦ (let q = sym (cond-false _ _ _ p) ∙ h in let e : j ≡ k = cc in
          (zero, omega arith, omega arith, tt, not_from_Decides _ (holds_decides x row) p))
    ]

-- the laws of the test of a state
pub inside_exactly : (k : CaseValues) (x : List ℤ) (r : Result (Unit {0}) Outside) → r ≡ state_test k x → (r ≡ Ok tt → Inside k x) × (Inside k x → r ≡ Ok tt)
inside_exactly k x r e = (
  (λ h. let p = passed (eqb (length x) (state_count k)) (rows_test x 1 (faces k)) Length (sym e ∙ h) in
      record { long = eqb-true _ _ p.0; holds = rows_hold x 1 (faces k) p.1 }),
  (λ h. e ∙ cond-true _ _ _ (eq-eqb _ _ h.long) ∙ rows_pass x 1 (faces k) h.holds),
)

pub first_failing : (k : CaseValues) (x : List ℤ) (r : Result (Unit {0}) Outside) → r ≡ state_test k x → (j : ℕ) → r ≡ Err (Face j) → FirstFailing k x j
first_failing k x r e j h =
    elim (cases_Bool (eqb (length x) (state_count k))) [
      | inl p ↦ (let q = rows_first x 1 j (faces k) (sym (cond-true _ _ _ p) ∙ sym e ∙ h) in
          let m : q.0 ≡ j - 1 = omega (arith, q.1) in
          record {
            long = eqb-true _ _ p;
            low = omega (arith, q.1);
            high = omega (arith, q.1, q.2);
            before = subst (λ i. AllByRecursion (Holds x) (take i (faces k))) m q.3;
            fails = subst (λ i. Holds x (get_or (faces k) i no_row) → ⊥) m q.4;
          })
      | inr p ↦ (let q = sym (cond-false _ _ _ p) ∙ sym e ∙ h in let z : ◌≡◌ {A = ℕ} 0 1 = cc in absurd (omega arith))
    ]

-- what is left of the test where the extra faces below i have passed
abbrev pub extras_left : Case → List ℤ → ℕ → Result (Unit {0}) Outside
extras_left k x i = rows_test x (2 * k.states + i + 1) (drop i (map extra_face (values_of k).extra))

-- one turn of the loop over the extra faces of a case
pub extras_turn : (k : Case) (x : List ℤ) (i : ℕ) (b : Bool) → i < length (take k.extras k.extra) → length x ≡ k.states → b ≡ holds_test x (extra_face (extra_of (length x) (get_or (take k.extras k.extra) i no_extra))) → extras_left k x i ≡ cond b (extras_left k x (i + 1)) (Err (Face (2 * k.states + i + 1)))
extras_turn k x i b below long is =
    let f = extra_of k.states in
    let lt : i < k.extras = omega (arith, length-take-le k.extras k.extra (extras_enough k)) in
    let own : get_or (take k.extras k.extra) i no_extra ≡ get_or k.extra i no_extra = get_or-take k.extras k.extra i no_extra lt in
    let j = 2 * k.states + i + 1 in
    let h : i < length (values_of k).extra = omega (arith, extras_are k) in
    let g : i < length (map extra_face (values_of k).extra) = omega (arith, length-map (values_of k).extra extra_face) in
    let at = get_or-map extra_face (values_of k).extra i no_extra no_row h ∙ ap extra_face (held_at f k.extras k.extra i no_extra no_extra lt (extras_enough k)) in
    let test : b ≡ holds_test x (extra_face (f (get_or k.extra i no_extra))) = is ∙ ap (λ f. holds_test x (extra_face (extra_of (length x) f))) own ∙ ap (λ n. holds_test x (extra_face (extra_of n (get_or k.extra i no_extra)))) long in
    let more : suc j ≡ 2 * k.states + (i + 1) + 1 = omega arith in
    at_drop_more (rows_test x j) (map extra_face (values_of k).extra) i no_row g
    ∙ ap (λ row. cond (holds_test x row) (rows_test x (suc j) (drop (i + 1) (map extra_face (values_of k).extra))) (Err (Face j))) at
    ∙ ap (λ t. cond t (rows_test x (suc j) (drop (i + 1) (map extra_face (values_of k).extra))) (Err (Face j))) (sym test)
    ∙ ap (λ n. cond b (rows_test x n (drop (i + 1) (map extra_face (values_of k).extra))) (Err (Face j))) more

pub extras_end : (k : Case) (x : List ℤ) (i : ℕ) → length (take k.extras k.extra) ≤ i → extras_left k x i ≡ Ok tt
extras_end k x i past =
    let le : k.extras ≤ i = omega (arith, length-take-le k.extras k.extra (extras_enough k)) in
    let h : length (map extra_face (values_of k).extra) ≤ i = omega (arith, length-map (values_of k).extra extra_face, extras_are k) in
    at_drop_all (rows_test x (2 * k.states + i + 1)) (map extra_face (values_of k).extra) i h

-- the test of a state in parts: its length, the bounds of each state, then the extra faces
pub wrong_length : (k : Case) (x : List ℤ) → (length x ≡ k.states → ⊥) → Err Length ≡ state_test (values_of k) x
wrong_length k x ne = sym (cond-false _ _ _ (ne_eqb _ _ (λ e. ne (e ∙ states_are k))))

pub bounds_refused : (k : Case) (x : List ℤ) (e : Outside) → length x ≡ k.states → Err e ≡ rows_test x 1 (box_faces k.states 0 (values_of k).equations) → Err e ≡ state_test (values_of k) x
bounds_refused k x e long h =
    let rows = box_faces (state_count (values_of k)) 0 (values_of k).equations in
    let r : rows_test x 1 rows ≡ Err e = ap (λ n. rows_test x 1 (box_faces n 0 (values_of k).equations)) (states_are k) ∙ sym h in
    sym (cond-true _ _ _ (eq-eqb _ _ (long ∙ sym (states_are k))) ∙ rows_refused x 1 rows (map extra_face (values_of k).extra) e r)

pub bounds_passed : (k : Case) (x : List ℤ) (r : Result (Unit {0}) Outside) → length x ≡ k.states → Ok tt ≡ rows_test x 1 (box_faces k.states 0 (values_of k).equations) → r ≡ rows_test x (2 * k.states + 1) (map extra_face (values_of k).extra) → r ≡ state_test (values_of k) x
bounds_passed k x r long h is =
    let rows = box_faces (state_count (values_of k)) 0 (values_of k).equations in
    let more = map extra_face (values_of k).extra in
    let p : rows_test x 1 rows ≡ Ok tt = ap (λ n. rows_test x 1 (box_faces n 0 (values_of k).equations)) (states_are k) ∙ sym h in
    let count : 2 * k.states + 1 ≡ 1 + length rows = omega (arith, box_count (state_count (values_of k)) 0 (values_of k).equations, states_are k) in
    is ∙ ap (λ j. rows_test x j more) count ∙ sym (cond-true _ _ _ (eq-eqb _ _ (long ∙ sym (states_are k))) ∙ rows_passed x 1 rows more p)
