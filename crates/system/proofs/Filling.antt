-- What the code fills in is the row of the case.
use Rattle.std.proofs.Common.{◌≡◌, ℕ, zero, suc, ◌+◌, ◌-◌, ◌*◌, ◌/◌, ◌%◌, ◌<◌, ◌≤◌, Bool, true, false, cond, eqb, List, [], ◌∷◌, ◌++◌, map, length, get_or, take, ℤ, pos, negsuc, ◌+ℤ◌, ◌-ℤ◌, ◌*ℤ◌, neg_ℤ, Ok, Result, sym, refl, ap, ◌∙◌, subst, arith, lit<, w64, SFits, to_z, of_z}
use borrow.Rule.Slice.PartMut.{put_mid}
use Rattle.std.proofs.ByRecursion.{All-get_or}
use Rattle.std.proofs.lemmas.List.{get_or_append_left, get_or-append_right, get_or-map, get_or-take, length-map, length-replicate, length-take-le, map-append}
use Rattle.std.proofs.lemmas.Int.{ints, to_z-of_z}
use Rattle.std.proofs.lemmas.Bool.{and_parts, and_from, eq-eqb, ne_eqb}
use Rattle.arith.specs.Bounds.{Within}
use Rattle.arith.proofs.Bounds.{sfits_within, sum_read, difference_is, difference_fits}
use Rattle.control.specs.declared.fault.ControlFault.{ControlFault}
use Rattle.control.specs.Answers.{no_row, present, region_of, row_of, row_answer, row_fills}
use Rattle.control.specs.Meaning.{Row, Meaning}
use Rattle.control.proofs.Outcomes.{there, row_found}
use Rattle.case.specs.declared.values.StateEquation.{StateEquation}
use Rattle.case.specs.declared.values.PushBounds.{PushBounds}
use Rattle.case.specs.declared.values.ExtraFace.{ExtraFace}
use Rattle.case.specs.declared.values.Case.{Case}
use Rattle.control.specs.Limits.{right_limit}
use Rattle.case.specs.Limits.{bound_limit, divisor_limit, constant_limit, leeway_limit, equation_ok, all_equations_ok}
use Rattle.case.specs.Faces.{unit, box_faces, extra_face, faces}
use Rattle.case.specs.System.{column_count, none, over_states, over_commands, push_rows, equation_row, next_rows}
use Rattle.case.specs.Values.{CaseValues, state_count, push_count, equation_of, extra_of, values_of}
use Rattle.case.proofs.Faces.{box_count}
use Rattle.case.proofs.Stored.{RangeOk, EquationOk, ExtraOk, ok_equation, ok_bounds, ok_extras, states_are, pushes_are, extras_are}
use Rattle.system.specs.Filled.{filled, bound_row}
use Rattle.system.proofs.Places.{unit_front, unit_within, front_long, front_filled, thrice_filled, paired_row, by_turns, high_face, low_face, box_paired, push_coefficients, high_push, low_push, push_paired, high_next, low_next, next_paired}

-- what stands past the end of an array of the case
abbrev pub no_equation : StateEquation
no_equation = record { low = pos 0; high = pos 0; leeway = pos 0; constant = pos 0; a = []; b = []; e = [] }

abbrev pub no_push : PushBounds
no_push = record { low = pos 0; high = pos 0 }

abbrev pub no_extra : ExtraFace
no_extra = record { coefficients = []; right = pos 0 }

-- state i, push j and extra face j of a case
abbrev pub equation_at : Case → ℕ → StateEquation
equation_at c i = get_or c.equations i no_equation

abbrev pub push_at : Case → ℕ → PushBounds
push_at c j = get_or c.bounds j no_push

abbrev pub extra_at : Case → ℕ → ExtraFace
extra_at c j = get_or c.extra j no_extra

test_at : (ss : List StateEquation) (i : ℕ) → i < length ss → all_equations_ok ss ≡ true → equation_ok (get_or ss i no_equation) ≡ true
test_at [] i lt t = absurd (omega arith)
test_at (s ∷ ss) zero lt t = (and_parts (equation_ok s) (all_equations_ok ss) t).0
test_at (s ∷ ss) (suc i) lt t = test_at ss i (omega arith) (and_parts (equation_ok s) (all_equations_ok ss) t).1

pub equation_test_at : (c : Case) (i : ℕ) → i < c.states → equation_ok (equation_at c i) ≡ true
equation_test_at c i lt =
    let h : i < length c.equations = omega (arith, c.sizes.1, c.lengths.0) in
    test_at c.equations i h c.limits.0

pub equation_ok_at : (c : Case) (i : ℕ) → i < c.states → EquationOk (equation_at c i)
equation_ok_at c i lt = ok_equation (equation_at c i) (equation_test_at c i lt)

pub push_ok_at : (c : Case) (j : ℕ) → j < c.pushes → RangeOk (push_at c j).low (push_at c j).high
push_ok_at c j lt =
    let h : j < length c.bounds = omega (arith, c.counts.0, c.lengths.1) in
    All-get_or (λ b. RangeOk b.low b.high) c.bounds j no_push h (ok_bounds c.bounds c.limits.1)

pub extra_ok_at : (c : Case) (j : ℕ) → j < c.extras → ExtraOk (extra_at c j)
extra_ok_at c j lt =
    let h : j < length c.extra = omega (arith, c.counts.1, c.lengths.2) in
    All-get_or ExtraOk c.extra j no_extra h (ok_extras c.extra c.limits.2)

-- the same, as the values have them
equation_is : (c : Case) (i : ℕ) → i < c.states → get_or (values_of c).equations i no_equation ≡ equation_of c.states c.inputs c.pushes (equation_at c i)
equation_is c i lt =
    let le : c.states ≤ length c.equations = omega (arith, c.sizes.1, c.lengths.0) in
    let h : i < length (take c.states c.equations) = omega (arith, length-take-le c.states c.equations le) in
    let f = equation_of c.states c.inputs c.pushes in
    get_or-map f (take c.states c.equations) i no_equation no_equation h ∙ ap f (get_or-take c.states c.equations i no_equation lt)

push_is : (c : Case) (j : ℕ) → j < c.pushes → get_or (values_of c).bounds j no_push ≡ push_at c j
push_is c j lt = get_or-take c.pushes c.bounds j no_push lt

extra_is : (c : Case) (j : ℕ) → j < c.extras → get_or (values_of c).extra j no_extra ≡ extra_of c.states (extra_at c j)
extra_is c j lt =
    let le : c.extras ≤ length c.extra = omega (arith, c.counts.1, c.lengths.2) in
    let h : j < length (take c.extras c.extra) = omega (arith, length-take-le c.extras c.extra le) in
    let f = extra_of c.states in
    get_or-map f (take c.extras c.extra) j no_extra no_extra h ∙ ap f (get_or-take c.extras c.extra j no_extra lt)

-- the faces of the box
box_part : (c : Case) (j : ℕ) → j < 2 * c.states → get_or (faces (values_of c)) j no_row ≡ get_or (box_faces (state_count (values_of c)) 0 (values_of c).equations) j no_row
box_part c j lt =
    let k = values_of c in
    let h : j < length (box_faces (state_count k) 0 k.equations) = omega (arith, box_count (state_count k) 0 k.equations, states_are c) in
    get_or_append_left (box_faces (state_count k) 0 k.equations) (map extra_face k.extra) no_row j h

unit_over : (k : CaseValues) (i : ℕ) (z r : ℤ) → i < state_count k → over_states k (record { coefficients = unit (state_count k) i z; right = r }) ≡ filled (unit (column_count k) i z) r
unit_over k i z r lt =
    let n = state_count k in
    let e : n + (k.inputs + push_count k + n) ≡ column_count k = omega arith in
    ap (λ l. filled l r) (unit_front n (k.inputs + push_count k + n) i z lt ∙ ap (λ w. unit w i z) e)

over_turns : (k : CaseValues) (b : Bool) (h l : Row) → over_states k (cond b h l) ≡ cond b (over_states k h) (over_states k l)
over_turns k true h l = refl
over_turns k false h l = refl

pub box_row_is : (c : Case) (j : ℕ) → j < 2 * c.states → bound_row (column_count (values_of c)) (j / 2) (equation_at c (j / 2)).low (equation_at c (j / 2)).high j ≡ over_states (values_of c) (get_or (faces (values_of c)) j no_row)
box_row_is c j lt =
    let k = values_of c in
    let n = state_count k in
    let b = eqb (j % 2) 0 in
    let s = equation_at c (j / 2) in
    let h : j < 2 * length k.equations = omega (arith, states_are c) in
    let i : j / 2 < n = omega (arith, states_are c) in
    sym (ap (over_states k) (box_part c j lt
    ∙ ap (λ rows. get_or rows j no_row) (box_paired n 0 k.equations)
    ∙ paired_row (high_face n) (low_face n) k.equations j no_equation h
    ∙ ap (λ t. cond b (high_face n (j / 2) t) (low_face n (j / 2) t)) (equation_is c (j / 2) (omega arith)))
    ∙ over_turns k b (high_face n (j / 2) s) (low_face n (j / 2) s)
    ∙ by_turns b _ _ _ _ (unit_over k (j / 2) (pos 1) s.high i) (unit_over k (j / 2) (negsuc 0) (neg_ℤ s.low) i))

-- the rows of the pushes
push_column : (c : Case) (j : ℕ) (z : ℤ) → j < c.pushes → push_coefficients (values_of c) j z ≡ unit (column_count (values_of c)) (c.states + c.inputs + j) z
push_column c j z lt =
    let k = values_of c in
    let n = state_count k in
    let p = push_count k in
    let h : j < p = omega (arith, pushes_are c) in
    let e : n + k.inputs + (p + n) ≡ column_count k = omega arith in
    let f : n + k.inputs + j ≡ c.states + c.inputs + j = omega (arith, states_are c) in
    unit_within (n + k.inputs) p n j z h ∙ ap (λ w. unit w (n + k.inputs + j) z) e ∙ ap (λ t. unit (column_count k) t z) f

pub push_row_is : (c : Case) (j : ℕ) → j < 2 * c.pushes → bound_row (column_count (values_of c)) (c.states + c.inputs + j / 2) (push_at c (j / 2)).low (push_at c (j / 2)).high j ≡ get_or (push_rows (values_of c) 0 (values_of c).bounds) j no_row
push_row_is c j lt =
    let k = values_of c in
    let b = eqb (j % 2) 0 in
    let p = push_at c (j / 2) in
    let h : j < 2 * length k.bounds = omega (arith, pushes_are c) in
    let i : j / 2 < c.pushes = omega arith in
    sym (ap (λ rows. get_or rows j no_row) (push_paired k 0 k.bounds)
    ∙ paired_row (high_push k) (low_push k) k.bounds j no_push h
    ∙ ap (λ t. cond b (high_push k (j / 2) t) (low_push k (j / 2) t)) (push_is c (j / 2) i)
    ∙ by_turns b _ _ _ _ (ap (λ l. filled l p.high) (push_column c (j / 2) (pos 1) i)) (ap (λ l. filled l (neg_ℤ p.low)) (push_column c (j / 2) (negsuc 0) i)))

-- the extra faces
pub extra_face_is : (c : Case) (j : ℕ) → 2 * c.states ≤ j → j < 2 * c.states + c.extras → over_states (values_of c) (extra_face (extra_of c.states (extra_at c (j - 2 * c.states)))) ≡ over_states (values_of c) (get_or (faces (values_of c)) j no_row)
extra_face_is c j past lt =
    let k = values_of c in
    let B = box_faces (state_count k) 0 k.equations in
    let b : length B ≡ 2 * c.states = omega (arith, box_count (state_count k) 0 k.equations, states_are c) in
    let i = j - 2 * c.states in
    let h : i < length k.extra = omega (arith, extras_are c) in
    ap (over_states k) (sym (get_or-append_right B (map extra_face k.extra) (2 * c.states) j no_row b past
    ∙ get_or-map extra_face k.extra i no_extra no_row h ∙ ap extra_face (extra_is c i (omega arith))))

-- the rows of the next states
next_row_is : (c : Case) (j : ℕ) → j < 2 * c.states → let s = equation_of c.states c.inputs c.pushes (equation_at c (j / 2)) in cond (eqb (j % 2) 0) (high_next (values_of c) (j / 2) s) (low_next (values_of c) (j / 2) s) ≡ get_or (next_rows (values_of c) 0 (values_of c).equations) j no_row
next_row_is c j lt =
    let k = values_of c in
    let h : j < 2 * length k.equations = omega (arith, states_are c) in
    sym (ap (λ rows. get_or rows j no_row) (next_paired k 0 k.equations)
    ∙ paired_row (high_next k) (low_next k) k.equations j no_equation h
    ∙ ap (λ t. cond (eqb (j % 2) 0) (high_next k (j / 2) t) (low_next k (j / 2) t)) (equation_is c (j / 2) (omega arith)))

pub high_next_is : (c : Case) (j : ℕ) → j < 2 * c.states → j % 2 ≡ 0 → high_next (values_of c) (j / 2) (equation_of c.states c.inputs c.pushes (equation_at c (j / 2))) ≡ get_or (next_rows (values_of c) 0 (values_of c).equations) j no_row
high_next_is c j lt even =
    let s = equation_of c.states c.inputs c.pushes (equation_at c (j / 2)) in
    ap (λ b. cond b (high_next (values_of c) (j / 2) s) (low_next (values_of c) (j / 2) s)) (sym (eq-eqb _ _ even)) ∙ next_row_is c j lt

pub low_next_is : (c : Case) (j : ℕ) → j < 2 * c.states → (j % 2 ≡ 0 → ⊥) → low_next (values_of c) (j / 2) (equation_of c.states c.inputs c.pushes (equation_at c (j / 2))) ≡ get_or (next_rows (values_of c) 0 (values_of c).equations) j no_row
low_next_is c j lt odd =
    let s = equation_of c.states c.inputs c.pushes (equation_at c (j / 2)) in
    ap (λ b. cond b (high_next (values_of c) (j / 2) s) (low_next (values_of c) (j / 2) s)) (sym (ne_eqb _ _ odd)) ∙ next_row_is c j lt

-- a row from its parts
pub same_row : (l l' : List ℤ) (r r' : ℤ) → l ≡ l' → r ≡ r' → filled l r ≡ filled l' r'
same_row l l' r r' e f = ap (λ t. filled t r) e ∙ ap (filled l') f

-- numbers as the code reads and negates them
pub bound_read : (z : ℤ) → Within bound_limit z → to_z w64 (of_z w64 z) ≡ z
bound_read z w = to_z-of_z w64 z (sfits_within bound_limit z (lit< tt) w)

-- the right sides of the rows of a next state, as the code computes them
pub up_is : (s : StateEquation) → EquationOk s → (to_z w64 (of_z w64 (to_z w64 (of_z w64 s.constant) +ℤ to_z w64 (of_z w64 s.leeway))) ≡ s.constant +ℤ s.leeway) × SFits w64 (to_z w64 (of_z w64 s.constant) +ℤ to_z w64 (of_z w64 s.leeway))
up_is s ok =
    let f = sfits_within constant_limit s.constant (lit< tt) ok.constant_small in
    let w : Within leeway_limit s.leeway = (omega (arith, ints, ok.leeway_low), ok.leeway_high) in
    let g = sfits_within leeway_limit s.leeway (lit< tt) w in
    let e : to_z w64 (of_z w64 s.constant) +ℤ to_z w64 (of_z w64 s.leeway) ≡ s.constant +ℤ s.leeway = sum_read _ _ f g in
    let b : Within right_limit (s.constant +ℤ s.leeway) = (omega (arith, ints, ok.constant_small.0, ok.leeway_low), omega (arith, ints, ok.constant_small.1, ok.leeway_high)) in
    let h = sfits_within right_limit (s.constant +ℤ s.leeway) (lit< tt) b in
    (ap (λ z. to_z w64 (of_z w64 z)) e ∙ to_z-of_z w64 _ h, subst (SFits w64) (sym e) h)

pub down_is : (s : StateEquation) → EquationOk s → (to_z w64 (of_z w64 (to_z w64 (of_z w64 s.leeway) -ℤ to_z w64 (of_z w64 s.constant))) ≡ s.leeway -ℤ s.constant) × SFits w64 (to_z w64 (of_z w64 s.leeway) -ℤ to_z w64 (of_z w64 s.constant))
down_is s ok =
    let f = sfits_within constant_limit s.constant (lit< tt) ok.constant_small in
    let w : Within leeway_limit s.leeway = (omega (arith, ints, ok.leeway_low), ok.leeway_high) in
    let g = sfits_within leeway_limit s.leeway (lit< tt) w in
    let b : Within right_limit (s.leeway -ℤ s.constant) = (omega (arith, ints, ok.constant_small.1, ok.leeway_low), omega (arith, ints, ok.constant_small.0, ok.leeway_high)) in
    let h = sfits_within right_limit (s.leeway -ℤ s.constant) (lit< tt) b in
    (difference_is s.leeway s.constant s.leeway s.constant refl refl g f h, difference_fits s.leeway s.constant s.leeway s.constant refl refl g f h)

-- the divisor, and its negation, as the code reads them
pub divisor_within : (c : Case) → Within divisor_limit c.divisor
divisor_within c = (omega (arith, ints, c.divides.0), c.divides.1)

pub divisor_read : (c : Case) → to_z w64 (of_z w64 c.divisor) ≡ c.divisor
divisor_read c = to_z-of_z w64 c.divisor (sfits_within divisor_limit c.divisor (lit< tt) (divisor_within c))

-- the coefficients of a next state from its three parts
pub next_filled : (c : Case) (i : ℕ) (s : StateEquation) (sign own : ℤ) (A B E : List ℤ) → EquationOk s → A ≡ map (λ z. sign *ℤ z) (take (c.states - 0) s.a) → B ≡ map (λ z. sign *ℤ z) (take (c.inputs - 0) s.b) → E ≡ map (λ z. sign *ℤ z) (take (c.pushes - 0) s.e) → let n = c.states in let m = c.inputs in let p = c.pushes in put_mid (n + m) (n + m + p - (n + m)) (put_mid n (n + m - n) (put_mid 0 (n - 0) (unit (column_count (values_of c)) (n + m + p + i) own) A) B) E ≡ equation_row (values_of c) i (equation_of n m p s) sign own
next_filled c i s sign own A B E ok ea eb ee =
    let n = c.states in
    let m = c.inputs in
    let p = c.pushes in
    let q = state_count (values_of c) in
    let f = λ (z : ℤ). sign *ℤ z in
    let zero_less = λ (t : ℕ). let e : t - 0 ≡ t = omega arith in e in
    let la : n ≤ length s.a = omega (arith, ok.a_ok.long, c.sizes.1) in
    let lb : m ≤ length s.b = omega (arith, ok.b_ok.long, c.sizes.3) in
    let le : p ≤ length s.e = omega (arith, ok.e_ok.long, c.counts.0) in
    let wa : length A ≡ n = ap length ea ∙ length-map (take (n - 0) s.a) f ∙ front_long n s.a la in
    let wb : length B ≡ m = ap length eb ∙ length-map (take (m - 0) s.b) f ∙ front_long m s.b lb in
    let we : length E ≡ p = ap length ee ∙ length-map (take (p - 0) s.e) f ∙ front_long p s.e le in
    let a : A ≡ map f (take n s.a) = ea ∙ ap (λ t. map f (take t s.a)) (zero_less n) in
    let b : B ≡ map f (take m s.b) = eb ∙ ap (λ t. map f (take t s.b)) (zero_less m) in
    let e : E ≡ map f (take p s.e) = ee ∙ ap (λ t. map f (take t s.e)) (zero_less p) in
    let N : column_count (values_of c) ≡ n + m + p + q = omega (arith, states_are c, pushes_are c) in
    let parts : A ++ (B ++ E) ≡ map f (take n s.a ++ (take m s.b ++ take p s.e)) =
    ap (λ l. l ++ (B ++ E)) a ∙ ap (λ l. map f (take n s.a) ++ (l ++ E)) b ∙ ap (λ l. map f (take n s.a) ++ (map f (take m s.b) ++ l)) e
    ∙ ap (λ l. map f (take n s.a) ++ l) (sym (map-append f (take m s.b) (take p s.e)))
    ∙ sym (map-append f (take n s.a) (take m s.b ++ take p s.e)) in
    ap (λ w. put_mid (n + m) (n + m + p - (n + m)) (put_mid n (n + m - n) (put_mid 0 (n - 0) (unit w (n + m + p + i) own) A) B) E) N
    ∙ thrice_filled n m p q i own A B E wa wb we ∙ ap (λ l. l ++ unit q i own) parts

ok_is : (r s : ℤ) → ◌≡◌ {A = Result ℤ ControlFault} (Ok r) (Ok s) → r ≡ s
ok_is r s e = cc

-- the coefficients of a row of the region, before zeros
pub region_filled : (c : Case) (m : Meaning) (region j : ℕ) (cleared last : List ℤ) (r : ℤ) → m.states ≡ c.states → m.inputs ≡ c.inputs → present m.regions region ≡ true → j < length (region_of m region) → cleared ≡ none (column_count (values_of c)) → Ok r ≡ row_answer m region (j + 1) (take (c.states + c.inputs - 0) cleared) → last ≡ row_fills m region (j + 1) (take (c.states + c.inputs - 0) cleared) → filled (put_mid 0 (c.states + c.inputs - 0) cleared last) r ≡ over_commands (values_of c) (get_or (region_of m region) j no_row)
region_filled c m region j cleared last r es ei there-region lt ec ea ef =
    let k = values_of c in
    let w = c.states + c.inputs in
    let more = push_count k + state_count k in
    let N : w + more ≡ column_count k = omega (arith, states_are c) in
    let lc : length cleared ≡ column_count k = ap length ec ∙ length-replicate (column_count k) (pos 0) in
    let long : length (take (w - 0) cleared) ≡ m.states + m.inputs = front_long w cleared (omega arith) ∙ omega arith in
    let such = and_from (present m.regions region) (present (region_of m region) (j + 1)) there-region (there (region_of m region) (j + 1) (omega arith) (omega arith)) in
    let p = row_found m region (j + 1) (take (w - 0) cleared) such (eq-eqb _ _ long) in
    let at : j + 1 - 1 ≡ j = omega arith in
    let same : row_of m region (j + 1) ≡ get_or (region_of m region) j no_row = ap (λ t. get_or (region_of m region) t no_row) at in
    let r_is = ok_is r (row_of m region (j + 1)).right (ea ∙ sym p.0) in
    same_row _ _ _ _
    (ap (λ l. put_mid 0 (w - 0) l last) ec ∙ front_filled w (column_count k) more last N ∙ ap (λ l. l ++ none more) (ef ∙ sym p.1))
    r_is
    ∙ ap (over_commands k) same
