-- The test of a proof of one face decides whether its scale and multipliers stand.
use Rattle.std.proofs.Common.{◌≡◌, ℕ, ◌+◌, ◌-◌, ◌≤◌, Bool, true, false, cond, not, ◌&&◌, eqb, ltb, List, [], ◌∷◌, length, get_or, drop, ℤ, pos, negsuc, ◌*ℤ◌, ◌≤ℤ◌, Some, None, Ok, Err, Decides, Option, Result, sym, refl, ap, ◌∙◌, arith}
use lib.Signed.{le_z, lt_z}
use Rattle.std.specs.List.{AllByRecursion}
use Rattle.std.proofs.ByRecursion.{All-weaker, Decides-by_and}
use Rattle.std.proofs.lemmas.Int.{ints}
use Rattle.std.proofs.lemmas.Bool.{false≢true}
use Rattle.std.proofs.lemmas.Bool.Decides.{Decides-and, Decides-eqb, Decides-like, Decides-ltb}
use Rattle.arith.proofs.Bounds.{le_z_true}
use Rattle.control.specs.Answers.{present}
use Rattle.control.specs.Meaning.{Row, Meaning}
use Rattle.case.specs.Faces.{faces}
use Rattle.case.specs.System.{column_count}
use Rattle.case.specs.Values.{CaseValues, state_count}
use Rattle.system.specs.Answers.{fits, system_of}
use Rattle.system.proofs.Rows.{Same}
use Rattle.certificate.specs.declared.fault.ProofFault.{ProofFault}
use Rattle.certificate.specs.declared.fault.ProofFault.TheVariants.{Sizes, Missing, Length, Range}
use Rattle.certificate.specs.Certificates.{scaled, column_sums, right_sum, face_over_next, Proves}
use Rattle.certificate.specs.Tests.{multiplier_limit, in_limit, all_in_limit, same, all_same, first_unequal, low_enough, right_low, proves_test, equations_by, equations_of, face_of, ProofForm}

-- the tests of numbers
pub decides_le_z : (a b : ℤ) → Decides (le_z a b) (a ≤ℤ b)
decides_le_z a b = (le_z_true a b, (λ h. grind (arith, ints)))

pub decides_same : (a b : ℤ) → Decides (same a b) (a ≡ b)
decides_same a b =
    Decides-like (same a b) (λ h. omega (arith, ints, h.0, h.1)) (λ e. (omega (arith, ints), omega (arith, ints)))
    (Decides-and (le_z a b) (le_z b a) (decides_le_z a b) (decides_le_z b a))

-- a test whose fact fails
pub decides_false : {P : Type 0} (r : Bool) → Decides r P → (P → ⊥) → r ≡ false
decides_false true d fails = absurd (fails (d.0 refl))
decides_false false d fails = refl

-- an order as the code tests it
pub is_above : (a b x y : ℤ) → a ≡ x → b ≡ y → lt_z a b ≡ true → y ≤ℤ x → ⊥
is_above a b x y ea eb t le = grind (arith, ints)

pub not_above : (a b x y : ℤ) → a ≡ x → b ≡ y → lt_z a b ≡ false → y ≤ℤ x
not_above a b x y ea eb t = grind (arith, ints)

decides_if : {P Q : Type 0} (b c : Bool) → Decides b P → Decides c Q → Decides (cond b c true) (P → Q)
decides_if true c p q = ((λ e h. q.0 e), (λ f. q.1 (f (p.0 refl))))
decides_if false c p q = ((λ e h. absurd (false≢true (p.1 h))), (λ f. refl))

-- a number in its limit
abbrev pub Limited : ℤ → Type 0
Limited z = (pos 0 ≤ℤ z) × (z ≤ℤ pos multiplier_limit)

pub decides_in_limit : (z : ℤ) → Decides (in_limit z) (Limited z)
decides_in_limit z = Decides-and (le_z (pos 0) z) (le_z z (pos multiplier_limit)) (decides_le_z (pos 0) z) (decides_le_z z (pos multiplier_limit))

pub decides_all_in_limit : (zs : List ℤ) → Decides (all_in_limit zs) (AllByRecursion Limited zs)
decides_all_in_limit zs = Decides-by_and in_limit Limited all_in_limit decides_in_limit refl (λ _ _. refl) zs

all_limited : (zs : List ℤ) → AllByRecursion (λ z. pos 0 ≤ℤ z) zs → AllByRecursion (λ z. z ≤ℤ pos multiplier_limit) zs → AllByRecursion Limited zs
all_limited [] low high = tt
all_limited (z ∷ zs) low high = ((low.0, high.0), all_limited zs low.1 high.1)

-- no place differs exactly when the lists are the same
pub none_unequal : (j : ℕ) (xs ys : List ℤ) → Same (first_unequal j xs ys ≡ None) (xs ≡ ys)
none_unequal j [] [] = ((λ e. refl), (λ e. refl))
none_unequal j [] (y ∷ ys) = ((λ e. absurd (grind arith)), (λ e. absurd (omega (arith, ap length e))))
none_unequal j (x ∷ xs) [] = ((λ e. absurd (grind arith)), (λ e. absurd (omega (arith, ap length e))))
none_unequal j (x ∷ xs) (y ∷ ys) = by_test (same x y) refl (none_unequal (j + 1) xs ys)
  where
    by_test : (t : Bool) → same x y ≡ t → Same (first_unequal (j + 1) xs ys ≡ None) (xs ≡ ys) → Same (cond t (first_unequal (j + 1) xs ys) (Some j) ≡ None) (x ∷ xs ≡ y ∷ ys)
    by_test true e more = ((λ n. ap (λ z. z ∷ xs) ((decides_same x y).0 e) ∙ ap (λ zs. y ∷ zs) (more.0 n)), (λ q. more.1 (ap (drop 1) q)))
    by_test false e more = ((λ n. absurd (grind arith)), (λ q. absurd (false≢true (sym e ∙ (decides_same x y).1 (ap (λ zs. get_or zs 0 (pos 0)) q)))))

-- the answers that pass
equations_pass : (o : Option ℕ) (low : Bool) → Same (equations_by o low ≡ Ok tt) ((o ≡ None) × (low ≡ true))
equations_pass (Some j) low = ((λ e. absurd (grind arith)), (λ h. absurd (grind arith)))
equations_pass None true = ((λ e. (refl, refl)), (λ h. refl))
equations_pass None false = ((λ e. absurd (grind arith)), (λ h. absurd (false≢true h.1)))

passes : (b : Bool) (r : Result (Unit {0}) ProofFault) (f : ProofFault) → Same (cond b r (Err f) ≡ Ok tt) ((b ≡ true) × (r ≡ Ok tt))
passes true r f = ((λ e. (refl, e)), (λ h. h.1))
passes false r f = ((λ e. absurd (grind arith)), (λ h. absurd (false≢true h.0)))

-- the right side, as a fact
abbrev pub Low : ℤ → ℤ → ℤ → Type 0
Low sum scale right = (sum ≤ℤ (scale *ℤ right)) × (scale ≡ pos 0 → sum ≤ℤ negsuc 0)

pub decides_low : (sum scale right : ℤ) → Decides (low_enough sum scale right) (Low sum scale right)
decides_low sum scale right =
    Decides-and (le_z sum (scale *ℤ right)) (cond (same scale (pos 0)) (le_z sum (negsuc 0)) true) (decides_le_z sum (scale *ℤ right))
    (decides_if (same scale (pos 0)) (le_z sum (negsuc 0)) (decides_same scale (pos 0)) (decides_le_z sum (negsuc 0)))

-- a test of the opposite
pub excess_by : (sum scale right : ℤ) (t : Bool) → (t ≡ true → Low sum scale right → ⊥) → (t ≡ false → Low sum scale right) → t ≡ not (low_enough sum scale right)
excess_by sum scale right true out low = sym (ap not (decides_false (low_enough sum scale right) (decides_low sum scale right) (out refl)))
excess_by sum scale right false out low = sym (ap not ((decides_low sum scale right).1 (low refl)))

-- the equations, for as many multipliers as rows and no number below 0
pub equations_decided : (k : CaseValues) (rows : List Row) (face : Row) (scale : ℤ) (ms : List ℤ) → length ms ≡ length rows → pos 0 ≤ℤ scale → AllByRecursion (λ m. pos 0 ≤ℤ m) ms → Same (equations_of k rows face scale ms ≡ Ok tt) (Proves k rows face scale ms)
equations_decided k rows face scale ms long low each =
    let sums = column_sums (column_count k) ms rows in
    let wanted = scaled scale (face_over_next k face) in
    let right = decides_low (right_sum ms rows) scale face.right in
    let pass = equations_pass (first_unequal 1 sums wanted) (right_low rows face scale ms) in
    let equal = none_unequal 1 sums wanted in (
      (λ e. let h = pass.0 e in
          let q = right.0 h.1 in
          record { long = long; scale_low = low; each_low = each; columns = equal.0 h.0; right = q.0; strict = q.1 }),
      (λ p. pass.1 (equal.1 p.columns, right.1 (p.right, p.strict))),
    )

-- the sizes, and a place counted from 1
decides_fits : (k : CaseValues) (m : Meaning) → Decides (fits k m) ((m.states ≡ state_count k) × (m.inputs ≡ k.inputs))
decides_fits k m = Decides-and (eqb m.states (state_count k)) (eqb m.inputs k.inputs) (Decides-eqb m.states (state_count k)) (Decides-eqb m.inputs k.inputs)

pub decides_present : {X : Type 0} (xs : List X) (j : ℕ) → Decides (present xs j) ((1 ≤ j) × (j ≤ length xs))
decides_present xs j =
    Decides-like (present xs j) (λ h. (omega (arith, h.0), omega (arith, h.0, h.1))) (λ h. (omega (arith, h.0), omega (arith, h.0, h.1)))
    (Decides-and (ltb 0 j) (ltb (j - 1) (length xs)) (Decides-ltb 0 j) (Decides-ltb (j - 1) (length xs)))

-- the test passes exactly when scale and multipliers stand
pub proof_form : (k : CaseValues) (m : Meaning) (region face : ℕ) (scale : ℤ) (ms : List ℤ) → ProofForm k m region face scale ms
unfolding ProofForm
proof_form k m region face scale ms =
    let rows = system_of k m region in
    let equations = equations_of k rows (face_of k face) scale ms in
    let limits = cond (in_limit scale && all_in_limit ms) equations (Err Range) in
    let long = cond (eqb (length ms) (length rows)) limits (Err Length) in
    let there = cond (present m.regions region && present (faces k) face) long (Err Missing) in
    let sizes_pass = passes (fits k m) there Sizes in
    let there_pass = passes (present m.regions region && present (faces k) face) long Missing in
    let long_pass = passes (eqb (length ms) (length rows)) limits Length in
    let limits_pass = passes (in_limit scale && all_in_limit ms) equations Range in
    let sizes = decides_fits k m in
    let places = Decides-and (present m.regions region) (present (faces k) face) (decides_present m.regions region) (decides_present (faces k) face) in
    let count = Decides-eqb (length ms) (length rows) in
    let numbers = Decides-and (in_limit scale) (all_in_limit ms) (decides_in_limit scale) (decides_all_in_limit ms) in
    let lows = λ (all : AllByRecursion Limited ms). All-weaker Limited (λ z. pos 0 ≤ℤ z) (λ z h. h.0) ms all in (
      (λ e.
          let a = sizes_pass.0 e in
          let b = there_pass.0 a.1 in
          let c = long_pass.0 b.1 in
          let d = limits_pass.0 c.1 in
          let s = sizes.0 a.0 in
          let p = places.0 b.0 in
          let n = numbers.0 d.0 in
          record {
            states_same = s.0;
            inputs_same = s.1;
            region_low = p.0.0;
            region_high = p.0.1;
            face_low = p.1.0;
            face_high = p.1.1;
            scale_high = n.0.1;
            each_high = All-weaker Limited (λ z. z ≤ℤ pos multiplier_limit) (λ z h. h.1) ms n.1;
            proves = (equations_decided k rows (face_of k face) scale ms (count.0 c.0) n.0.0 (lows n.1)).0 d.1;
          }),
      (λ s.
          let p = s.proves in
          let met = (equations_decided k rows (face_of k face) scale ms p.long p.scale_low p.each_low).1 p in
          let d = limits_pass.1 (numbers.1 ((p.scale_low, s.scale_high), all_limited ms p.each_low s.each_high), met) in
          let c = long_pass.1 (count.1 p.long, d) in
          let b = there_pass.1 (places.1 ((s.region_low, s.region_high), (s.face_low, s.face_high)), c) in
          sizes_pass.1 (sizes.1 (s.states_same, s.inputs_same), b)),
    )

pub decides_all_same : (xs ys : List ℤ) → Decides (all_same xs ys) (xs ≡ ys)
decides_all_same [] [] = ((λ e. refl), (λ e. refl))
decides_all_same [] (y ∷ ys) = ((λ e. absurd (false≢true e)), (λ e. absurd (omega (arith, ap length e))))
decides_all_same (x ∷ xs) [] = ((λ e. absurd (false≢true e)), (λ e. absurd (omega (arith, ap length e))))
decides_all_same (x ∷ xs) (y ∷ ys) =
    Decides-like (same x y && all_same xs ys)
    (λ h. ap (λ z. z ∷ xs) h.0 ∙ ap (λ zs. y ∷ zs) h.1)
    (λ e. (ap (λ zs. get_or zs 0 (pos 0)) e, ap (drop 1) e))
    (Decides-and (same x y) (all_same xs ys) (decides_same x y) (decides_all_same xs ys))

-- for as many multipliers as rows, and no number below 0
pub proves_decided : (k : CaseValues) (rows : List Row) (face : Row) (scale : ℤ) (multipliers : List ℤ) → length multipliers ≡ length rows → pos 0 ≤ℤ scale → AllByRecursion (λ m. pos 0 ≤ℤ m) multipliers → Decides (proves_test k rows face scale multipliers) (Proves k rows face scale multipliers)
proves_decided k rows face scale multipliers long low each =
    let sums = column_sums (column_count k) multipliers rows in
    let wanted = scaled scale (face_over_next k face) in
    let sum = right_sum multipliers rows in
    Decides-like (proves_test k rows face scale multipliers)
    (λ h. record { long = long; scale_low = low; each_low = each; columns = h.0; right = h.1.0; strict = h.1.1 })
    (λ p. (p.columns, (p.right, p.strict)))
    (Decides-and (all_same sums wanted) (right_low rows face scale multipliers) (decides_all_same sums wanted)
    (Decides-and (le_z sum (scale *ℤ face.right)) (cond (same scale (pos 0)) (le_z sum (negsuc 0)) true) (decides_le_z sum (scale *ℤ face.right))
    (decides_if (same scale (pos 0)) (le_z sum (negsuc 0)) (decides_same scale (pos 0)) (decides_le_z sum (negsuc 0)))))
