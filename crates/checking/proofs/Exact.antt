-- Check accepts exactly the text of a certificate.
use Rattle.std.proofs.Common.{◌≡◌, ℕ, zero, suc, ◌+◌, ◌-◌, ◌<◌, ◌≤◌, Bool, true, false, cond, ◌&&◌, ◌||◌, eqb, ltb, List, [], ◌∷◌, map, length, get_or, drop, replicate, ℤ, pos, negsuc, nat_abs, ◌≤ℤ◌, Some, None, Ok, Err, Option, Result, sym, refl, ap, ◌∙◌, subst, arith}
use lib.Signed.{le_z}
use Rattle.std.specs.List.{range_with_len, AllByRecursion}
use Rattle.std.proofs.lemmas.List.FromFn.{length-range_with_len, get_or-range_with_len}
use Rattle.std.proofs.ByRecursion.{All-get_or, All-from_get_or, All-weaker}
use Rattle.std.proofs.lemmas.List.{length-replicate}
use Rattle.std.proofs.lemmas.Int.{ints}
use Rattle.std.proofs.lemmas.Bool.{both_ways, eqb-true, eq-eqb, lt-ltb, and_parts, and_from, or_parts, or_from, cond-true, cond-false}
use Rattle.text.specs.Forms.{Fit}
use Rattle.text.specs.Lines.{bind, text_limit, place, next_number, after_field, numbers_of}
use Rattle.text.specs.Render.{fields_text}
use Rattle.text.specs.declared.faults.TextFault.{TextFault}
use Rattle.text.specs.declared.faults.TextFault.TheVariants.{Size}
use Rattle.text.specs.declared.number.Limit.{Limit}
use Rattle.text.proofs.Forming.{bind_ok, ok_same, numbers_to, numbers_from, fit_length}
use Rattle.control.specs.Answers.{present}
use Rattle.control.specs.Meaning.{Meaning}
use Rattle.case.specs.Faces.{faces}
use Rattle.case.specs.Values.{CaseValues, state_count}
use Rattle.case.proofs.Exits.{bind_at}
use Rattle.system.specs.Answers.{fits, system_of}
use Rattle.certificate.specs.Tests.{multiplier_limit, in_limit, all_in_limit, face_of, equations_of, proof_answer, Stands, ProofForm}
use Rattle.certificate.specs.declared.fault.ProofFault.{ProofFault}
use Rattle.certificate.proofs.Tested.{decides_le_z}
use Rattle.certificate.proofs.Tested.{proof_form}
use Rattle.checking.specs.Checking.{ProofLine, pair, names, as_check, as_index, up_to, region_field, face_field, unnamed, proof_limit, proof_limits, number_fields, proof_line, proved_at, equations_at, line_of, absent_face, unless_absent, all_named, complete, text_lines, lines_check, text_check, most_first_line, is_measured, check_of}
use Rattle.checking.specs.Forms.{proof_numbers, proofs_text, Apart, Certificate, CheckForm}
use Rattle.checking.specs.declared.faults.CheckFault.{CheckFault}
use Rattle.checking.specs.declared.faults.CheckFault.TheVariants.{Text, Sizes, Repeated}
use Rattle.checking.proofs.Lining.{rows_lines, text_of_lines, lines_rows}
use Rattle.checking.proofs.Measuring.{measured_to, measured_from}

-- What an Ok came from.

as_check_ok : {X : Type 0} (r : Result X TextFault) (x : X) → as_check r ≡ Ok x → r ≡ Ok x
as_check_ok (Ok y) x e = let k : y ≡ x = cc in ap Ok k
as_check_ok (Err d) x e = grind arith

as_index_ok : (r : Result ℤ TextFault) (n : ℕ) → as_index r ≡ Ok n → (z : ℤ) × (r ≡ Ok z) × (nat_abs z ≡ n)
as_index_ok (Ok z) n e = (z, refl, ok_same (nat_abs z) n e)
as_index_ok (Err d) n e = grind arith

proved_ok : (line region face : ℕ) (r : Result (Unit {0}) ProofFault) (u : Unit {0}) → proved_at line region face r ≡ Ok u → r ≡ Ok tt
proved_ok line region face (Ok t) u e = refl
proved_ok line region face (Err d) u e = grind arith

unnamed_ok : (before : List ProofLine) (line region face : ℕ) (u : Unit {0}) → unnamed (names before) line region face ≡ Ok u → names before region face ≡ false
unnamed_ok before line region face u e = by_test (names before region face) refl e
  where
    by_test : (t : Bool) → names before region face ≡ t → ◌≡◌ {A = Result (Unit {0}) CheckFault} (cond t (Err (Repeated line (pair region face))) (Ok tt)) (Ok u) → names before region face ≡ false
    by_test true t f = grind arith
    by_test false t f = t

-- Numbers within equal limits.

-- a number within a limit
abbrev In : Limit → ℤ → Type 0
In l z = (l.low ≤ℤ z) × (z ≤ℤ l.high)

fit_all : (n : ℕ) (l : Limit) (zs : List ℤ) → Fit (replicate n l) zs → AllByRecursion (In l) zs
fit_all zero l [] h = tt
fit_all zero l (z ∷ zs) h = absurd h
fit_all (suc n) l [] h = absurd h
fit_all (suc n) l (z ∷ zs) h = ((h.0, h.1), fit_all n l zs h.2)

all_fit : (n : ℕ) (l : Limit) (zs : List ℤ) → length zs ≡ n → AllByRecursion (In l) zs → Fit (replicate n l) zs
all_fit zero l [] e h = tt
all_fit zero l (z ∷ zs) e h = absurd (omega arith)
all_fit (suc n) l [] e h = absurd (omega arith)
all_fit (suc n) l (z ∷ zs) e h = (h.0.0, h.0.1, all_fit n l zs (omega arith) h.1)

-- The fields of a line, read one after another.

numbers_more : (line f : ℕ) (l : Limit) (ls : List Limit) (left : Option (List ℕ)) (z : ℤ) (zs : List ℤ)
    → next_number (place line f) l left ≡ Ok z → numbers_of line (f + 1) ls (after_field left) ≡ Ok zs → numbers_of line f (l ∷ ls) left ≡ Ok (z ∷ zs)
numbers_more line f l ls left z zs e d =
    bind_at (next_number (place line f) l left) (λ y. bind (numbers_of line (f + 1) ls (after_field left)) (λ ys. Ok (y ∷ ys))) z e
    ∙ bind_at (numbers_of line (f + 1) ls (after_field left)) (λ ys. Ok (z ∷ ys)) zs d

numbers_less : (line f : ℕ) (l : Limit) (ls : List Limit) (left : Option (List ℕ)) (z : ℤ) (zs : List ℤ)
    → numbers_of line f (l ∷ ls) left ≡ Ok (z ∷ zs) → (next_number (place line f) l left ≡ Ok z) × (numbers_of line (f + 1) ls (after_field left) ≡ Ok zs)
numbers_less line f l ls left z zs e =
    let a = bind_ok (next_number (place line f) l left) (λ y. bind (numbers_of line (f + 1) ls (after_field left)) (λ ys. Ok (y ∷ ys))) (z ∷ zs) e in
    let b = bind_ok (numbers_of line (f + 1) ls (after_field left)) (λ ys. Ok (a.0 ∷ ys)) (z ∷ zs) a.2 in
    let q = ok_same (a.0 ∷ b.0) (z ∷ zs) b.2 in
    (a.1 ∙ ap (λ t. Ok (get_or t 0 (pos 0))) q, b.1 ∙ ap (λ t. Ok (drop 1 t)) q)

index_is : (n : ℕ) (z : ℤ) → In (up_to n) z → z ≡ pos (nat_abs z)
index_is n (pos i) h = refl
index_is n (negsuc i) h = absurd (omega (arith, ints, h.0))

-- The tests of a proof's numbers.

present_at : {X : Type 0} (xs : List X) (i : ℕ) → In (up_to (length xs)) (pos i) → present xs i ≡ true
present_at xs i h =
    let low = h.0 in
    let high = h.1 in
    and_from (ltb 0 i) (ltb (i - 1) (length xs)) (lt-ltb 0 i (omega (arith, ints))) (lt-ltb (i - 1) (length xs) (omega (arith, ints)))

in_limit_at : (z : ℤ) → In proof_limit z → in_limit z ≡ true
in_limit_at z h =
    and_from (le_z (pos 0) z) (le_z z (pos multiplier_limit)) ((decides_le_z (pos 0) z).1 h.0) ((decides_le_z z (pos multiplier_limit)).1 h.1)

all_in_limit_at : (zs : List ℤ) → AllByRecursion (In proof_limit) zs → all_in_limit zs ≡ true
all_in_limit_at [] h = refl
all_in_limit_at (z ∷ zs) h = and_from (in_limit z) (all_in_limit zs) (in_limit_at z h.0) (all_in_limit_at zs h.1)

-- What holds of each element.

all_both : {X : Type 0} (P Q : X → Type 0) (xs : List X) → AllByRecursion P xs → AllByRecursion Q xs → AllByRecursion (λ x. P x × Q x) xs
all_both P Q [] p q = tt
all_both P Q (x ∷ xs) p q = ((p.0, q.0), all_both P Q xs p.1 q.1)

all_any : {X : Type 0} {P : X → Type 0} → ((x : X) → P x) → (xs : List X) → AllByRecursion P xs
all_any h [] = tt
all_any h (x ∷ xs) = (h x, all_any h xs)

-- Pairs that no line names.

absent_more : (t : Bool) (o : Option ℕ) (f : ℕ) → cond t o (Some f) ≡ None → (t ≡ true) × (o ≡ None)
absent_more true o f e = (refl, e)
absent_more false o f e = grind arith

absent_to : (ls : List ProofLine) (region : ℕ) (fs : List ℕ) → absent_face (names ls) region fs ≡ None → AllByRecursion (λ f. names ls region f ≡ true) fs
absent_to ls region [] e = tt
absent_to ls region (f ∷ fs) e =
    let p = absent_more (names ls region f) (absent_face (names ls) region fs) f e in
    (p.0, absent_to ls region fs p.1)

absent_from : (ls : List ProofLine) (region : ℕ) (fs : List ℕ) → AllByRecursion (λ f. names ls region f ≡ true) fs → absent_face (names ls) region fs ≡ None
absent_from ls region [] h = refl
absent_from ls region (f ∷ fs) h = cond-true (names ls region f) _ _ h.0 ∙ absent_from ls region fs h.1

unless_ok : (region : ℕ) (o : Option ℕ) (r : Result (Unit {0}) CheckFault) → unless_absent region o r ≡ Ok tt → (o ≡ None) × (r ≡ Ok tt)
unless_ok region None r e = (refl, e)
unless_ok region (Some f) r e = grind arith

named_to : (ls : List ProofLine) (rs fs : List ℕ) → all_named (names ls) rs fs ≡ Ok tt → AllByRecursion (λ r. AllByRecursion (λ f. names ls r f ≡ true) fs) rs
named_to ls [] fs e = tt
named_to ls (r ∷ rs) fs e =
    let p = unless_ok r (absent_face (names ls) r fs) (all_named (names ls) rs fs) e in
    (absent_to ls r fs p.0, named_to ls rs fs p.1)

named_from : (ls : List ProofLine) (rs fs : List ℕ) → AllByRecursion (λ r. AllByRecursion (λ f. names ls r f ≡ true) fs) rs → all_named (names ls) rs fs ≡ Ok tt
named_from ls [] fs h = refl
named_from ls (r ∷ rs) fs h = ap (λ o. unless_absent r o (all_named (names ls) rs fs)) (absent_from ls r fs h.0) ∙ named_from ls rs fs h.1

counting_to : (P : ℕ → Type 0) (a n : ℕ) → AllByRecursion P (range_with_len a n) → (i : ℕ) → a ≤ i → i < a + n → P i
counting_to P a n h i low high =
    let j : i - a < n = omega arith in
    subst P (get_or-range_with_len a n (i - a) 0 j ∙ omega arith) (All-get_or P (range_with_len a n) (i - a) 0 (omega (arith, length-range_with_len a n)) h)

counting_from : (P : ℕ → Type 0) (a n : ℕ) → ((i : ℕ) → a ≤ i → i < a + n → P i) → AllByRecursion P (range_with_len a n)
counting_from P a n h =
    All-from_get_or P (range_with_len a n) 0 (λ i lt.
    let j : i < n = omega (arith, length-range_with_len a n) in
    subst P (sym (get_or-range_with_len a n i 0 j)) (h (a + i) (omega arith) (omega arith)))

-- Lines one behind another.

-- this line names the pair of that
abbrev names_pair : ProofLine → ProofLine → Bool
names_pair x y = eqb x.region y.region && eqb x.face y.face

pair_to : (x y : ProofLine) → names_pair x y ≡ false → x.region ≡ y.region → x.face ≡ y.face → ⊥
pair_to x y e er ef = both_ways (names_pair x y) e (and_from _ _ (eq-eqb _ _ er) (eq-eqb _ _ ef))

pair_from : (x y : ProofLine) → (x.region ≡ y.region → x.face ≡ y.face → ⊥) → names_pair x y ≡ false
pair_from x y h = by_test (names_pair x y) refl
  where
    by_test : (t : Bool) → names_pair x y ≡ t → t ≡ false
    by_test true t = let p = and_parts _ _ t in absurd (h (eqb-true _ _ p.0) (eqb-true _ _ p.1))
    by_test false t = refl

or_turn : (a b c : Bool) → ((a || b) || c) ≡ (b || (a || c))
or_turn true true c = refl
or_turn true false c = refl
or_turn false true c = refl
or_turn false false c = refl

or_none : (a : Bool) → (a || false) ≡ a
or_none true = refl
or_none false = refl

-- a line's numbers stand
abbrev pub Standing : CaseValues → Meaning → ProofLine → Type 0
Standing k m l = Stands k m l.region l.face l.scale l.multipliers

-- every pair of a region and a face is named
abbrev pub Every : CaseValues → Meaning → (ℕ → ℕ → Bool) → Type 0
Every k m named =
    (region face : ℕ) → 1 ≤ region → region ≤ length m.regions → 1 ≤ face → face ≤ length (faces k) → named region face ≡ true

-- lines behind others: each stands, no two name the same pair, none names a pair of those before, and together with those before they name every pair
pub record Behind (k : CaseValues) (m : Meaning) (before ls : List ProofLine) : Type 0 where
  pub each : AllByRecursion (Standing k m) ls
  pub apart : Apart ls
  pub fresh : AllByRecursion (λ l. names before l.region l.face ≡ false) ls
  pub every : Every k m (λ region face. names ls region face || names before region face)

module _ (k : CaseValues) (m : Meaning) where
  -- the limits of a line that names this region
  abbrev line_limits : ℕ → List Limit
  line_limits region = up_to (length m.regions) ∷ up_to (length (faces k)) ∷ proof_limits k m region

  -- the numbers of a line keep their limits
  abbrev Kept : ProofLine → Type 0
  Kept l = Fit (line_limits l.region) (proof_numbers l)

  shown : (region face : ℕ) (zs : List ℤ) → Fit (proof_limits k m region) zs → proof_numbers (proof_line region face zs) ≡ pos region ∷ pos face ∷ zs
  shown region face [] h = absurd (omega (arith, fit_length (proof_limits k m region) [] h, length-replicate (1 + length (system_of k m region)) proof_limit))
  shown region face (z ∷ zs) h = refl

  -- a line is read, field after field, as these numbers: it is their rendering, and they keep their limits
  fields_to : (line : ℕ) (bytes : List ℕ) (region face : ℕ) (zs : List ℤ)
      → region_field m line bytes ≡ Ok region → face_field k line bytes ≡ Ok face → number_fields k m region line bytes ≡ Ok zs
      → (bytes ≡ fields_text (proof_numbers (proof_line region face zs))) × Kept (proof_line region face zs)
  fields_to line bytes region face zs er ef en =
      let r = as_index_ok (next_number (place line 1) (up_to (length m.regions)) (Some bytes)) region er in
      let f = as_index_ok (next_number (place line 2) (up_to (length (faces k))) (after_field (Some bytes))) face ef in
      let n = as_check_ok (numbers_of line 3 (proof_limits k m region) (after_field (after_field (Some bytes)))) zs en in
      let whole = numbers_more line 1 (up_to (length m.regions)) (up_to (length (faces k)) ∷ proof_limits k m region) (Some bytes) r.0 (f.0 ∷ zs) r.1
      (numbers_more line 2 (up_to (length (faces k))) (proof_limits k m region) (after_field (Some bytes)) f.0 zs f.1 n) in
      let t = numbers_to line 1 (up_to (length m.regions)) (up_to (length (faces k)) ∷ proof_limits k m region) bytes (r.0 ∷ f.0 ∷ zs) whole in
      let h = t.1 in
      let same : r.0 ∷ f.0 ∷ zs ≡ proof_numbers (proof_line region face zs) =
      ap (λ z. z ∷ f.0 ∷ zs) (index_is (length m.regions) r.0 (h.0, h.1) ∙ ap pos r.2)
      ∙ ap (λ z. pos region ∷ z ∷ zs) (index_is (length (faces k)) f.0 (h.2.0, h.2.1) ∙ ap pos f.2)
      ∙ sym (shown region face zs h.2.2) in
      (t.0 ∙ ap fields_text same, subst (Fit (line_limits region)) same h)

  -- and back
  fields_from : (line : ℕ) (l : ProofLine) → Kept l
      → (region_field m line (fields_text (proof_numbers l)) ≡ Ok l.region) × (face_field k line (fields_text (proof_numbers l)) ≡ Ok l.face)
      × (number_fields k m l.region line (fields_text (proof_numbers l)) ≡ Ok (l.scale ∷ l.multipliers))
  fields_from line l h =
      let left = Some (fields_text (proof_numbers l)) in
      let whole = numbers_from line 1 (up_to (length m.regions)) (up_to (length (faces k)) ∷ proof_limits k m l.region) (proof_numbers l) h in
      let r = numbers_less line 1 (up_to (length m.regions)) (up_to (length (faces k)) ∷ proof_limits k m l.region) left (pos l.region) (pos l.face ∷ l.scale ∷ l.multipliers) whole in
      let f = numbers_less line 2 (up_to (length (faces k))) (proof_limits k m l.region) (after_field left) (pos l.face) (l.scale ∷ l.multipliers) r.1 in
      (ap as_index r.0, ap as_index f.0, ap as_check f.1)

  -- What a line's numbers must meet.

  pub fits_from : m.states ≡ state_count k → m.inputs ≡ k.inputs → fits k m ≡ true
  fits_from es ei = and_from (eqb m.states (state_count k)) (eqb m.inputs k.inputs) (eq-eqb _ _ es) (eq-eqb _ _ ei)

  pub fits_to : fits k m ≡ true → (m.states ≡ state_count k) × (m.inputs ≡ k.inputs)
  fits_to e =
      let p = and_parts (eqb m.states (state_count k)) (eqb m.inputs k.inputs) e in
      (eqb-true _ _ p.0, eqb-true _ _ p.1)

  kept_long : (l : ProofLine) → Kept l → length l.multipliers ≡ length (system_of k m l.region)
  kept_long l h =
      omega (
        arith,
        fit_length (proof_limits k m l.region) (l.scale ∷ l.multipliers) h.2.2,
        length-replicate (1 + length (system_of k m l.region)) proof_limit,
      )

  -- of numbers that keep their limits only the equations are left to test
  answer_is : (l : ProofLine) → fits k m ≡ true → Kept l
      → proof_answer k m l.region l.face l.scale l.multipliers ≡ equations_of k (system_of k m l.region) (face_of k l.face) l.scale l.multipliers
  answer_is l e h =
      let each = fit_all (1 + length (system_of k m l.region)) proof_limit (l.scale ∷ l.multipliers) h.2.2 in
      cond-true (fits k m) _ _ e
      ∙ cond-true (present m.regions l.region && present (faces k) l.face) _ _
      (and_from _ _ (present_at m.regions l.region (h.0, h.1)) (present_at (faces k) l.face (h.2.0, h.2.1)))
      ∙ cond-true (eqb (length l.multipliers) (length (system_of k m l.region))) _ _ (eq-eqb _ _ (kept_long l h))
      ∙ cond-true (in_limit l.scale && all_in_limit l.multipliers) _ _
      (and_from _ _ (in_limit_at l.scale each.0) (all_in_limit_at l.multipliers each.1))

  stands_kept : (l : ProofLine) → Standing k m l → Kept l
  stands_kept l s =
      let rl = s.region_low in
      let rh = s.region_high in
      let fl = s.face_low in
      let fh = s.face_high in
      let p = s.proves in
      let long : length (l.scale ∷ l.multipliers) ≡ 1 + length (system_of k m l.region) = omega (arith, p.long) in (
        omega (arith, ints),
        omega (arith, ints),
        (
          omega (arith, ints),
          omega (arith, ints),
          all_fit (1 + length (system_of k m l.region)) proof_limit (l.scale ∷ l.multipliers) long
              ((p.scale_low, s.scale_high), all_both (λ z. pos 0 ≤ℤ z) (λ z. z ≤ℤ pos multiplier_limit) l.multipliers p.each_low s.each_high),
        ),
      )

  -- What is left to judge behind each part of a line.

  abbrev equations_left : ℕ → ProofLine → Result ProofLine CheckFault
  equations_left line l = bind (equations_at k m line l) (λ _. Ok l)

  abbrev numbers_left : ℕ → List ℕ → ℕ → ℕ → Result ProofLine CheckFault
  numbers_left line bytes region face = bind (number_fields k m region line bytes) (λ zs. equations_left line (proof_line region face zs))

  abbrev name_left : List ProofLine → ℕ → List ℕ → ℕ → ℕ → Result ProofLine CheckFault
  name_left before line bytes region face = bind (unnamed (names before) line region face) (λ _. numbers_left line bytes region face)

  abbrev face_left : List ProofLine → ℕ → List ℕ → ℕ → Result ProofLine CheckFault
  face_left before line bytes region = bind (face_field k line bytes) (name_left before line bytes region)

  -- AllByRecursion pairs and all lines.

  -- no pair is absent: every pair is named
  pub complete_to : (ls : List ProofLine) → complete k m ls ≡ Ok tt → Every k m (names ls)
  complete_to ls e region face rl rh fl fh =
      let fs = range_with_len 1 (length (faces k)) in
      let all = named_to ls (range_with_len 1 (length m.regions)) fs e in
      let of_region = counting_to (λ r. AllByRecursion (λ f. names ls r f ≡ true) fs) 1 (length m.regions) all region rl (omega arith) in
      counting_to (λ f. names ls region f ≡ true) 1 (length (faces k)) of_region face fl (omega arith)

  -- and back
  pub complete_from : (ls : List ProofLine) → Every k m (names ls) → complete k m ls ≡ Ok tt
  complete_from ls h =
      let fs = range_with_len 1 (length (faces k)) in
      named_from ls (range_with_len 1 (length m.regions)) fs
      (counting_from (λ r. AllByRecursion (λ f. names ls r f ≡ true) fs) 1 (length m.regions) (λ region rl rh.
      counting_from (λ f. names ls region f ≡ true) 1 (length (faces k)) (λ face fl fh. h region face rl (omega arith) fl (omega arith))))

  -- a line goes over from those behind to those before
  behind_more : (before : List ProofLine) (x : ProofLine) (xs : List ProofLine) → names before x.region x.face ≡ false → Standing k m x
      → Behind k m (x ∷ before) xs → Behind k m before (x ∷ xs)
  behind_more before x xs free stands b = record {
    each = (stands, b.each);
    apart = (
      All-weaker (λ y. names (x ∷ before) y.region y.face ≡ false) (λ y. x.region ≡ y.region → x.face ≡ y.face → ⊥)
          (λ y e. pair_to x y (or_parts (names_pair x y) (names before y.region y.face) e).0) xs b.fresh,
      b.apart,
    );
    fresh = (
      free,
      All-weaker (λ y. names (x ∷ before) y.region y.face ≡ false) (λ y. names before y.region y.face ≡ false)
          (λ y e. (or_parts (names_pair x y) (names before y.region y.face) e).1) xs b.fresh,
    );
    every = λ region face rl rh fl fh.
        or_turn (eqb x.region region && eqb x.face face) (names xs region face) (names before region face) ∙ b.every region face rl rh fl fh;
  }

  -- and back
  behind_less : (before : List ProofLine) (x : ProofLine) (xs : List ProofLine) → Behind k m before (x ∷ xs) → Behind k m (x ∷ before) xs
  behind_less before x xs b = record {
    each = b.each.1;
    apart = b.apart.1;
    fresh =
        All-weaker (λ y. (x.region ≡ y.region → x.face ≡ y.face → ⊥) × (names before y.region y.face ≡ false)) (λ y. names (x ∷ before) y.region y.face ≡ false)
        (λ y p. or_from (names_pair x y) (names before y.region y.face) (pair_from x y p.0) p.1) xs
        (all_both (λ y. x.region ≡ y.region → x.face ≡ y.face → ⊥) (λ y. names before y.region y.face ≡ false) xs b.apart.0 b.fresh.1);
    every = λ region face rl rh fl fh.
        sym (or_turn (eqb x.region region && eqb x.face face) (names xs region face) (names before region face)) ∙ b.every region face rl rh fl fh;
  }

  -- One line.

  stands_to : (line : ℕ) (l : ProofLine) (u : Unit {0}) → fits k m ≡ true → Kept l → equations_at k m line l ≡ Ok u → Standing k m l
  unfolding ProofForm
  stands_to line l u e h q = (proof_form k m l.region l.face l.scale l.multipliers).0 (answer_is l e h ∙ proved_ok line l.region l.face _ u q)

  stands_from : (line : ℕ) (l : ProofLine) → Standing k m l → equations_at k m line l ≡ Ok tt
  unfolding ProofForm
  stands_from line l s =
      ap (proved_at line l.region l.face)
      (sym (answer_is l (fits_from s.states_same s.inputs_same) (stands_kept l s)) ∙ (proof_form k m l.region l.face l.scale l.multipliers).1 s)

  -- a line is read: it is the rendering of numbers that stand, for a pair that no line before names
  pub line_to : fits k m ≡ true → (before : List ProofLine) (line : ℕ) (bytes : List ℕ) (l : ProofLine) → line_of k m before line bytes ≡ Ok l
      → (bytes ≡ fields_text (proof_numbers l)) × (names before l.region l.face ≡ false) × Standing k m l
  line_to e before line bytes l q =
      let r = bind_ok (region_field m line bytes) (face_left before line bytes) l q in
      let f = bind_ok (face_field k line bytes) (name_left before line bytes r.0) l r.2 in
      let u = bind_ok (unnamed (names before) line r.0 f.0) (λ _. numbers_left line bytes r.0 f.0) l f.2 in
      let n = bind_ok (number_fields k m r.0 line bytes) (λ zs. equations_left line (proof_line r.0 f.0 zs)) l u.2 in
      let x = proof_line r.0 f.0 n.0 in
      let s = bind_ok (equations_at k m line x) (λ _. Ok x) l n.2 in
      let t = fields_to line bytes r.0 f.0 n.0 r.1 f.1 n.1 in
      subst (λ y. (bytes ≡ fields_text (proof_numbers y)) × (names before y.region y.face ≡ false) × Standing k m y) (ok_same x l s.2)
      (t.0, unnamed_ok before line r.0 f.0 u.0 u.1, stands_to line x s.0 e t.1 s.1)

  -- and back
  pub line_from : (before : List ProofLine) (line : ℕ) (l : ProofLine) → names before l.region l.face ≡ false → Standing k m l
      → line_of k m before line (fields_text (proof_numbers l)) ≡ Ok l
  line_from before line l free s =
      let bytes = fields_text (proof_numbers l) in
      let t = fields_from line l (stands_kept l s) in
      bind_at (region_field m line bytes) (face_left before line bytes) l.region t.0
      ∙ bind_at (face_field k line bytes) (name_left before line bytes l.region) l.face t.1
      ∙ bind_at (unnamed (names before) line l.region l.face) (λ _. numbers_left line bytes l.region l.face) tt (cond-false (names before l.region l.face) _ _ free)
      ∙ bind_at (number_fields k m l.region line bytes) (λ zs. equations_left line (proof_line l.region l.face zs)) (l.scale ∷ l.multipliers) t.2
      ∙ bind_at (equations_at k m line l) (λ _. Ok l) tt (stands_from line l s)

  -- AllByRecursion lines.

  -- the lines are accepted: they are renderings, and nothing stands behind them
  pub lines_to : fits k m ≡ true → (before : List ProofLine) (line : ℕ) (ls : List (List ℕ)) (rest : List ℕ) → lines_check k m before line ls rest ≡ Ok tt
      → (xs : List ProofLine) × (rest ≡ []) × (ls ≡ map fields_text (map proof_numbers xs)) × Behind k m before xs
  lines_to e before line [] [] q = ([], refl, refl, record { each = tt; apart = tt; fresh = tt; every = complete_to before q })
  lines_to e before line [] (b ∷ bs) q = let z : ◌≡◌ {A = ℕ} 0 1 = grind arith in absurd (omega arith)
  lines_to e before line (l ∷ ls) rest q =
      let b = bind_ok (line_of k m before line l) (λ x. lines_check k m (x ∷ before) (line + 1) ls rest) tt q in
      let x = b.0 in
      let t = line_to e before line l x b.1 in
      let r = lines_to e (x ∷ before) (line + 1) ls rest b.2 in
      let xs = r.0 in
      (x ∷ xs, r.1, ap (λ y. y ∷ ls) t.0 ∙ ap (λ ys. fields_text (proof_numbers x) ∷ ys) r.2, behind_more before x xs t.1 t.2 r.3)

  -- and back
  pub lines_from : (before : List ProofLine) (line : ℕ) (xs : List ProofLine) → Behind k m before xs
      → lines_check k m before line (map fields_text (map proof_numbers xs)) [] ≡ Ok tt
  lines_from before line [] b = complete_from before b.every
  lines_from before line (x ∷ xs) b =
      let ls = map fields_text (map proof_numbers xs) in
      bind_at (line_of k m before line (fields_text (proof_numbers x))) (λ y. lines_check k m (y ∷ before) (line + 1) ls []) x (line_from before line x b.fresh.0 b.each.0)
      ∙ lines_from (x ∷ before) (line + 1) xs (behind_less before x xs b)

  -- The whole proof part.

  text_to : (line : ℕ) (proofs : List ℕ) → fits k m ≡ true → text_check k m [] line proofs ≡ Ok tt → (ls : List ProofLine) × (proofs ≡ proofs_text ls) × Certificate k m ls
  text_to line proofs e q =
      let r = lines_to e [] line (text_lines proofs).0 (text_lines proofs).1 q in
      let ls = r.0 in
      let sizes = fits_to e in (
        ls,
        text_of_lines proofs (map fields_text (map proof_numbers ls)) (ap (λ t. ((text_lines proofs).0, t)) r.1 ∙ ap (λ t. (t, [])) r.2)
            ∙ lines_rows (map proof_numbers ls) [],
        record {
          states_same = sizes.0;
          inputs_same = sizes.1;
          each = r.3.each;
          apart = r.3.apart;
          every = λ region face rl rh fl fh. sym (or_none (names ls region face)) ∙ r.3.every region face rl rh fl fh;
        },
      )

  check_to : (line : ℕ) (proofs : List ℕ) → check_of k m line proofs ≡ Ok tt → (ls : List ProofLine) × (proofs ≡ proofs_text ls) × Certificate k m ls × (line ≤ most_first_line) × (length proofs ≤ text_limit)
  check_to line proofs q = by_test (fits k m) (is_measured line proofs) refl refl q
    where
      by_test : (t u : Bool) → fits k m ≡ t → is_measured line proofs ≡ u → cond t (cond u (text_check k m [] line proofs) (Err (Text Size))) (Err Sizes) ≡ Ok tt
          → (ls : List ProofLine) × (proofs ≡ proofs_text ls) × Certificate k m ls × (line ≤ most_first_line) × (length proofs ≤ text_limit)
      by_test true true t u p = let r = text_to line proofs t p in let h = measured_to line proofs u in (r.0, r.1, r.2, h.0, h.1)
      by_test true false t u p = let z : ◌≡◌ {A = ℕ} 0 1 = grind arith in absurd (omega arith)
      by_test false u t e p = let z : ◌≡◌ {A = ℕ} 0 1 = grind arith in absurd (omega arith)

  check_from : (line : ℕ) (ls : List ProofLine) → Certificate k m ls → is_measured line (proofs_text ls) ≡ true → check_of k m line (proofs_text ls) ≡ Ok tt
  check_from line ls c u =
      cond-true (fits k m) _ _ (fits_from c.states_same c.inputs_same)
      ∙ cond-true (is_measured line (proofs_text ls)) _ _ u
      ∙ ap (λ p. lines_check k m [] line p.0 p.1) (rows_lines (map proof_numbers ls))
      ∙ lines_from [] line ls (record {
        each = c.each;
        apart = c.apart;
        fresh = all_any (λ l. refl) ls;
        every = λ region face rl rh fl fh. or_none (names ls region face) ∙ c.every region face rl rh fl fh;
      })

  -- check accepts exactly when the proof part is the text of a certificate
  pub check_form : (line : ℕ) (proofs : List ℕ) → CheckForm k m line proofs
  unfolding CheckForm
  check_form line proofs = (check_to line proofs, λ c. ap (check_of k m line) c.1 ∙ check_from line c.0 c.2 (ap (is_measured line) (sym c.1) ∙ measured_from line proofs c.3 c.4))
