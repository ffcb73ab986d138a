-- Flags tell which pairs lines name, and so the first pair that they do not.
use Rattle.std.proofs.Common.{◌≡◌, ℕ, zero, suc, ◌+◌, ◌-◌, ◌<◌, ◌≤◌, Bool, true, false, not, cond, ◌&&◌, ◌||◌, eqb, ◌≢◌, List, [], ◌∷◌, length, get_or, set, take, drop, replicate, Some, None, Option, sym, refl, ap, ◌∙◌, arith}
use Rattle.std.specs.List.{list_all, range_with_len, position, position_from}
use Rattle.std.specs.Option.{option_map}
use Rattle.std.proofs.lemmas.Grind.{get_or_after_one}
use Rattle.std.proofs.lemmas.Iterator.Adapters.{position_from-zero}
use Rattle.std.proofs.lemmas.List.{get_or-set_same, get_or-set_other, get_or-take, length-drop, length-set, length-take-le}
use Rattle.std.proofs.lemmas.Bool.{and_parts, and_from, eqb-true, eqb-false, eq-eqb}
use Rattle.checking.specs.Checking.{ProofLine, names, absent_face, unless_absent, all_named}
use Rattle.checking.specs.Marks.{places, whole, marked, Adds, Marks}

-- no flag is set at first
no_flag : (m j : ℕ) → get_or (replicate m false) j false ≡ false
no_flag zero j = refl
no_flag (suc m) zero = refl
no_flag (suc m) (suc j) = no_flag m j

no_row : (n m i j : ℕ) → get_or (get_or (replicate n (replicate m false)) i []) j false ≡ false
no_row zero m i j = refl
no_row (suc n) m zero j = no_flag m j
no_row (suc n) m (suc i) j = no_row n m i j

pub marks_none : (n m : ℕ) → Marks (replicate n (replicate m false)) []
unfolding Marks
marks_none n m region face = no_row n m region face

-- a flag more
pub adds_flag : (flags : List (List Bool)) (region face : ℕ) → region < length flags → face < length (get_or flags region [])
    → Adds flags (set flags region (set (get_or flags region []) face true)) region face
unfolding Adds
adds_flag flags region face inside within r f = by_test (eqb region r) (eqb face f) refl refl
  where
    row : List Bool
    row = get_or flags region []

    new : List (List Bool)
    new = set flags region (set row face true)

    at_region : region ≡ r → get_or new r [] ≡ set row face true
    at_region e = ap (λ j. get_or new j []) (sym e) ∙ get_or-set_same flags region (set row face true) [] inside

    by_test : (s t : Bool) → eqb region r ≡ s → eqb face f ≡ t → get_or (get_or new r []) f false ≡ (s && t) || marked flags r f
    by_test true true s t =
        ap (λ l. get_or l f false) (at_region (eqb-true region r s)) ∙ ap (λ j. get_or (set row face true) j false) (sym (eqb-true face f t))
        ∙ get_or-set_same row face true false within
    by_test true false s t =
        let ne = eqb-false face f t in
        let other : f ≢ face = λ h. ne (sym h) in
        ap (λ l. get_or l f false) (at_region (eqb-true region r s)) ∙ get_or-set_other row face f true false other
        ∙ ap (λ j. get_or (get_or flags j []) f false) (eqb-true region r s)
    by_test false t s u =
        let ne = eqb-false region r s in
        let other : r ≢ region = λ h. ne (sym h) in
        ap (λ l. get_or l f false) (get_or-set_other flags region r (set row face true) [] other)

-- one line more
pub marks_more : (old new : List (List Bool)) (l : ProofLine) (ls : List ProofLine) → Marks old ls → Adds old new l.region l.face → Marks new (l ∷ ls)
unfolding Marks Adds
marks_more old new l ls marks adds region face = adds region face ∙ ap (λ b. (eqb l.region region && eqb l.face face) || b) (marks region face)

-- the flags stand for the lines
pub marks_same : (flags : List (List Bool)) (ls : List ProofLine) → Marks flags ls → marked flags ≡ names ls
unfolding Marks
marks_same flags ls marks = λ i region face. marks region face i

-- The pairs that are not named.

one_more : (b t : Bool) (k : ℕ) (o p : Option ℕ) → b ≡ t → option_map (λ i. i + 1) o ≡ p → option_map (λ i. i + 1) (cond (not b) (Some k) o) ≡ cond t p (Some (k + 1))
one_more true t k o p e more = more ∙ ap (λ x. cond x p (Some (k + 1))) e
one_more false t k o p e more = ap (λ x. cond x p (Some (k + 1))) e

-- the first face whose flag is not set, where k faces stand before the row
unset_from : (named : ℕ → ℕ → Bool) (region k : ℕ) (row : List Bool) → ((i : ℕ) → i < length row → get_or row i false ≡ named region (k + i + 1))
    → option_map (λ i. i + 1) (position_from not k row) ≡ absent_face named region (range_with_len (k + 1) (length row))
unset_from named region k [] each = refl
unset_from named region k (b ∷ row) each =
    let first : b ≡ named region (k + 1) = let e : k + 0 + 1 ≡ k + 1 = omega arith in each 0 (omega arith) ∙ ap (named region) e in
    one_more b (named region (k + 1)) k _ _ first
    (unset_from named region (k + 1) row (λ i lt. let e : k + suc i + 1 ≡ k + 1 + i + 1 = omega arith in each (suc i) (omega arith) ∙ ap (named region) e))

pub unset_is : (flags : List (List Bool)) (region faces : ℕ) → faces + 1 ≤ length (get_or flags region [])
    → option_map (λ i. i + 1) (position not (take (faces + 1 - 1) (drop 1 (get_or flags region [])))) ≡ absent_face (marked flags) region (range_with_len 1 faces)
unset_is flags region faces le =
    let row = get_or flags region [] in
    let rest = drop 1 row in
    let long : length (take faces rest) ≡ faces = length-take-le faces rest (omega (arith, length-drop 1 row)) in
    let z : faces + 1 - 1 ≡ faces = omega arith in
    ap (λ n. option_map (λ i. i + 1) (position not (take n rest))) z ∙ ap (option_map (λ i. i + 1)) (position_from-zero not (take faces rest))
    ∙ unset_from (marked flags) region 0 (take faces rest)
    (λ i lt. get_or-take faces rest i false (omega arith) ∙ get_or_after_one row i false ∙ (let e : 1 + i ≡ 0 + i + 1 = omega arith in ap (λ j. get_or row j false) e))
    ∙ ap (λ n. absent_face (marked flags) region (range_with_len 1 n)) long

-- the rows are long enough, also after a write
pub row_long : (rows : List (List Bool)) (i : ℕ) → i < length rows → list_all (λ row. eqb (length row) places) rows ≡ true → length (get_or rows i []) ≡ places
row_long [] i lt e = absurd (omega arith)
row_long (row ∷ rows) zero lt e = eqb-true _ _ (and_parts (eqb (length row) places) (list_all (λ row. eqb (length row) places) rows) e).0
row_long (row ∷ rows) (suc i) lt e = row_long rows i (omega arith) (and_parts (eqb (length row) places) (list_all (λ row. eqb (length row) places) rows) e).1

rows_set : (rows : List (List Bool)) (i : ℕ) (new : List Bool) → length new ≡ places → list_all (λ row. eqb (length row) places) rows ≡ true → list_all (λ row. eqb (length row) places) (set rows i new) ≡ true
rows_set [] i new long e = refl
rows_set (row ∷ rows) zero new long e =
    and_from (eqb (length new) places) (list_all (λ row. eqb (length row) places) rows) (eq-eqb _ _ long) (and_parts (eqb (length row) places) (list_all (λ row. eqb (length row) places) rows) e).1
rows_set (row ∷ rows) (suc i) new long e =
    let p = and_parts (eqb (length row) places) (list_all (λ row. eqb (length row) places) rows) e in
    and_from (eqb (length row) places) (list_all (λ row. eqb (length row) places) (set rows i new)) p.0 (rows_set rows i new long p.1)

-- what the lengths of the flags say
pub record Long (flags : List (List Bool)) : Type 0 where
  pub regions : length flags ≡ places
  pub rows : list_all (λ row. eqb (length row) places) flags ≡ true

pub long_to : (flags : List (List Bool)) → whole flags ≡ true → Long flags
long_to flags e = let p = and_parts (eqb (length flags) places) (list_all (λ row. eqb (length row) places) flags) e in record { regions = eqb-true _ _ p.0; rows = p.1 }

pub whole_set : (flags : List (List Bool)) (i : ℕ) (new : List Bool) → length new ≡ places → whole flags ≡ true → whole (set flags i new) ≡ true
whole_set flags i new long e =
    let l = long_to flags e in
    and_from (eqb (length (set flags i new)) places) (list_all (λ row. eqb (length row) places) (set flags i new)) (eq-eqb _ _ (length-set flags i new ∙ l.regions)) (rows_set flags i new long l.rows)

-- one region more
pub region_named : (named : ℕ → ℕ → Bool) (fs : List ℕ) (i n : ℕ) → i ≤ n → None ≡ absent_face named i fs
    → all_named named (range_with_len (i + 1) (n + 1 - (i + 1))) fs ≡ all_named named (range_with_len i (n + 1 - i)) fs
region_named named fs i n le e =
    let k : n + 1 - i ≡ suc (n + 1 - (i + 1)) = omega arith in
    ap (λ o. unless_absent i o (all_named named (range_with_len (i + 1) (n + 1 - (i + 1))) fs)) e ∙ ap (λ l. all_named named (range_with_len i l) fs) (sym k)
