-- What is read keeps the limits of its controller, and means what its values mean.
use Rattle.std.proofs.Common.{◌≡◌, ℕ, zero, suc, ◌+◌, ◌-◌, ◌≤◌, true, ◌&&◌, leb, List, [], ◌∷◌, ◌++◌, map, length, get_or, take, drop, replicate, ℤ, pos, ◌≤ℤ◌, Ok, Err, Result, sym, refl, ap, ◌∙◌, arith}
use lib.Signed.{le_z}
use Rattle.std.specs.List.{AllByRecursion}
use Rattle.std.proofs.lemmas.List.{length-append, length-replicate, length-take-le, get_or-drop, take-append-le}
use Rattle.std.proofs.lemmas.Int.{ints}
use Rattle.std.proofs.lemmas.Bool.{and_from, le-leb, eq-eqb}
use Rattle.arith.proofs.Bounds.{test_from_within}
use Rattle.arith.specs.Bounds.{within, all_within}
use Rattle.control.specs.Fixed.{fixed_ok}
use Rattle.control.specs.Limits.{most_states, most_inputs, sizes_ok, setting_limit}
use Rattle.control.specs.Saturated.{gain_limit, offset_limit, most_divisor, input_ok, inputs_ok, saturated_ok}
use Rattle.control.proofs.Outcomes.{sizes_pass}
use Rattle.text.specs.Forms.{Fit}
use Rattle.text.specs.Lines.{bind, padded, row_width}
use Rattle.text.specs.declared.number.Limit.{Limit}
use Rattle.text.proofs.Forming.{bind_ok, fit_length, ok_same}
use Rattle.laws.specs.Controllers.{saturated_law, fixed_law, table_ok, table_meaning, values_meaning, law_meaning, controller_of}
use Rattle.laws.specs.Laws.{LawText, law_of}
use Rattle.control.specs.Meaning.{Meaning}
use Rattle.laws.specs.declared.faults.LawFault.{LawFault}
use Rattle.laws.specs.declared.table.LawTable.{LawTable}
use Rattle.laws.proofs.Composing.{known}
use Rattle.laws.specs.Forms.{LawMeant, RowKept}
use Rattle.laws.specs.Limits.{around, from_to, row_limits}
use Rattle.laws.specs.Tables.{input_of, stored_rows, table_of, answer_of, place_after}
use Rattle.laws.specs.declared.table.LawKind.{LawKind}
use Rattle.laws.specs.declared.table.LawKind.TheVariants.{Saturated, Fixed}
use Rattle.laws.proofs.Rendering.{law_to}
use Rattle.text.proofs.Padding.{padding}

-- Numbers within limits.

zeros_within : (m k : ℕ) → all_within m (replicate k (pos 0)) ≡ true
zeros_within m zero = refl
zeros_within m (suc k) = and_from (within m (pos 0)) _ (test_from_within m (pos 0) (omega (arith, ints)) (omega (arith, ints))) (zeros_within m k)

-- the first k numbers lie within the limit of each of them
front_within : (m k j : ℕ) (ls : List Limit) (zs : List ℤ) → Fit (replicate k (around m) ++ ls) zs → all_within m (take k zs ++ replicate j (pos 0)) ≡ true
front_within m zero j ls zs f = zeros_within m j
front_within m (suc k) j ls [] f = absurd f
front_within m (suc k) j ls (z ∷ zs) f = and_from (within m z) _ (test_from_within m z f.0 f.1) (front_within m k j ls zs f.2)

-- and the others keep theirs
back_fit : (l : Limit) (k : ℕ) (ls : List Limit) (zs : List ℤ) → Fit (replicate k l ++ ls) zs → Fit ls (drop k zs)
back_fit l zero ls zs f = f
back_fit l (suc k) ls [] f = absurd f
back_fit l (suc k) ls (z ∷ zs) f = back_fit l k ls zs f.2

-- One saturated input.

abbrev tail_limits : List Limit
tail_limits = around offset_limit ∷ from_to (pos 1) (pos most_divisor) ∷ around setting_limit ∷ around setting_limit ∷ []

-- offset, divisor, low and high
pub record Tail (o q l h : ℤ) : Type 0 where
  pub offset : within offset_limit o ≡ true
  pub divisor : (le_z (pos 1) q && le_z q (pos most_divisor)) ≡ true
  pub low : within setting_limit l ≡ true
  pub high : within setting_limit h ≡ true

tail_kept : (zs : List ℤ) → Fit tail_limits zs → Tail (get_or zs 0 (pos 0)) (get_or zs 1 (pos 0)) (get_or zs 2 (pos 0)) (get_or zs 3 (pos 0))
tail_kept [] f = absurd f
tail_kept (o ∷ []) f = absurd f.2
tail_kept (o ∷ q ∷ []) f = absurd f.2.2
tail_kept (o ∷ q ∷ l ∷ []) f = absurd f.2.2.2
tail_kept (o ∷ q ∷ l ∷ h ∷ zs) f =
    let low : pos 1 ≤ℤ q = f.2.0 in
    let high : q ≤ℤ pos most_divisor = f.2.1 in
    let a : le_z (pos 1) q ≡ true = grind (arith, ints) in
    let b : le_z q (pos most_divisor) ≡ true = grind (arith, ints) in
    record {
      offset = test_from_within offset_limit o f.0 f.1;
      divisor = and_from (le_z (pos 1) q) (le_z q (pos most_divisor)) a b;
      low = test_from_within setting_limit l f.2.2.0 f.2.2.1;
      high = test_from_within setting_limit h f.2.2.2.0 f.2.2.2.1;
    }

tail_at : (n : ℕ) (zs : List ℤ) → Fit tail_limits (drop n zs) → Tail (get_or zs n (pos 0)) (get_or zs (n + 1) (pos 0)) (get_or zs (n + 2) (pos 0)) (get_or zs (n + 3) (pos 0))
tail_at n zs f =
    let t = tail_kept (drop n zs) f in
    let z : n + 0 ≡ n = omega arith in
    let a : get_or (drop n zs) 0 (pos 0) ≡ get_or zs n (pos 0) = get_or-drop n zs 0 (pos 0) ∙ ap (λ i. get_or zs i (pos 0)) z in
    let b = get_or-drop n zs 1 (pos 0) in
    let c = get_or-drop n zs 2 (pos 0) in
    let d = get_or-drop n zs 3 (pos 0) in
    record {
      offset = ap (within offset_limit) (sym a) ∙ t.offset;
      divisor = ap (λ q. le_z (pos 1) q && le_z q (pos most_divisor)) (sym b) ∙ t.divisor;
      low = ap (within setting_limit) (sym c) ∙ t.low;
      high = ap (within setting_limit) (sym d) ∙ t.high;
    }

limits_long : (n : ℕ) → length (row_limits Saturated n) ≡ n + 4
limits_long n = length-append (replicate n (around gain_limit)) tail_limits ∙ ap (λ k. k + 4) (length-replicate n (around gain_limit))

row_long : (n : ℕ) (zs : List ℤ) → Fit (row_limits Saturated n) zs → length zs ≡ n + 4
row_long n zs f = fit_length (row_limits Saturated n) zs f ∙ limits_long n

input_kept : (n : ℕ) (zs : List ℤ) → n ≤ most_states → RowKept Saturated n zs → input_ok (input_of n zs) ≡ true
input_kept n zs le k =
    let i = input_of n zs in
    let long : length (take n zs ++ replicate (4 - n) (pos 0)) ≡ 4 =
    length-append (take n zs) (replicate (4 - n) (pos 0)) ∙ omega (arith, length-take-le n zs (omega (arith, row_long n zs k.0)), length-replicate (4 - n) (pos 0)) in
    let t = tail_at n zs (back_fit (around gain_limit) n tail_limits zs k.0) in
    let o : le_z (get_or zs (n + 2) (pos 0)) (get_or zs (n + 3) (pos 0)) ≡ true = let h = k.1 in grind (arith, ints) in
    and_from _ _
    (and_from _ _
    (and_from _ _ (and_from _ _ (eq-eqb _ _ long) (front_within gain_limit n (4 - n) tail_limits zs k.0)) t.offset)
    t.divisor)
    (and_from _ _ (and_from _ _ t.low t.high) o)

take_padded : (n k : ℕ) (zs : List ℤ) → n ≤ length zs → take n (zs ++ replicate k (pos 0)) ≡ take n zs
take_padded n k zs h = take-append-le n zs (replicate k (pos 0)) h

input_padded : (n : ℕ) (zs : List ℤ) → n ≤ length zs → input_of n (padded zs) ≡ input_of n zs
input_padded n zs h =
    let k = row_width - length zs in
    let a = take_padded n k zs h in
    let b = padding zs k n in
    let c = padding zs k (n + 1) in
    let d = padding zs k (n + 2) in
    let e = padding zs k (n + 3) in
    simp (a, b, c, d, e)

-- The whole table.

inputs_are : (n : ℕ) (rows : List (List ℤ)) → 1 ≤ length rows → length rows ≤ 2 → AllByRecursion (RowKept Saturated n) rows
    → take (length rows) (input_of n (get_or (stored_rows rows) 0 []) ∷ input_of n (get_or (stored_rows rows) 1 []) ∷ []) ≡ map (input_of n) rows
inputs_are n [] low high k = absurd (omega arith)
inputs_are n (a ∷ []) low high k = ap (λ i. i ∷ []) (input_padded n a (omega (arith, row_long n a k.0.0)))
inputs_are n (a ∷ b ∷ []) low high k =
    ap (λ i. i ∷ input_of n (padded b) ∷ []) (input_padded n a (omega (arith, row_long n a k.0.0)))
    ∙ ap (λ i. input_of n a ∷ i ∷ []) (input_padded n b (omega (arith, row_long n b k.1.0.0)))
inputs_are n (a ∷ b ∷ c ∷ rows) low high k = absurd (omega arith)

commands_are : (rows : List (List ℤ)) → 1 ≤ length rows → length rows ≤ 2
    → take (length rows) (get_or (get_or (stored_rows rows) 0 []) 0 (pos 0) ∷ get_or (get_or (stored_rows rows) 1 []) 0 (pos 0) ∷ []) ≡ map (λ row. get_or row 0 (pos 0)) rows
commands_are [] low high = absurd (omega arith)
commands_are (a ∷ []) low high = ap (λ z. z ∷ []) (padding a (row_width - length a) 0)
commands_are (a ∷ b ∷ []) low high =
    ap (λ z. z ∷ get_or (padded b) 0 (pos 0) ∷ []) (padding a (row_width - length a) 0) ∙ ap (λ z. get_or a 0 (pos 0) ∷ z ∷ []) (padding b (row_width - length b) 0)
commands_are (a ∷ b ∷ c ∷ rows) low high = absurd (omega arith)

inputs_kept : (n : ℕ) (rows : List (List ℤ)) → n ≤ most_states → AllByRecursion (RowKept Saturated n) rows → inputs_ok (map (input_of n) rows) ≡ true
inputs_kept n [] le k = refl
inputs_kept n (row ∷ rows) le k = and_from (input_ok (input_of n row)) _ (input_kept n row le k.0) (inputs_kept n rows le k.1)

command_kept : (row : List ℤ) (n : ℕ) → RowKept Fixed n row → within setting_limit (get_or row 0 (pos 0)) ≡ true
command_kept [] n k = absurd k.0
command_kept (u ∷ row) n k = test_from_within setting_limit u k.0.0 k.0.1

commands_kept : (n : ℕ) (rows : List (List ℤ)) → AllByRecursion (RowKept Fixed n) rows → all_within setting_limit (map (λ row. get_or row 0 (pos 0)) rows) ≡ true
commands_kept n [] k = refl
commands_kept n (row ∷ rows) k = and_from (within setting_limit (get_or row 0 (pos 0))) _ (command_kept row n k.0) (commands_kept n rows k.1)

map_long : {X Y : Type 0} (f : X → Y) (xs : List X) → length (map f xs) ≡ length xs
map_long f [] = refl
map_long f (x ∷ xs) = ap suc (map_long f xs)

by_kind : (kind : LawKind) (n : ℕ) (rows : List (List ℤ)) → 1 ≤ n → n ≤ most_states → 1 ≤ length rows → length rows ≤ most_inputs → AllByRecursion (RowKept kind n) rows
    → (table_ok n (length rows) (table_of kind n (stored_rows rows)) ≡ true) × (table_meaning n (length rows) (table_of kind n (stored_rows rows)) ≡ values_meaning kind n rows)
by_kind Saturated n rows nl nh ml mh k =
    let e = inputs_are n rows ml mh k in
    let l = map_long (input_of n) rows in
    let s : saturated_ok n (map (input_of n) rows) ≡ true =
    and_from (sizes_ok n (length (map (input_of n) rows))) _ (sizes_pass n (length (map (input_of n) rows)) nl nh (omega arith) (omega arith)) (inputs_kept n rows nh k) in (
      and_from (leb (length rows) most_inputs) _ (le-leb _ _ mh) (ap (saturated_ok n) e ∙ s),
      ap (saturated_law n) e,
    )
by_kind Fixed n rows nl nh ml mh k =
    let e = commands_are rows ml mh in
    let l = map_long (λ (row : List ℤ). get_or row 0 (pos 0)) rows in
    let s : fixed_ok n (map (λ row. get_or row 0 (pos 0)) rows) ≡ true =
    and_from (sizes_ok n (length (map (λ (row : List ℤ). get_or row 0 (pos 0)) rows))) _ (sizes_pass n (length (map (λ (row : List ℤ). get_or row 0 (pos 0)) rows)) nl nh (omega arith) (omega arith)) (commands_kept n rows k) in (
      and_from (leb (length rows) most_inputs) _ (le-leb _ _ mh) (ap (fixed_ok n) e ∙ s),
      ap (fixed_law n) e,
    )

pub law_meant : (text : List ℕ) → LawMeant text
unfolding LawMeant
law_meant text law rest e =
    let k = (law_to text law rest e).1 in
    by_kind law.kind law.states law.rows k.states_low k.states_high k.inputs_low k.inputs_high k.each

-- The controller that a law text is read as.

-- what is known once a law text is read
pub record Meant (text : List ℕ) (n m : ℕ) (rest : List ℕ) (table : LawTable) : Type 0 where
  pub law : LawText
  pub was : law_of text ≡ Ok (law, rest)
  pub ok : table_ok n m table ≡ true
  pub meaning_is : table_meaning n m table ≡ law_meaning law

pub meant : (text : List ℕ) (n m : ℕ) (rest : List ℕ) (old table : LawTable) → Ok (n, m, rest) ≡ answer_of (law_of text) → table ≡ place_after old (law_of text) → Meant text n m rest table
unfolding LawMeant
meant text n m rest old table e t =
    let k = known (law_of text) n m rest old table e t in
    let g = law_meant text k.law rest k.was in
    record {
      law = k.law;
      was = k.was;
      ok = ap (λ i. table_ok i m table) k.states_are ∙ ap (λ i. table_ok k.law.states i table) k.inputs_are ∙ ap (table_ok k.law.states (length k.law.rows)) k.table_is ∙ g.0;
      meaning_is = ap (λ i. table_meaning i m table) k.states_are ∙ ap (λ i. table_meaning k.law.states i table) k.inputs_are ∙ ap (table_meaning k.law.states (length k.law.rows)) k.table_is ∙ g.1;
    }

-- the law that a controller was read from, and the refusal
abbrev meant_by : LawText × List ℕ → Result (Meaning × List ℕ) LawFault
meant_by p = Ok (law_meaning p.0, p.1)

pub controller_read : (text : List ℕ) (m : Meaning) (rest : List ℕ) → Ok (m, rest) ≡ controller_of text → (law : LawText) × (law_of text ≡ Ok (law, rest)) × (m ≡ law_meaning law)
controller_read text m rest e =
    let b = bind_ok (law_of text) meant_by (m, rest) (sym e) in
    let s = ok_same (law_meaning b.0.0, b.0.1) (m, rest) b.2 in
    (b.0.0, b.1 ∙ ap (λ t. Ok (b.0.0, t)) (ap (λ t. t.1) s), sym (ap (λ t. t.0) s))

pub controller_refused : (text : List ℕ) (e : LawFault) → Err e ≡ controller_of text → law_of text ≡ Err e
controller_refused text e h = by_law (law_of text) h
  where
    by_law : (r : Result (LawText × List ℕ) LawFault) → ◌≡◌ {A = Result (Meaning × List ℕ) LawFault} (Err e) (bind r meant_by) → r ≡ Err e
    by_law (Ok p) f = grind arith
    by_law (Err d) f = let k : d ≡ e = cc in ap Err k
