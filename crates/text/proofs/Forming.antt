-- What is read is exactly what is rendered: fields, lines of numbers and lines of names.
use Rattle.std.proofs.Common.{◌≡◌, ℕ, zero, suc, ◌+◌, ◌<◌, Bool, true, false, cond, ◌&&◌, eqb, ltb, List, [], ◌∷◌, ◌++◌, map, length, ℤ, pos, negsuc, ◌≤ℤ◌, Some, None, Ok, Err, Option, Result, sym, refl, ap, ◌∙◌, arith}
use lib.Signed.{le_z}
use Rattle.std.specs.Option.{option_map}
use Rattle.std.specs.Int.Digits.{digits_of}
use Rattle.std.specs.List.{AllByRecursion}
use Rattle.std.specs.Str.{bytes_eq}
use Rattle.std.proofs.ByRecursion.{All-append}
use Rattle.std.proofs.lemmas.Slice.Eq.{bytes_eq-Decides}
use Rattle.std.proofs.lemmas.Int.{ints}
use Rattle.std.proofs.lemmas.Bool.{eq-eqb, ne_eqb, and_parts, and_from, cond-true, cond-false, ltb-true}
use Rattle.std.proofs.lemmas.Bool.Decides.{nat_tests}
use Rattle.text.specs.Bytes.{space, line_feed, minus}
use Rattle.text.specs.Forms.{Fit, RowForm, NamesForm, all_above}
use Rattle.text.specs.Lines.{bind, cut_at, cons_front, first_field, place, placed, numbers_of, numbers_by, numbers_line, names_by, names_line}
use Rattle.text.specs.Numbers.{number_of, within, field_of}
use Rattle.text.specs.Render.{ascii, render-ℕ, render, fields_text, line_before}
use Rattle.text.specs.declared.faults.FieldFault.{FieldFault}
use Rattle.text.specs.declared.faults.FieldFault.TheVariants.{Outside}
use Rattle.text.specs.declared.faults.Place.{Place}
use Rattle.text.specs.declared.faults.TextFault.{TextFault}
use Rattle.text.specs.declared.faults.TextFault.TheVariants.{Line}
use Rattle.text.specs.declared.number.Limit.{Limit}
use Rattle.text.proofs.Render.{to_render, from_render}

-- Cutting.

-- every byte is above this one
abbrev pub Above : ℕ → List ℕ → Type 0
Above at bs = AllByRecursion (λ b. at < b) bs

pub above_from_test : (at : ℕ) (bs : List ℕ) → all_above at bs ≡ true → Above at bs
above_from_test at [] e = tt
above_from_test at (b ∷ bs) e = let p = and_parts (ltb at b) (all_above at bs) e in (ltb-true at b p.0, above_from_test at bs p.1)

pub cut_front : (at : ℕ) (cs bs : List ℕ) → Above at cs → cut_at at (cs ++ at ∷ bs) ≡ Some (cs, bs)
cut_front at [] bs h = cond-true (eqb at at) _ _ (eq-eqb at at refl)
cut_front at (a ∷ cs) bs h =
    cond-false (eqb a at) _ _ (ne_eqb a at (λ e. omega (arith, h.0)))
    ∙ ap (option_map (cons_front a)) (cut_front at cs bs h.1)

pub cut_whole : (at : ℕ) (cs : List ℕ) → Above at cs → cut_at at cs ≡ None
cut_whole at [] h = refl
cut_whole at (a ∷ cs) h =
    cond-false (eqb a at) _ _ (ne_eqb a at (λ e. omega (arith, h.0))) ∙ ap (option_map (cons_front a)) (cut_whole at cs h.1)

cut_more : (a at : ℕ) (cs : List ℕ) (o : Option (List ℕ × List ℕ)) (p : List ℕ × List ℕ)
    → ((q : List ℕ × List ℕ) → o ≡ Some q → cs ≡ q.0 ++ at ∷ q.1) → option_map (cons_front a) o ≡ Some p → a ∷ cs ≡ p.0 ++ at ∷ p.1
cut_more a at cs None p h e = grind arith
cut_more a at cs (Some q) p h e =
    let k : cons_front a q ≡ p = cc in
    ap (λ t. a ∷ t) (h q refl) ∙ ap (λ t. t.0 ++ at ∷ t.1) k

cut_test : (x at : ℕ) (xs : List ℕ) (o : Option (List ℕ × List ℕ)) (p : List ℕ × List ℕ) (t : Bool)
    → ((q : List ℕ × List ℕ) → o ≡ Some q → xs ≡ q.0 ++ at ∷ q.1) → eqb x at ≡ t → cond t (Some ([], xs)) (option_map (cons_front x) o) ≡ Some p → x ∷ xs ≡ p.0 ++ at ∷ p.1
cut_test x at xs o p true rec t f =
    let k : ([], xs) ≡ p = cc in
    let q : x ≡ at = grind (arith, nat_tests) in
    ap (λ b. b ∷ xs) q ∙ ap (λ t. t.0 ++ at ∷ t.1) k
cut_test x at xs o p false rec t f = cut_more x at xs o p rec f

-- what was cut stands around the byte
pub cut_is : (at : ℕ) (xs : List ℕ) (p : List ℕ × List ℕ) → cut_at at xs ≡ Some p → xs ≡ p.0 ++ at ∷ p.1
cut_is at [] p e = grind arith
cut_is at (x ∷ xs) p e = cut_test x at xs (cut_at at xs) p (eqb x at) (cut_is at xs) refl e

-- The bytes of a rendering.

digits_above : (at : ℕ) (ds : List ℕ) → at < 48 → Above at (map ascii ds)
digits_above at [] h = tt
digits_above at (d ∷ ds) h = (omega arith, digits_above at ds h)

render-ℕ_above : (at n : ℕ) → at < 48 → Above at (render-ℕ n)
render-ℕ_above at zero h = (h, tt)
render-ℕ_above at (suc n) h = digits_above at (digits_of 10 (suc n)) h

pub render_above : (at : ℕ) (z : ℤ) → at < minus → Above at (render z)
render_above at (pos n) h = render-ℕ_above at n (omega arith)
render_above at (negsuc n) h = (h, render-ℕ_above at (suc n) (omega arith))

pub fields_above : (at : ℕ) (zs : List ℤ) → at < space → Above at (fields_text zs)
fields_above at [] h = tt
fields_above at (z ∷ []) h = render_above at z (omega arith)
fields_above at (z ∷ (y ∷ zs)) h =
    All-append (λ b. at < b) (render z) (space ∷ fields_text (y ∷ zs)) (render_above at z (omega arith)) (h, fields_above at (y ∷ zs) h)

-- What an Ok came from.

pub bind_ok : {X Y E : Type 0} (r : Result X E) (k : X → Result Y E) (y : Y) → bind r k ≡ Ok y → (x : X) × (r ≡ Ok x) × (k x ≡ Ok y)
bind_ok (Ok x) k y e = (x, refl, e)
bind_ok (Err d) k y e = grind arith

pub ok_same : {X E : Type 0} (x y : X) → ◌≡◌ {A = Result X E} (Ok x) (Ok y) → x ≡ y
ok_same x y e = cc

placed_ok : {X : Type 0} (p : Place) (r : Result X FieldFault) (x : X) → placed p r ≡ Ok x → r ≡ Ok x
placed_ok p (Ok y) x e = let k : y ≡ x = cc in ap Ok k
placed_ok p (Err d) x e = grind arith

within_ok : (low high : ℤ) (o : Option ℤ) (z : ℤ) → within low high o ≡ Ok z → (o ≡ Some z) × (low ≤ℤ z) × (z ≤ℤ high)
within_ok low high None z e = grind arith
within_ok low high (Some y) z e = by_test (le_z low y && le_z y high) refl e
  where
    by_test : (t : Bool) → (le_z low y && le_z y high) ≡ t → ◌≡◌ {A = Result ℤ FieldFault} (cond t (Ok y) (Err Outside)) (Ok z) → (Some y ≡ Some z) × (low ≤ℤ z) × (z ≤ℤ high)
    by_test true t f =
        let k : y ≡ z = cc in
        let p = and_parts (le_z low y) (le_z y high) t in
        let lo : le_z low z ≡ true = ap (le_z low) (sym k) ∙ p.0 in
        let hi : le_z z high ≡ true = ap (λ t. le_z t high) (sym k) ∙ p.1 in
        (ap Some k, grind (arith, ints), grind (arith, ints))
    by_test false t f = grind arith

within_at : (low high z : ℤ) → low ≤ℤ z → z ≤ℤ high → within low high (Some z) ≡ Ok z
within_at low high z lo hi =
    let a : le_z low z ≡ true = grind (arith, ints) in
    let b : le_z z high ≡ true = grind (arith, ints) in
    cond-true (le_z low z && le_z z high) _ _ (and_from (le_z low z) (le_z z high) a b)

-- a field that is a number's rendering, and no other, is read as that number
field_ok : (l : Limit) (bs : List ℕ) (p : Place) (z : ℤ) → placed p (field_of l bs) ≡ Ok z → (bs ≡ render z) × (l.low ≤ℤ z) × (z ≤ℤ l.high)
field_ok l bs p z e =
    let w = within_ok l.low l.high (number_of bs) z (placed_ok p (field_of l bs) z e) in
    (to_render bs z w.0, w.1, w.2)

field_at : (l : Limit) (p : Place) (z : ℤ) → l.low ≤ℤ z → z ≤ℤ l.high → placed p (field_of l (render z)) ≡ Ok z
field_at l p z lo hi = ap (placed p) (ap (within l.low l.high) (from_render z) ∙ within_at l.low l.high z lo hi)

-- Lines of numbers.

-- reading the first field of what is left, by where the first space is
abbrev read_by : ℕ → ℕ → Limit → List Limit → List ℕ → Option (List ℕ × List ℕ) → Result (List ℤ) TextFault
read_by line f l ls bs o =
    bind (placed (place line f) (field_of l (first_field bs o).0)) (λ z. bind (numbers_of line (f + 1) ls (first_field bs o).1) (λ zs. Ok (z ∷ zs)))

cons_ok : (z : ℤ) (r : Result (List ℤ) TextFault) (zs : List ℤ) → bind r (λ ys. Ok (z ∷ ys)) ≡ Ok zs → (ys : List ℤ) × (r ≡ Ok ys) × (z ∷ ys ≡ zs)
cons_ok z r zs e = let b = bind_ok r (λ ys. Ok (z ∷ ys)) zs e in let k : z ∷ b.0 ≡ zs = cc b.2 in (b.0, b.1, k)

pub nothing_left : (line f : ℕ) (l : Limit) (ls : List Limit) (zs : List ℤ) → numbers_of line f (l ∷ ls) None ≡ Ok zs → ⊥
nothing_left line f l ls zs e = let z : ◌≡◌ {A = ℕ} 0 1 = grind arith in omega arith

something_left : (line f : ℕ) (b : List ℕ) (zs : List ℤ) → numbers_of line f [] (Some b) ≡ Ok zs → ⊥
something_left line f b zs e = let z : ◌≡◌ {A = ℕ} 0 1 = grind arith in omega arith

fit_cons : (l m : Limit) (ls : List Limit) (z : ℤ) (ys : List ℤ) (bs : List ℕ) → bs ≡ fields_text ys → Fit (m ∷ ls) ys → l.low ≤ℤ z → z ≤ℤ l.high
    → (render z ++ space ∷ bs ≡ fields_text (z ∷ ys)) × Fit (l ∷ (m ∷ ls)) (z ∷ ys)
fit_cons l m ls z [] bs e f lo hi = absurd f
fit_cons l m ls z (y ∷ ys) bs e f lo hi = (ap (λ t. render z ++ space ∷ t) e, (lo, hi, f))

last_field : (line f : ℕ) (l : Limit) (bs : List ℕ) (zs : List ℤ) (o : Option (List ℕ × List ℕ)) → read_by line f l [] bs o ≡ Ok zs → (bs ≡ fields_text zs) × Fit (l ∷ []) zs
last_field line f l bs zs None e =
    let b = bind_ok (placed (place line f) (field_of l bs)) (λ z. bind (numbers_of line (f + 1) [] None) (λ ys. Ok (z ∷ ys))) zs e in
    let w = field_ok l bs (place line f) b.0 b.1 in
    let k : b.0 ∷ [] ≡ zs = cc b.2 in
    rw (← k) (w.0, (w.1, w.2, tt))
last_field line f l bs zs (Some p) e =
    let b = bind_ok (placed (place line f) (field_of l p.0)) (λ z. bind (numbers_of line (f + 1) [] (Some p.1)) (λ ys. Ok (z ∷ ys))) zs e in
    let d = cons_ok b.0 (numbers_of line (f + 1) [] (Some p.1)) zs b.2 in
    absurd (something_left line (f + 1) p.1 d.0 d.1)

next_fields : (line f : ℕ) (l m : Limit) (ls : List Limit) (bs : List ℕ) (zs : List ℤ) (o : Option (List ℕ × List ℕ))
    → ((p : List ℕ × List ℕ) → o ≡ Some p → bs ≡ p.0 ++ space ∷ p.1)
    → ((c : List ℕ) (ys : List ℤ) → numbers_of line (f + 1) (m ∷ ls) (Some c) ≡ Ok ys → (c ≡ fields_text ys) × Fit (m ∷ ls) ys)
    → read_by line f l (m ∷ ls) bs o ≡ Ok zs → (bs ≡ fields_text zs) × Fit (l ∷ (m ∷ ls)) zs
next_fields line f l m ls bs zs None cut rec e =
    let b = bind_ok (placed (place line f) (field_of l bs)) (λ z. bind (numbers_of line (f + 1) (m ∷ ls) None) (λ ys. Ok (z ∷ ys))) zs e in
    let d = cons_ok b.0 (numbers_of line (f + 1) (m ∷ ls) None) zs b.2 in
    absurd (nothing_left line (f + 1) m ls d.0 d.1)
next_fields line f l m ls bs zs (Some p) cut rec e =
    let b = bind_ok (placed (place line f) (field_of l p.0)) (λ z. bind (numbers_of line (f + 1) (m ∷ ls) (Some p.1)) (λ ys. Ok (z ∷ ys))) zs e in
    let w = field_ok l p.0 (place line f) b.0 b.1 in
    let d = cons_ok b.0 (numbers_of line (f + 1) (m ∷ ls) (Some p.1)) zs b.2 in
    let r = rec p.1 d.0 d.1 in
    let t = fit_cons l m ls b.0 d.0 p.1 r.0 r.1 w.1 w.2 in
    let k : b.0 ∷ d.0 ≡ zs = d.2 in
    rw (← k) (cut p refl ∙ ap (λ x. x ++ space ∷ p.1) w.0 ∙ t.0, t.1)

pub numbers_to : (line f : ℕ) (l : Limit) (ls : List Limit) (bs : List ℕ) (zs : List ℤ) → numbers_of line f (l ∷ ls) (Some bs) ≡ Ok zs → (bs ≡ fields_text zs) × Fit (l ∷ ls) zs
numbers_to line f l [] bs zs e = last_field line f l bs zs (cut_at space bs) e
numbers_to line f l (m ∷ ls) bs zs e = next_fields line f l m ls bs zs (cut_at space bs) (cut_is space bs) (numbers_to line (f + 1) m ls) e

-- numbers that are read fit their limits
pub numbers_fit : (line f : ℕ) (ls : List Limit) (left : Option (List ℕ)) (zs : List ℤ) → numbers_of line f ls left ≡ Ok zs → Fit ls zs
numbers_fit line f [] None zs e = let k : [] ≡ zs = cc in rw (← k) tt
numbers_fit line f [] (Some bs) zs e = absurd (something_left line f bs zs e)
numbers_fit line f (l ∷ ls) None zs e = absurd (nothing_left line f l ls zs e)
numbers_fit line f (l ∷ ls) (Some bs) zs e = (numbers_to line f l ls bs zs e).1

pub fit_length : (ls : List Limit) (zs : List ℤ) → Fit ls zs → length zs ≡ length ls
fit_length [] [] h = refl
fit_length [] (z ∷ zs) h = absurd h
fit_length (l ∷ ls) [] h = absurd h
fit_length (l ∷ ls) (z ∷ zs) h = omega (arith, fit_length ls zs h.2)

pub numbers_from : (line f : ℕ) (l : Limit) (ls : List Limit) (zs : List ℤ) → Fit (l ∷ ls) zs → numbers_of line f (l ∷ ls) (Some (fields_text zs)) ≡ Ok zs
numbers_from line f l ls [] h = absurd h
numbers_from line f l [] (z ∷ []) h =
    ap (read_by line f l [] (render z)) (cut_whole space (render z) (render_above space z (omega arith)))
    ∙ ap (λ r. bind r (λ y. Ok (y ∷ []))) (field_at l (place line f) z h.0 h.1)
numbers_from line f l [] (z ∷ (y ∷ zs)) h = absurd h.2
numbers_from line f l (m ∷ ls) (z ∷ []) h = absurd h.2
numbers_from line f l (m ∷ ls) (z ∷ (y ∷ zs)) h =
    let bs = fields_text (y ∷ zs) in
    ap (read_by line f l (m ∷ ls) (render z ++ space ∷ bs)) (cut_front space (render z) bs (render_above space z (omega arith)))
    ∙ ap (λ r. bind r (λ x. bind (numbers_of line (f + 1) (m ∷ ls) (Some bs)) (λ xs. Ok (x ∷ xs)))) (field_at l (place line f) z h.0 h.1)
    ∙ ap (λ r. bind r (λ xs. Ok (z ∷ xs))) (numbers_from line (f + 1) m ls (y ∷ zs) h.2)

row_by : (line : ℕ) (l : Limit) (ls : List Limit) (text : List ℕ) (zs : List ℤ) (rest : List ℕ) (o : Option (List ℕ × List ℕ))
    → ((p : List ℕ × List ℕ) → o ≡ Some p → text ≡ p.0 ++ line_feed ∷ p.1)
    → numbers_by line (l ∷ ls) o ≡ Ok (zs, rest) → (text ≡ line_before (fields_text zs) rest) × Fit (l ∷ ls) zs
row_by line l ls text zs rest None cut e = grind arith
row_by line l ls text zs rest (Some p) cut e =
    let b = bind_ok (numbers_of line 1 (l ∷ ls) (Some p.0)) (λ ys. Ok (ys, p.1)) (zs, rest) e in
    let pair = ok_same (b.0, p.1) (zs, rest) b.2 in
    let k = ap (λ t. t.0) pair in
    let j = ap (λ t. t.1) pair in
    let n = numbers_to line 1 l ls p.0 zs (b.1 ∙ ap Ok k) in
    (cut p refl ∙ ap (λ t. t ++ line_feed ∷ p.1) n.0 ∙ ap (λ t. fields_text zs ++ line_feed ∷ t) j, n.1)

pub row_to : (line : ℕ) (limits : List Limit) (text : List ℕ) (zs : List ℤ) (rest : List ℕ) → 0 < length limits
    → numbers_line line limits text ≡ Ok (zs, rest) → (text ≡ line_before (fields_text zs) rest) × Fit limits zs
row_to line [] text zs rest h e = absurd (omega arith)
row_to line (l ∷ ls) text zs rest h e = row_by line l ls text zs rest (cut_at line_feed text) (cut_is line_feed text) e

pub row_from : (line : ℕ) (limits : List Limit) (zs : List ℤ) (rest : List ℕ) → 0 < length limits → Fit limits zs
    → numbers_line line limits (line_before (fields_text zs) rest) ≡ Ok (zs, rest)
row_from line [] zs rest h f = absurd (omega arith)
row_from line (l ∷ ls) zs rest h f =
    ap (numbers_by line (l ∷ ls)) (cut_front line_feed (fields_text zs) rest (fields_above line_feed zs (omega arith)))
    ∙ ap (λ r. bind r (λ ys. Ok (ys, rest))) (numbers_from line 1 l ls zs f)

pub row_form : (limits : List Limit) (text : List ℕ) → RowForm limits text
unfolding RowForm
row_form limits text h line zs rest =
    (row_to line limits text zs rest h, λ p. ap (numbers_line line limits) p.0 ∙ row_from line limits zs rest h p.1)

-- Lines of names.

names_cut : (line : ℕ) (names text rest : List ℕ) (o : Option (List ℕ × List ℕ))
    → ((p : List ℕ × List ℕ) → o ≡ Some p → text ≡ p.0 ++ line_feed ∷ p.1)
    → names_by line names o ≡ Ok rest → text ≡ line_before names rest
names_cut line names text rest None cut e = grind arith
names_cut line names text rest (Some p) cut e = by_test (bytes_eq p.0 names) refl e
  where
    by_test : (t : Bool) → bytes_eq p.0 names ≡ t → ◌≡◌ {A = Result (List ℕ) TextFault} (cond t (Ok p.1) (Err (Line line))) (Ok rest) → text ≡ line_before names rest
    by_test true t f =
        let j : p.1 ≡ rest = cc in
        cut p refl ∙ ap (λ x. x ++ line_feed ∷ p.1) ((bytes_eq-Decides p.0 names).0 t) ∙ ap (λ x. names ++ line_feed ∷ x) j
    by_test false t f = grind arith

pub names_to : (line : ℕ) (names text rest : List ℕ) → names_line line names text ≡ Ok rest → text ≡ line_before names rest
names_to line names text rest e = names_cut line names text rest (cut_at line_feed text) (cut_is line_feed text) e

pub names_from : (line : ℕ) (names rest : List ℕ) → all_above line_feed names ≡ true → names_line line names (line_before names rest) ≡ Ok rest
names_from line names rest plain =
    ap (names_by line names) (cut_front line_feed names rest (above_from_test line_feed names plain))
    ∙ cond-true (bytes_eq names names) _ _ ((bytes_eq-Decides names names).1 refl)

pub names_form : (names text : List ℕ) → NamesForm names text
unfolding NamesForm
names_form names text plain line rest = (names_to line names text rest, λ e. ap (names_line line names) e ∙ names_from line names rest plain)
