-- Which rows of a system hold: row group by row group.
use Rattle.std.proofs.Common.{◌≡◌, ℕ, suc, ◌+◌, ◌<◌, List, [], ◌∷◌, ◌++◌, map, length, get_or, drop, ℤ, pos, negsuc, ◌+ℤ◌, ◌-ℤ◌, ◌*ℤ◌, neg_ℤ, ◌≤ℤ◌, sym, ap, ◌∙◌, subst, arith, drop-cons}
use Rattle.std.specs.List.{AllByRecursion}
use Rattle.std.proofs.lemmas.List.{drop_all, length-append, length-map, length-replicate, length-set}
use Rattle.std.proofs.lemmas.Int.{ints}
use Rattle.arith.specs.Products.{dot}
use Rattle.arith.proofs.Dots.{dot_append, dot_map, dot_zero, dot_unit}
use Rattle.arith.proofs.Ring.{neg-*ℤ}
use Rattle.control.specs.Cover.{Holds}
use Rattle.control.specs.Meaning.{Row}
use Rattle.case.specs.declared.values.StateEquation.{StateEquation}
use Rattle.case.specs.declared.values.PushBounds.{PushBounds}
use Rattle.case.specs.Faces.{unit}
use Rattle.case.specs.Next.{Permits, AllPermitted, AllBounded}
use Rattle.case.specs.System.{none, push_rows, equation_row, next_rows}
use Rattle.case.specs.Values.{CaseValues, state_count, push_count}

-- each follows from the other
abbrev pub Same : Type 0 → Type 0 → Type 0
Same A B = (A → B) × (B → A)

-- a list of two parts
pub all_append_parts : {X : Type 0} (P : X → Type 0) (xs ys : List X) → AllByRecursion P (xs ++ ys) → AllByRecursion P xs × AllByRecursion P ys
all_append_parts P [] ys h = (tt, h)
all_append_parts P (x ∷ xs) ys h = let t = all_append_parts P xs ys h.1 in ((h.0, t.0), t.1)

-- coefficients of the first variables alone, and of the last alone
pub dot_front : (c x z : List ℤ) (r : ℕ) → length c ≡ length x → dot (c ++ none r) (x ++ z) ≡ dot c x
dot_front c x z r e = dot_append c (none r) x z e ∙ omega (arith, ints, dot_zero r z)

pub dot_back : (r : ℕ) (c x z : List ℤ) → length x ≡ r → dot (none r ++ c) (x ++ z) ≡ dot c z
dot_back r c x z e = dot_append (none r) c x z (length-replicate r (pos 0) ∙ sym e) ∙ omega (arith, ints, dot_zero r x)

-- rows over the first variables, read over all of them
pub widened : (f : Row → Row) (v : List ℤ) (V : List ℤ) → ((r : Row) → length r.coefficients ≡ length v → Same (Holds v r) (Holds V (f r))) → (rows : List Row) → AllByRecursion (λ r. length r.coefficients ≡ length v) rows → Same (AllByRecursion (Holds v) rows) (AllByRecursion (Holds V) (map f rows))
widened f v V each [] wide = ((λ h. h), (λ h. h))
widened f v V each (r ∷ rows) wide =
    let one = each r wide.0 in
    let rest = widened f v V each rows wide.1 in
    ((λ h. (one.0 h.0, rest.0 h.1)), (λ h. (one.1 h.0, rest.1 h.1)))

-- a push
pub dot_push : (k : CaseValues) (j : ℕ) (o : ℤ) (v w y : List ℤ) → length v ≡ state_count k + k.inputs → length w ≡ push_count k → j < push_count k → dot (none (state_count k + k.inputs) ++ (unit (push_count k) j o ++ none (state_count k))) (v ++ (w ++ y)) ≡ o *ℤ get_or w j (pos 0)
dot_push k j o v w y ev ew lt =
    let p = push_count k in
    let wide : length (unit p j o) ≡ length w = length-set (none p) j o ∙ length-replicate p (pos 0) ∙ sym ew in
    dot_back (state_count k + k.inputs) (unit p j o ++ none (state_count k)) v (w ++ y) ev ∙ dot_front (unit p j o) w y (state_count k) wide ∙ dot_unit p j o w lt ew

pub pushes_same : (k : CaseValues) (v w y : List ℤ) → length v ≡ state_count k + k.inputs → length w ≡ push_count k → (j : ℕ) (bs : List PushBounds) → j + length bs ≡ push_count k → Same (AllBounded bs (drop j w)) (AllByRecursion (Holds (v ++ (w ++ y))) (push_rows k j bs))
pushes_same k v w y ev ew j [] e = subst (λ ws. Same (AllBounded [] ws) (Unit {0})) (sym (drop_all j w (omega arith))) ((λ h. h), (λ h. h))
pushes_same k v w y ev ew j (b ∷ bs) e =
    let lt : j < length w = omega arith in
    let high = dot_push k j (pos 1) v w y ev ew (omega arith) in
    let low = dot_push k j (negsuc 0) v w y ev ew (omega arith) in
    let rest = pushes_same k v w y ev ew (suc j) bs (omega arith) in
    let P : List ℤ → Type 0 = λ ws. Same (AllBounded (b ∷ bs) ws) (AllByRecursion (Holds (v ++ (w ++ y))) (push_rows k j (b ∷ bs))) in
    subst P (sym (drop-cons w j (pos 0) lt)) (
      (λ h. (omega (arith, ints, high, h.1), (omega (arith, ints, low, h.0), rest.0 h.2))),
      (λ h. (omega (arith, ints, low, h.1.0), omega (arith, ints, high, h.0), rest.1 h.1.1)),
    )

-- the rows of an equation have the lengths of the state, the command and the pushes
pub record EquationWide (k : CaseValues) (s : StateEquation) : Type 0 where
  pub a_long : length s.a ≡ state_count k
  pub b_long : length s.b ≡ k.inputs
  pub e_long : length s.e ≡ push_count k

-- a next state
pub dot_next : (k : CaseValues) (i : ℕ) (s : StateEquation) (sign own : ℤ) (x u w y : List ℤ) → EquationWide k s → length x ≡ state_count k → length u ≡ k.inputs → length w ≡ push_count k → length y ≡ state_count k → i < state_count k → dot (equation_row k i s sign own) ((x ++ (u ++ w)) ++ y) ≡ sign *ℤ (dot s.a x +ℤ (dot s.b u +ℤ dot s.e w)) +ℤ own *ℤ get_or y i (pos 0)
dot_next k i s sign own x u w y wide ex eu ew ey lt =
    let f = s.a ++ (s.b ++ s.e) in
    let v = x ++ (u ++ w) in
    let ebe : length (s.b ++ s.e) ≡ length (u ++ w) = simp length-append (omega (arith, wide.b_long, wide.e_long)) in
    let ef : length f ≡ length v = simp length-append (omega (arith, wide.a_long, wide.b_long, wide.e_long)) in
    let d : dot f v ≡ dot s.a x +ℤ (dot s.b u +ℤ dot s.e w) =
    dot_append s.a (s.b ++ s.e) x (u ++ w) (wide.a_long ∙ sym ex) ∙ ap (λ t. dot s.a x +ℤ t) (dot_append s.b s.e u w (wide.b_long ∙ sym eu)) in
    dot_append (map (λ z. sign *ℤ z) f) (unit (state_count k) i own) v y (length-map f (λ z. sign *ℤ z) ∙ ef)
    ∙ ap (λ t. t +ℤ dot (unit (state_count k) i own) y) (dot_map sign f v ∙ ap (λ t. sign *ℤ t) d)
    ∙ ap (λ t. sign *ℤ (dot s.a x +ℤ (dot s.b u +ℤ dot s.e w)) +ℤ t) (dot_unit (state_count k) i own y lt ey)

-- the two rows of a state with the products a, b and e
high_row : (q r c a b e : ℤ) → (q -ℤ (a +ℤ b +ℤ e +ℤ c)) ≤ℤ r → (negsuc 0 *ℤ (a +ℤ (b +ℤ e)) +ℤ q) ≤ℤ (c +ℤ r)
high_row q r c a b e h = omega (arith, ints)

row_high : (q r c a b e : ℤ) → (negsuc 0 *ℤ (a +ℤ (b +ℤ e)) +ℤ q) ≤ℤ (c +ℤ r) → (q -ℤ (a +ℤ b +ℤ e +ℤ c)) ≤ℤ r
row_high q r c a b e h = omega (arith, ints)

low_row : (q r c a b e : ℤ) → neg_ℤ r ≤ℤ (q -ℤ (a +ℤ b +ℤ e +ℤ c)) → (pos 1 *ℤ (a +ℤ (b +ℤ e)) +ℤ neg_ℤ q) ≤ℤ (r -ℤ c)
low_row q r c a b e h = omega (arith, ints)

row_low : (q r c a b e : ℤ) → (pos 1 *ℤ (a +ℤ (b +ℤ e)) +ℤ neg_ℤ q) ≤ℤ (r -ℤ c) → neg_ℤ r ≤ℤ (q -ℤ (a +ℤ b +ℤ e +ℤ c))
row_low q r c a b e h = omega (arith, ints)

rows_permit : (D r c a b e y : ℤ) → Permits D r (a +ℤ b +ℤ e +ℤ c) y → ((negsuc 0 *ℤ (a +ℤ (b +ℤ e)) +ℤ D *ℤ y) ≤ℤ (c +ℤ r)) × ((pos 1 *ℤ (a +ℤ (b +ℤ e)) +ℤ neg_ℤ D *ℤ y) ≤ℤ (r -ℤ c))
rows_permit D r c a b e y h = (high_row (D *ℤ y) r c a b e h.1, rw neg-*ℤ (low_row (D *ℤ y) r c a b e h.0))

permit_rows : (D r c a b e y : ℤ) → (negsuc 0 *ℤ (a +ℤ (b +ℤ e)) +ℤ D *ℤ y) ≤ℤ (c +ℤ r) → (pos 1 *ℤ (a +ℤ (b +ℤ e)) +ℤ neg_ℤ D *ℤ y) ≤ℤ (r -ℤ c) → Permits D r (a +ℤ b +ℤ e +ℤ c) y
permit_rows D r c a b e y h l = (row_low (D *ℤ y) r c a b e (rw neg-*ℤ at l), row_high (D *ℤ y) r c a b e h)

pub nexts_same : (k : CaseValues) (x u w y : List ℤ) → length x ≡ state_count k → length u ≡ k.inputs → length w ≡ push_count k → length y ≡ state_count k → (i : ℕ) (ss : List StateEquation) → AllByRecursion (EquationWide k) ss → i + length ss ≡ state_count k → Same (AllPermitted k.divisor ss x u w (drop i y)) (AllByRecursion (Holds ((x ++ (u ++ w)) ++ y)) (next_rows k i ss))
nexts_same k x u w y ex eu ew ey i [] wide e = subst (λ ys. Same (AllPermitted k.divisor [] x u w ys) (Unit {0})) (sym (drop_all i y (omega arith))) ((λ h. h), (λ h. h))
nexts_same k x u w y ex eu ew ey i (s ∷ ss) wide e =
    let V = (x ++ (u ++ w)) ++ y in
    let D = k.divisor in
    let at = get_or y i (pos 0) in
    let lt : i < length y = omega arith in
    let up = dot_next k i s (negsuc 0) D x u w y wide.0 ex eu ew ey (omega arith) in
    let down = dot_next k i s (pos 1) (neg_ℤ D) x u w y wide.0 ex eu ew ey (omega arith) in
    let rest = nexts_same k x u w y ex eu ew ey (suc i) ss wide.1 (omega arith) in
    let to = rows_permit D s.leeway s.constant (dot s.a x) (dot s.b u) (dot s.e w) at in
    let from = permit_rows D s.leeway s.constant (dot s.a x) (dot s.b u) (dot s.e w) at in
    let P : List ℤ → Type 0 = λ ys. Same (AllPermitted D (s ∷ ss) x u w ys) (AllByRecursion (Holds V) (next_rows k i (s ∷ ss))) in
    subst P (sym (drop-cons y i (pos 0) lt)) (
      (λ h. let t = to h.0 in (subst (λ z. z ≤ℤ (s.constant +ℤ s.leeway)) (sym up) t.0, (subst (λ z. z ≤ℤ (s.leeway -ℤ s.constant)) (sym down) t.1, rest.0 h.1))),
      (λ h. (from (subst (λ z. z ≤ℤ (s.constant +ℤ s.leeway)) up h.0) (subst (λ z. z ≤ℤ (s.leeway -ℤ s.constant)) down h.1.0), rest.1 h.1.1)),
    )
