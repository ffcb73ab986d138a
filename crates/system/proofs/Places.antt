-- Lists of coefficients in parts, and rows that come in pairs.
use Rattle.std.proofs.Common.{◌≡◌, ℕ, zero, suc, ◌+◌, ◌-◌, ◌*◌, ◌/◌, ◌%◌, ◌<◌, ◌≤◌, Bool, true, false, cond, eqb, List, [], ◌∷◌, ◌++◌, map, length, get_or, take, drop, set, ℤ, pos, negsuc, ◌+ℤ◌, ◌-ℤ◌, ◌*ℤ◌, neg_ℤ, sym, refl, ap, ◌∙◌, arith}
use borrow.Rule.Slice.PartMut.{put_mid}
use Rattle.std.proofs.lemmas.Int.{ints}
use Rattle.std.proofs.lemmas.List.{append_assoc, length-append, length-replicate, length-take-le, take_at, drop_at, drop-replicate, set-append_left, set-append_right, replicate-append-replicate}
use Rattle.control.specs.Answers.{no_row}
use Rattle.control.specs.Meaning.{Row}
use Rattle.case.specs.declared.values.StateEquation.{StateEquation}
use Rattle.case.specs.declared.values.PushBounds.{PushBounds}
use Rattle.case.specs.Faces.{unit, box_faces}
use Rattle.case.specs.System.{none, push_rows, equation_row, next_rows}
use Rattle.case.specs.Values.{CaseValues, state_count, push_count}

-- one number among zeros, with more zeros after or before
pub unit_front : (n r i : ℕ) (z : ℤ) → i < n → unit n i z ++ none r ≡ unit (n + r) i z
unit_front n r i z lt =
    let h : i < length (none n) = omega (arith, length-replicate n (pos 0)) in
    sym (set-append_left (none n) (none r) i z h) ∙ ap (λ l. set l i z) (replicate-append-replicate n r (pos 0))

pub unit_back : (r n i : ℕ) (z : ℤ) → none r ++ unit n i z ≡ unit (r + n) (r + i) z
unit_back r n i z =
    let e : r + i - r ≡ i = omega arith in
    ap (λ j. none r ++ set (none n) j z) (sym e)
    ∙ sym (set-append_right (none r) (none n) r (r + i) z (length-replicate r (pos 0)) (omega arith))
    ∙ ap (λ l. set l (r + i) z) (replicate-append-replicate r n (pos 0))

pub unit_within : (a p n j : ℕ) (z : ℤ) → j < p → none a ++ (unit p j z ++ none n) ≡ unit (a + (p + n)) (a + j) z
unit_within a p n j z lt = ap (λ l. none a ++ l) (unit_front p n j z lt) ∙ unit_back a (p + n) j z

-- a list times 1
pub map_one : (xs : List ℤ) → map (λ z. pos 1 *ℤ z) xs ≡ xs
map_one [] = refl
map_one (x ∷ xs) = let e : pos 1 *ℤ x ≡ x = omega (arith, ints) in ap (λ z. z ∷ map (λ y. pos 1 *ℤ y) xs) e ∙ ap (λ l. x ∷ l) (map_one xs)

-- the first e of a list, as the code takes them
pub front_long : (e : ℕ) (xs : List ℤ) → e ≤ length xs → length (take (e - 0) xs) ≡ e
front_long e xs le = let h : e - 0 ≤ length xs = omega arith in length-take-le (e - 0) xs h ∙ omega arith

-- what a write to a part leaves
pub overwrite : (a k : ℕ) (pre mid post new : List ℤ) → length pre ≡ a → length mid ≡ k → put_mid a k (pre ++ (mid ++ post)) new ≡ pre ++ (new ++ post)
overwrite a k pre mid post new ea ek =
    ap (λ l. l ++ (new ++ drop k (drop a (pre ++ (mid ++ post))))) (take_at pre (mid ++ post) a ea)
    ∙ ap (λ l. pre ++ (new ++ drop k l)) (drop_at pre (mid ++ post) a ea)
    ∙ ap (λ l. pre ++ (new ++ l)) (drop_at mid post k ek)

-- a write to the first n of zeros
pub front_filled : (n N r : ℕ) (new : List ℤ) → n + r ≡ N → put_mid 0 (n - 0) (none N) new ≡ new ++ none r
front_filled n N r new e =
    let h : N - (n - 0) ≡ r = omega arith in
    ap (λ l. new ++ l) (drop-replicate (n - 0) N (pos 0) ∙ ap none h)

-- three writes before the place of one number
pub thrice_filled : (n m p q i : ℕ) (z : ℤ) (A B E : List ℤ) → length A ≡ n → length B ≡ m → length E ≡ p → put_mid (n + m) (n + m + p - (n + m)) (put_mid n (n + m - n) (put_mid 0 (n - 0) (unit (n + m + p + q) (n + m + p + i) z) A) B) E ≡ (A ++ (B ++ E)) ++ unit q i z
thrice_filled n m p q i z A B E ea eb ee =
    let U = unit q i z in
    let a : n - 0 ≡ n = omega arith in
    let b : n + m - n ≡ m = omega arith in
    let e : n + m + p - (n + m) ≡ p = omega arith in
    let eab : length (A ++ B) ≡ n + m = length-append A B ∙ omega arith in
    let start : unit (n + m + p + q) (n + m + p + i) z ≡ none n ++ (none m ++ (none p ++ U)) =
    sym (unit_back (n + m + p) q i z)
    ∙ ap (λ l. l ++ U) (sym (replicate-append-replicate (n + m) p (pos 0)) ∙ ap (λ l. l ++ none p) (sym (replicate-append-replicate n m (pos 0))))
    ∙ append_assoc (none n ++ none m) (none p) U ∙ append_assoc (none n) (none m) (none p ++ U) in
    let one : put_mid 0 (n - 0) (unit (n + m + p + q) (n + m + p + i) z) A ≡ A ++ (none m ++ (none p ++ U)) =
    ap (λ k. put_mid 0 k (unit (n + m + p + q) (n + m + p + i) z) A) a ∙ ap (λ l. put_mid 0 n l A) start
    ∙ overwrite 0 n [] (none n) (none m ++ (none p ++ U)) A refl (length-replicate n (pos 0)) in
    let two : put_mid n (n + m - n) (A ++ (none m ++ (none p ++ U))) B ≡ (A ++ B) ++ (none p ++ U) =
    ap (λ k. put_mid n k (A ++ (none m ++ (none p ++ U))) B) b ∙ overwrite n m A (none m) (none p ++ U) B ea (length-replicate m (pos 0)) ∙ sym (append_assoc A B (none p ++ U)) in
    let three : put_mid (n + m) (n + m + p - (n + m)) ((A ++ B) ++ (none p ++ U)) E ≡ (A ++ B) ++ (E ++ U) =
    ap (λ k. put_mid (n + m) k ((A ++ B) ++ (none p ++ U)) E) e ∙ overwrite (n + m) p (A ++ B) (none p) U E eab (length-replicate p (pos 0)) in
    ap (λ l. put_mid (n + m) (n + m + p - (n + m)) (put_mid n (n + m - n) l B) E) one
    ∙ ap (λ l. put_mid (n + m) (n + m + p - (n + m)) l E) two ∙ three ∙ sym (append_assoc (A ++ B) E U) ∙ ap (λ l. l ++ U) (append_assoc A B E)

-- two rows for each of a list of things, by their place
abbrev pub paired : {X : Type 0} → (ℕ → X → Row) → (ℕ → X → Row) → ℕ → List X → List Row
paired f g i [] = []
paired f g i (x ∷ xs) = f i x ∷ g i x ∷ paired f g (suc i) xs

paired_at : {X : Type 0} (f g : ℕ → X → Row) (i : ℕ) (xs : List X) (j : ℕ) (d : X) → j < 2 * length xs → get_or (paired f g i xs) j no_row ≡ cond (eqb (j % 2) 0) (f (i + j / 2) (get_or xs (j / 2) d)) (g (i + j / 2) (get_or xs (j / 2) d))
paired_at f g i [] j d lt = absurd (omega arith)
paired_at f g i (x ∷ xs) zero d lt = let h : i ≡ i + 0 / 2 = omega arith in ap (λ t. f t x) h
paired_at f g i (x ∷ xs) (suc zero) d lt = let h : i ≡ i + 1 / 2 = omega arith in ap (λ t. g t x) h
paired_at f g i (x ∷ xs) (suc (suc j)) d lt =
    let h : suc i + j / 2 ≡ i + suc (suc j) / 2 = omega arith in
    let q : suc (j / 2) ≡ suc (suc j) / 2 = omega arith in
    let p : j % 2 ≡ suc (suc j) % 2 = omega arith in
    let one = λ (b : ℕ) (t u : ℕ). cond (eqb b 0) (f t (get_or (x ∷ xs) u d)) (g t (get_or (x ∷ xs) u d)) in
    paired_at f g (suc i) xs j d (omega arith)
    ∙ ap (λ t. one (j % 2) t (suc (j / 2))) h ∙ ap (one (j % 2) (i + suc (suc j) / 2)) q ∙ ap (λ b. one b (i + suc (suc j) / 2) (suc (suc j) / 2)) p

-- where the things count from 0
pub paired_row : {X : Type 0} (f g : ℕ → X → Row) (xs : List X) (j : ℕ) (d : X) → j < 2 * length xs → get_or (paired f g 0 xs) j no_row ≡ cond (eqb (j % 2) 0) (f (j / 2) (get_or xs (j / 2) d)) (g (j / 2) (get_or xs (j / 2) d))
paired_row f g xs j d lt =
    let h : 0 + j / 2 ≡ j / 2 = omega arith in
    paired_at f g 0 xs j d lt ∙ ap (λ t. cond (eqb (j % 2) 0) (f t (get_or xs (j / 2) d)) (g t (get_or xs (j / 2) d))) h

-- rows that equal by turns
pub by_turns : (b : Bool) (h h' l l' : Row) → h ≡ h' → l ≡ l' → cond b h l ≡ cond b h' l'
by_turns true h h' l l' e f = e
by_turns false h h' l l' e f = f

-- the faces of the box, the rows of the pushes and those of the next states
abbrev pub high_face : ℕ → ℕ → StateEquation → Row
high_face n i s = record { coefficients = unit n i (pos 1); right = s.high }

abbrev pub low_face : ℕ → ℕ → StateEquation → Row
low_face n i s = record { coefficients = unit n i (negsuc 0); right = neg_ℤ s.low }

pub box_paired : (n i : ℕ) (ss : List StateEquation) → box_faces n i ss ≡ paired (high_face n) (low_face n) i ss
box_paired n i [] = refl
box_paired n i (s ∷ ss) = ap (λ rows. high_face n i s ∷ low_face n i s ∷ rows) (box_paired n (suc i) ss)

abbrev pub push_coefficients : CaseValues → ℕ → ℤ → List ℤ
push_coefficients k j z = none (state_count k + k.inputs) ++ (unit (push_count k) j z ++ none (state_count k))

abbrev pub high_push : CaseValues → ℕ → PushBounds → Row
high_push k j b = record { coefficients = push_coefficients k j (pos 1); right = b.high }

abbrev pub low_push : CaseValues → ℕ → PushBounds → Row
low_push k j b = record { coefficients = push_coefficients k j (negsuc 0); right = neg_ℤ b.low }

pub push_paired : (k : CaseValues) (j : ℕ) (bs : List PushBounds) → push_rows k j bs ≡ paired (high_push k) (low_push k) j bs
push_paired k j [] = refl
push_paired k j (b ∷ bs) = ap (λ rows. high_push k j b ∷ low_push k j b ∷ rows) (push_paired k (suc j) bs)

abbrev pub high_next : CaseValues → ℕ → StateEquation → Row
high_next k i s = record { coefficients = equation_row k i s (negsuc 0) k.divisor; right = s.constant +ℤ s.leeway }

abbrev pub low_next : CaseValues → ℕ → StateEquation → Row
low_next k i s = record { coefficients = equation_row k i s (pos 1) (neg_ℤ k.divisor); right = s.leeway -ℤ s.constant }

pub next_paired : (k : CaseValues) (i : ℕ) (ss : List StateEquation) → next_rows k i ss ≡ paired (high_next k) (low_next k) i ss
next_paired k i [] = refl
next_paired k i (s ∷ ss) = ap (λ rows. high_next k i s ∷ low_next k i s ∷ rows) (next_paired k (suc i) ss)
