use Rattle.std.proofs.Common.{◌≡◌, ℕ, zero, suc, ◌+◌, ◌-◌, ◌*◌, ◌/◌, ◌%◌, ◌<◌, ◌≤◌, Bool, true, false, cond, eqb, List, [], ◌∷◌, ◌++◌, map, length, get_or, ℤ, pos, negsuc, Some, None, Option, sym, refl, ap, ◌∙◌, append_assoc, arith}
use Rattle.std.specs.Option.{option_map}
use Rattle.std.specs.Int.Digits.{digits_of, number_from_digits_after, AllBelowBase}
use Rattle.std.proofs.lemmas.Int.Digits.{digits_of_step, number_digits_of, all_below_base_digits_of, first_digits_of}
use Rattle.std.proofs.lemmas.List.{append-nil, map_push, length-map, get_or-map}
use Rattle.text.proofs.Reading.{magnitude_plain}
use Rattle.std.proofs.lemmas.Bool.Decides.{nat_tests}
use Rattle.text.specs.Bytes.{is_digit}
use Rattle.text.specs.Numbers.{digits_after, magnitude_of, negated, number_of}
use Rattle.text.specs.Render.{ascii, render-ℕ, render}
use Rattle.text.specs.Forms.{NumberForm}

-- one digit behind a number that is not 0
digits_push : (m d : ℕ) → 0 < m → d < 10 → map ascii (digits_of 10 (m * 10 + d)) ≡ map ascii (digits_of 10 m) ++ ascii d ∷ []
digits_push m d h k =
    let q : (m * 10 + d) / 10 ≡ m = omega arith in
    let r : (m * 10 + d) % 10 ≡ d = omega arith in
    ap (map ascii) (digits_of_step 10 (m * 10 + d) (omega arith) (omega arith) ∙ ap (λ x. digits_of 10 x ++ (m * 10 + d) % 10 ∷ []) q ∙ ap (λ x. digits_of 10 m ++ x ∷ []) r)
    ∙ map_push ascii (digits_of 10 m) d

digit_single : (d : ℕ) → 0 < d → d < 10 → map ascii (digits_of 10 d) ≡ ascii d ∷ []
digit_single d h k =
    let q : d / 10 ≡ 0 = omega arith in
    let r : d % 10 ≡ d = omega arith in
    ap (map ascii) (digits_of_step 10 d (omega arith) h ∙ ap (λ x. digits_of 10 x ++ d % 10 ∷ []) q ∙ ap (λ x. x ∷ []) r)

-- digits behind a number that is not 0 are the digits of the whole
digits_are : (bs : List ℕ) (m n : ℕ) → 0 < m → digits_after m bs ≡ Some n → map ascii (digits_of 10 n) ≡ map ascii (digits_of 10 m) ++ bs
digits_are [] m n h e = let k : n ≡ m = grind arith in ap (λ x. map ascii (digits_of 10 x)) k ∙ sym (append-nil (map ascii (digits_of 10 m)))
digits_are (b ∷ bs) m n h e =
    let t : is_digit b ≡ true = grind (arith, nat_tests) in
    let f : digits_after (m * 10 + (b - 48)) bs ≡ Some n = rw t at e in
    let g : ascii (b - 48) ≡ b = grind (arith, nat_tests) in
    digits_are bs (m * 10 + (b - 48)) n (omega arith) f
    ∙ ap (λ x. x ++ bs) (digits_push m (b - 48) h (grind (arith, nat_tests)) ∙ ap (λ x. map ascii (digits_of 10 m) ++ x ∷ []) g)
    ∙ append_assoc (map ascii (digits_of 10 m)) (b ∷ []) bs

grows : (bs : List ℕ) (m n : ℕ) → digits_after m bs ≡ Some n → m ≤ n
grows [] m n e = grind arith
grows (b ∷ bs) m n e =
    let t : is_digit b ≡ true = grind (arith, nat_tests) in
    let f : digits_after (m * 10 + (b - 48)) bs ≡ Some n = rw t at e in
    omega (arith, grows bs (m * 10 + (b - 48)) n f)

render-ℕ_some : (n : ℕ) → 0 < n → render-ℕ n ≡ map ascii (digits_of 10 n)
render-ℕ_some zero h = absurd (omega arith)
render-ℕ_some (suc n) h = refl

one_digit : (b d : ℕ) → d < 10 → b ≡ 48 + d → b ∷ [] ≡ render-ℕ d
one_digit b zero k e = ap (λ x. x ∷ []) e
one_digit b (suc d) k e = ap (λ x. x ∷ []) e ∙ sym (digit_single (suc d) (omega arith) k)

magnitude_to : (bs : List ℕ) (n : ℕ) → magnitude_of bs ≡ Some n → bs ≡ render-ℕ n
magnitude_to [] n e = grind arith
magnitude_to (b ∷ []) n e =
    let t : is_digit b ≡ true = grind (arith, nat_tests) in
    let f : Some (0 * 10 + (b - 48)) ≡ Some n = rw t at e in
    let g : n ≡ b - 48 = grind arith in
    one_digit b n (grind (arith, nat_tests)) (grind (arith, nat_tests))
magnitude_to (b ∷ (c ∷ bs)) n e =
    let z : eqb b 48 ≡ false = grind (arith, nat_tests) in
    let y : digits_after 0 (b ∷ (c ∷ bs)) ≡ Some n = rw z at e in
    let t : is_digit b ≡ true = grind (arith, nat_tests) in
    let f : digits_after (0 * 10 + (b - 48)) (c ∷ bs) ≡ Some n = rw t at y in
    let p : 0 < 0 * 10 + (b - 48) = grind (arith, nat_tests) in
    let q : 0 * 10 + (b - 48) ≡ b - 48 = omega arith in
    let g : ascii (b - 48) ≡ b = grind (arith, nat_tests) in
    sym (render-ℕ_some n (omega (arith, grows (c ∷ bs) (0 * 10 + (b - 48)) n f))
    ∙ digits_are (c ∷ bs) (0 * 10 + (b - 48)) n p f
    ∙ ap (λ x. map ascii (digits_of 10 x) ++ (c ∷ bs)) q
    ∙ ap (λ x. x ++ (c ∷ bs)) (digit_single (b - 48) (grind (arith, nat_tests)) (grind (arith, nat_tests)))
    ∙ ap (λ x. x ∷ (c ∷ bs)) g)

digits_value : (ds : List ℕ) (m : ℕ) → AllBelowBase 10 ds → digits_after m (map ascii ds) ≡ Some (number_from_digits_after 10 m ds)
digits_value [] m h = refl
digits_value (d ∷ ds) m h =
    let t : is_digit (48 + d) ≡ true = grind (arith, nat_tests, h.0) in
    let q : 48 + d - 48 ≡ d = omega arith in
    rw t (ap (λ x. digits_after (m * 10 + x) (map ascii ds)) q ∙ digits_value ds (m * 10 + d) h.1)

some_first : (ds : List ℕ) → 0 < get_or ds 0 0 → 0 < length ds
some_first [] h = h
some_first (d ∷ ds) h = omega arith

magnitude_from : (n : ℕ) → magnitude_of (render-ℕ n) ≡ Some n
magnitude_from zero = refl
magnitude_from (suc n) =
    let ds : List ℕ = digits_of 10 (suc n) in
    let f : 0 < get_or ds 0 0 = first_digits_of 10 (suc n) (omega arith) (omega arith) in
    let l : 0 < length ds = some_first ds f in
    let m : length (map ascii ds) ≡ length ds = length-map ds ascii in
    let g : get_or (map ascii ds) 0 0 ≡ ascii (get_or ds 0 0) = get_or-map ascii ds 0 0 0 l in
    magnitude_plain (map ascii ds) (omega arith) (λ _ e. omega arith)
    ∙ digits_value ds 0 (all_below_base_digits_of 10 (suc n) (omega arith))
    ∙ ap Some (number_digits_of 10 (suc n) (omega arith))

plain_number : (bs : List ℕ) (n : ℕ) → magnitude_of bs ≡ Some n → number_of bs ≡ Some (pos n)
plain_number [] n e = grind arith
plain_number (b ∷ []) n e = let t : eqb b 45 ≡ false = grind (arith, nat_tests) in rw t (ap (option_map pos) e)
plain_number (b ∷ (c ∷ bs)) n e = let t : eqb b 45 ≡ false = grind (arith, nat_tests) in rw t (ap (option_map pos) e)

pub from_render : (z : ℤ) → number_of (render z) ≡ Some z
from_render (pos n) = plain_number (render-ℕ n) n (magnitude_from n)
from_render (negsuc n) = ap negated (magnitude_from (suc n))

minus_to : (o : Option ℕ) (z : ℤ) (bs : List ℕ) → ((n : ℕ) → o ≡ Some n → bs ≡ render-ℕ n) → negated o ≡ Some z → 45 ∷ bs ≡ render z
minus_to None z bs h e = grind arith
minus_to (Some zero) z bs h e = grind arith
minus_to (Some (suc n)) z bs h e = let k : negsuc n ≡ z = grind arith in ap (λ x. 45 ∷ x) (h (suc n) refl) ∙ ap render k

plain_to : (o : Option ℕ) (z : ℤ) (bs : List ℕ) → ((n : ℕ) → o ≡ Some n → bs ≡ render-ℕ n) → option_map pos o ≡ Some z → bs ≡ render z
plain_to None z bs h e = grind arith
plain_to (Some n) z bs h e = let k : pos n ≡ z = grind arith in h n refl ∙ ap render k

by_front : (t : Bool) (b : ℕ) (bs : List ℕ) (z : ℤ) → eqb b 45 ≡ t → cond t (negated (magnitude_of bs)) (option_map pos (magnitude_of (b ∷ bs))) ≡ Some z → b ∷ bs ≡ render z
by_front true b bs z t e = let k : b ≡ 45 = grind (arith, nat_tests) in ap (λ x. x ∷ bs) k ∙ minus_to (magnitude_of bs) z bs (magnitude_to bs) e
by_front false b bs z t e = plain_to (magnitude_of (b ∷ bs)) z (b ∷ bs) (magnitude_to (b ∷ bs)) e

pub to_render : (bs : List ℕ) (z : ℤ) → number_of bs ≡ Some z → bs ≡ render z
to_render [] z e = grind arith
to_render (b ∷ bs) z e = by_front (eqb b 45) b bs z refl e

pub number_form : (bs : List ℕ) → NumberForm bs
unfolding NumberForm
number_form bs z = (to_render bs z, λ e. ap number_of e ∙ from_render z)
