use Rattle.std.proofs.Common.{◌≡◌, ℕ, ◌+◌, ◌-◌, ◌*◌, ◌^◌, ◌<◌, ◌≤◌, min, true, false, cond, ◌&&◌, List, [], ◌∷◌, length, get_or, drop, ℤ, pos, negsuc, Some, None, Ok, Err, Option, sym, refl, ap, ◌∙◌, arith, w64, SFits}
use lib.Signed.{le_z}
use Rattle.std.proofs.lemmas.Int.{ints}
use Rattle.text.specs.declared.faults.FieldFault.TheVariants.{Malformed, Outside}
use Rattle.std.proofs.lemmas.List.{at_drop_more, at_drop_all}
use Rattle.std.specs.Option.{option_map}
use Rattle.std.proofs.lemmas.Bool.Decides.{nat_tests}
use Rattle.text.specs.Bytes.{is_digit, class_of}
use Rattle.text.specs.Numbers.{digits_after, magnitude_of, capped, clipped, within}
use Rattle.text.specs.declared.bytes.ByteClass.TheVariants.{Digit}

pub cap_step : (n m d : ℕ) → capped n ≡ capped m → capped (n * 10 + d) ≡ capped (m * 10 + d)
cap_step n m d e = omega arith

pub digits_capped : (bs : List ℕ) (n m : ℕ) → capped n ≡ capped m → option_map capped (digits_after n bs) ≡ option_map capped (digits_after m bs)
digits_capped [] n m e = ap Some e
digits_capped (b ∷ bs) n m e =
    elim (is_digit b) as (λ v. option_map capped (cond v (digits_after (n * 10 + (b - 48)) bs) None) ≡ option_map capped (cond v (digits_after (m * 10 + (b - 48)) bs) None))
    [ true ↦ digits_capped bs (n * 10 + (b - 48)) (m * 10 + (b - 48)) (cap_step n m (b - 48) e) | false ↦ refl ]

pub digit_is : (b d : ℕ) → class_of b ≡ Digit d → (is_digit b ≡ true) × (d ≡ b - 48)
digit_is b d e = grind (arith, nat_tests)

pub no_digit : (b : ℕ) → ((d : ℕ) → class_of b ≡ Digit d → ⊥) → is_digit b ≡ false
no_digit b e = grind (arith, nat_tests, e (b - 48))

pub magnitude_plain : (bs : List ℕ) → 0 < length bs → (1 < length bs → get_or bs 0 0 ≡ 48 → ⊥) → magnitude_of bs ≡ digits_after 0 bs
magnitude_plain [] h k = absurd (omega arith)
magnitude_plain (b ∷ []) h k = refl
magnitude_plain (b ∷ (c ∷ bs)) h k = grind (arith, nat_tests)

-- one digit more
pub more_digits : (ds : List ℕ) (i v w d : ℕ) (r : Option ℕ) → i < length ds → class_of (get_or ds i 0) ≡ Digit d
    → w ≡ min (min (v * 10) (2 ^ 64 - 1) + d) (2 ^ 64 - 1)
    → option_map capped (digits_after v (drop i ds)) ≡ r → option_map capped (digits_after w (drop (i + 1) ds)) ≡ r
more_digits ds i v w d r h e q inv =
    let p = digit_is (get_or ds i 0) d e in
    let z : option_map capped (digits_after v (drop i ds)) ≡ option_map capped (cond (is_digit (get_or ds i 0)) (digits_after (v * 10 + (get_or ds i 0 - 48)) (drop (i + 1) ds)) None) = at_drop_more (λ xs. option_map capped (digits_after v xs)) ds i 0 h in
    let y : option_map capped (digits_after v (drop i ds)) ≡ option_map capped (digits_after (v * 10 + (get_or ds i 0 - 48)) (drop (i + 1) ds)) = rw p.0 at z in
    let x : capped w ≡ capped (v * 10 + (get_or ds i 0 - 48)) = omega (arith, p.1) in
    digits_capped (drop (i + 1) ds) w (v * 10 + (get_or ds i 0 - 48)) x ∙ sym y ∙ inv

-- a byte that is no digit
pub stopped : (ds : List ℕ) (i v : ℕ) (r : Option ℕ) → i < length ds → ((d : ℕ) → class_of (get_or ds i 0) ≡ Digit d → ⊥)
    → option_map capped (digits_after v (drop i ds)) ≡ r → None ≡ r
stopped ds i v r h e inv =
    let z : option_map capped (digits_after v (drop i ds)) ≡ option_map capped (cond (is_digit (get_or ds i 0)) (digits_after (v * 10 + (get_or ds i 0 - 48)) (drop (i + 1) ds)) None) = at_drop_more (λ xs. option_map capped (digits_after v xs)) ds i 0 h in
    let y : option_map capped (digits_after v (drop i ds)) ≡ None = rw (no_digit (get_or ds i 0) e) at z in
    sym y ∙ inv

-- no digit more
pub finished : (ds : List ℕ) (i v : ℕ) (r : Option ℕ) → length ds ≤ i → v < 2 ^ 64
    → option_map capped (digits_after v (drop i ds)) ≡ r → Some v ≡ r
finished ds i v r h f inv =
    let z : option_map capped (digits_after v (drop i ds)) ≡ Some (capped v) = at_drop_all (λ xs. option_map capped (digits_after v xs)) ds i h in
    let y : v ≡ capped v = omega arith in
    ap Some y ∙ sym z ∙ inv

pub outside : (low high n : ℤ) (o : Option ℤ) → SFits w64 low → SFits w64 high → Some n ≡ option_map clipped o
    → (le_z low n && le_z n high) ≡ false → Err Outside ≡ within low high o
outside low high n None f g e h = grind arith
outside low high n (Some (pos m)) f g e h = grind (arith, ints, nat_tests)
outside low high n (Some (negsuc m)) f g e h = grind (arith, ints, nat_tests)

pub inside : (low high n : ℤ) (o : Option ℤ) → SFits w64 low → SFits w64 high → Some n ≡ option_map clipped o
    → (le_z low n && le_z n high) ≡ true → Ok n ≡ within low high o
inside low high n None f g e h = grind arith
inside low high n (Some (pos m)) f g e h = grind (arith, ints, nat_tests)
inside low high n (Some (negsuc m)) f g e h = grind (arith, ints, nat_tests)

pub unread : (low high : ℤ) (o : Option ℤ) → None ≡ option_map clipped o → Err Malformed ≡ within low high o
unread low high None e = refl
unread low high (Some z) e = grind arith
