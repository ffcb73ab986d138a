-- The digits of a number, one after another, and how many there are.
use Rattle.std.proofs.Common.{◌≡◌, ℕ, zero, suc, ◌+◌, ◌/◌, ◌%◌, ◌^◌, ◌<◌, ◌≤◌, true, [], ◌∷◌, ◌++◌, map, length, ℤ, pos, negsuc, nat_abs, sym, refl, ap, ◌∙◌, arith}
use lib.Signed.{lt_z}
use Rattle.std.specs.Int.Digits.{digits_of}
use Rattle.std.proofs.lemmas.Int.Digits.{digits_of_step, length-digits_of-le}
use Rattle.std.proofs.lemmas.List.{map_push, length-map, length_push}
use Rattle.std.proofs.lemmas.Bool.Decides.{nat_tests}
use Rattle.text.specs.Render.{ascii, render-ℕ, render}

render_some : (n : ℕ) → 0 < n → render-ℕ n ≡ map ascii (digits_of 10 n)
render_some zero h = absurd (omega arith)
render_some (suc n) h = refl

digits_push : (n : ℕ) → 0 < n → map ascii (digits_of 10 n) ≡ map ascii (digits_of 10 (n / 10)) ++ (48 + n % 10) ∷ []
digits_push n h = ap (map ascii) (digits_of_step 10 n (omega arith) h) ∙ map_push ascii (digits_of 10 (n / 10)) (n % 10)

pub render_digit : (n : ℕ) → n < 10 → render-ℕ n ≡ (48 + n) ∷ []
render_digit zero h = refl
render_digit (suc n) h =
    let q : suc n / 10 ≡ 0 = omega arith in
    let r : suc n % 10 ≡ suc n = omega arith in
    digits_push (suc n) (omega arith) ∙ ap (λ m. map ascii (digits_of 10 m) ++ (48 + suc n % 10) ∷ []) q ∙ ap (λ d. (48 + d) ∷ []) r

pub render_step : (n : ℕ) → 10 ≤ n → render-ℕ n ≡ render-ℕ (n / 10) ++ (48 + n % 10) ∷ []
render_step n h =
    render_some n (omega arith) ∙ digits_push n (omega arith)
    ∙ ap (λ ds. ds ++ (48 + n % 10) ∷ []) (sym (render_some (n / 10) (omega arith)))

pub length_digit : (n : ℕ) → n < 10 → length (render-ℕ n) ≡ 1
length_digit n h = ap length (render_digit n h)

pub length_step : (n : ℕ) → 10 ≤ n → length (render-ℕ n) ≡ length (render-ℕ (n / 10)) + 1
length_step n h = ap length (render_step n h) ∙ length_push (render-ℕ (n / 10)) (48 + n % 10)

pub length_render_le : (k n : ℕ) → 0 < k → n < 10 ^ k → length (render-ℕ n) ≤ k
length_render_le k zero h l = h
length_render_le k (suc n) h l = omega (arith, length-map (digits_of 10 (suc n)) ascii, length-digits_of-le 10 k (suc n) (omega arith) l)

pub render_negative : (z : ℤ) (m : ℕ) → lt_z z (pos 0) ≡ true → m ≡ nat_abs z → render z ≡ 45 ∷ render-ℕ m
render_negative (pos n) m h e = grind (arith, nat_tests)
render_negative (negsuc n) m h e = ap (λ k. 45 ∷ render-ℕ k) (sym e)
