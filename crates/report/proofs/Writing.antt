-- What one more byte, or more bytes behind those that are written, leave in a slice.
use Rattle.std.proofs.Common.{◌≡◌, ℕ, ◌+◌, ◌-◌, ◌/◌, ◌%◌, ◌<◌, ◌≤◌, true, leb, List, [], ◌∷◌, ◌++◌, length, get_or, take, drop, set, Some, sym, refl, ap, ◌∙◌, append_assoc, arith}
use borrow.Rule.Slice.PartMut.{put_mid}
use Rattle.std.proofs.lemmas.List.{append-nil, take_at, drop_at, drop_all, drop_more, drop-drop, set_at, take_rest, length-drop, length_push, length-append}
use Rattle.std.proofs.lemmas.Bool.Decides.{nat_tests}
use Rattle.text.specs.Render.{render-ℕ}
use Rattle.report.specs.Written.{written, room, written_if}
use Rattle.report.proofs.Rendering.{render_digit, render_step}

-- one byte more behind those that are written
pub written_push : (a out : List ℕ) (b k : ℕ) → k ≡ length a → k < length out → set (written a out) k b ≡ written (a ++ b ∷ []) out
written_push a out b k e h =
    let l : length a < length out = omega arith in
    ap (λ t. set (a ++ t) k b) (drop_more out (length a) 0 l)
    ∙ set_at a (get_or out (length a) 0) (drop (length a + 1) out) b k (sym e)
    ∙ sym (append_assoc a (b ∷ []) (drop (length a + 1) out))
    ∙ ap (λ n. (a ++ b ∷ []) ++ drop n out) (sym (length_push a b))

pub written_digit : (n : ℕ) (out : List ℕ) → n < 10 → 0 < length out → set out 0 (48 + n) ≡ written (render-ℕ n) out
written_digit n out h l = written_push [] out (48 + n) 0 refl l ∙ ap (λ a. written a out) (sym (render_digit n h))

pub written_step : (n k : ℕ) (out : List ℕ) → 10 ≤ n → k ≡ length (render-ℕ (n / 10)) → k < length out
    → set (written (render-ℕ (n / 10)) out) k (48 + n % 10) ≡ written (render-ℕ n) out
written_step n k out h e l = written_push (render-ℕ (n / 10)) out (48 + n % 10) k e l ∙ ap (λ a. written a out) (sym (render_step n h))

-- the length of `&w[k..]`
pub length_tail : (w : List ℕ) (k : ℕ) → length (take (length w - k) (drop k w)) ≡ length w - k
length_tail w k = ap length (take_rest w k) ∙ length-drop k w

-- more bytes in the tail behind those that are written
written_tail : (a b out : List ℕ) (k : ℕ) → k ≡ length a
    → put_mid k (length (written a out) - k) (written a out) (written b (take (length (written a out) - k) (drop k (written a out)))) ≡ written (a ++ b) out
written_tail a b out k e =
    let w : List ℕ = written a out in
    let n : ℕ = length w - k in
    let rest : List ℕ = drop (length (a ++ b)) out in
    let t : take k w ≡ a = take_at a (drop (length a) out) k (sym e) in
    let d : drop k w ≡ drop (length a) out = drop_at a (drop (length a) out) k (sym e) in
    let p : drop n (drop k w) ≡ [] = drop_all n (drop k w) (omega (arith, length-drop k w)) in
    let m : drop (length b) (drop (length a) out) ≡ rest = drop-drop (length b) (length a) out ∙ ap (λ l. drop l out) (sym (length-append a b)) in
    let y : written b (take n (drop k w)) ≡ b ++ rest = ap (written b) (take_rest w k ∙ d) ∙ ap (λ z. b ++ z) m in
    ap (λ z. z ++ (written b (take n (drop k w)) ++ drop n (drop k w))) t
    ∙ ap (λ z. a ++ (written b (take n (drop k w)) ++ z)) p
    ∙ ap (λ z. a ++ (z ++ [])) y
    ∙ ap (λ z. a ++ z) (append-nil (b ++ rest))
    ∙ sym (append_assoc a b rest)

-- the same where a call left the tail so, and n is the length of the slice
pub tail_written : (a b out cur tail : List ℕ) (n k : ℕ) → n ≡ length cur → cur ≡ written a out → k ≡ length a → tail ≡ written b (take (n - k) (drop k cur))
    → put_mid k (n - k) cur tail ≡ written (a ++ b) out
tail_written a b out cur tail n k l i e q =
    ap (put_mid k (n - k) cur) q
    ∙ ap (λ m. put_mid k (m - k) cur (written b (take (m - k) (drop k cur)))) l
    ∙ ap (λ t. put_mid k (length t - k) t (written b (take (length t - k) (drop k t)))) i
    ∙ written_tail a b out k e

pub written_fits : (b out : List ℕ) → length b ≤ length out → written_if b out ≡ written b out
written_fits b out h = let e : leb (length b) (length out) ≡ true = grind (arith, nat_tests) in rw e

pub room_fits : (b out : List ℕ) → length b ≤ length out → room b out ≡ Some (length b)
room_fits b out h = let e : leb (length b) (length out) ≡ true = grind (arith, nat_tests) in rw e

pub room_some : (b out : List ℕ) (k : ℕ) → Some k ≡ room b out → k ≡ length b
room_some b out k e = grind (arith, nat_tests)
