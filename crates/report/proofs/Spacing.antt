-- Numbers that are written one after another, each after a space.
use Rattle.std.proofs.Common.{◌≡◌, ℕ, ◌+◌, ◌-◌, ◌<◌, ◌≤◌, List, [], ◌∷◌, ◌++◌, length, get_or, take, drop, set, ℤ, pos, Some, sym, refl, ap, ◌∙◌, append_assoc, arith}
use borrow.Rule.Slice.PartMut.{put_mid}
use Rattle.std.specs.List.{flat_map}
use Rattle.std.proofs.lemmas.List.{take_more, take-append-drop, length_push, length-append, length-set, flat_map_more}
use Rattle.text.specs.Render.{render-ℕ, render}
use Rattle.report.specs.Verdicts.{spaced}
use Rattle.report.specs.Written.{written, room, written_if}
use Rattle.report.proofs.Writing.{written_push, tail_written, written_fits, room_some, length_tail}

spaced_append : (xs ys : List ℕ) → flat_map spaced (xs ++ ys) ≡ flat_map spaced xs ++ flat_map spaced ys
spaced_append [] ys = refl
spaced_append (x ∷ xs) ys = ap (λ t. spaced x ++ t) (spaced_append xs ys) ∙ sym (append_assoc (spaced x) (flat_map spaced xs) (flat_map spaced ys))

-- one number more: a space, and then its digits
spaced_more : (ns : List ℕ) (i : ℕ) → i < length ns → flat_map spaced (take (i + 1) ns) ≡ (flat_map spaced (take i ns) ++ 32 ∷ []) ++ render-ℕ (get_or ns i 0)
spaced_more ns i h =
    ap (flat_map spaced) (take_more ns i 0 h) ∙ sym (flat_map_more spaced [] (take i ns) (get_or ns i 0))
    ∙ sym (append_assoc (flat_map spaced (take i ns)) (32 ∷ []) (render-ℕ (get_or ns i 0)))

length_more : (ns : List ℕ) (i : ℕ) → i < length ns → length (flat_map spaced (take (i + 1) ns)) ≡ length (flat_map spaced (take i ns)) + 1 + length (render-ℕ (get_or ns i 0))
length_more ns i h =
    ap length (spaced_more ns i h) ∙ length-append (flat_map spaced (take i ns) ++ 32 ∷ []) (render-ℕ (get_or ns i 0))
    ∙ ap (λ n. n + length (render-ℕ (get_or ns i 0))) (length_push (flat_map spaced (take i ns)) 32)

pub length_front : (ns : List ℕ) (i : ℕ) → length (flat_map spaced (take i ns)) ≤ length (flat_map spaced ns)
length_front ns i =
    let e = ap (λ xs. length (flat_map spaced xs)) (take-append-drop i ns) in
    let f = ap length (spaced_append (take i ns) (drop i ns)) ∙ length-append (flat_map spaced (take i ns)) (flat_map spaced (drop i ns)) in
    omega arith

-- the number at i and those before it are no longer than all numbers
pub room_more : (ns : List ℕ) (i : ℕ) → i < length ns → length (flat_map spaced (take i ns)) + 1 + length (render-ℕ (get_or ns i 0)) ≤ length (flat_map spaced ns)
room_more ns i h = omega (arith, length_more ns i h, length_front ns (i + 1))

-- the tail behind the space has room for the number
pub tail_room : (ns out : List ℕ) (i at : ℕ) (z : ℤ) → i < length ns → at ≡ length (flat_map spaced (take i ns)) → length (flat_map spaced ns) ≤ length out
    → z ≡ pos (get_or ns i 0) → length (render z) ≤ length (take (length out - (at + 1)) (drop (at + 1) out))
tail_room ns out i at z h e l is = omega (arith, ap (λ y. length (render y)) is, room_more ns i h, length_tail out (at + 1))

-- a turn of the loop
pub turn : (ns out cur tail : List ℕ) (i at k : ℕ) (z : ℤ) → i < length ns → at ≡ length (flat_map spaced (take i ns)) → cur ≡ written (flat_map spaced (take i ns)) out
    → length (flat_map spaced ns) ≤ length out → length cur ≡ length out → z ≡ pos (get_or ns i 0)
    → Some k ≡ room (render z) (take (length (set cur at 32) - (at + 1)) (drop (at + 1) (set cur at 32)))
    → tail ≡ written_if (render z) (take (length (set cur at 32) - (at + 1)) (drop (at + 1) (set cur at 32)))
    → (at + 1 + k ≡ length (flat_map spaced (take (i + 1) ns)))
    × (put_mid (at + 1) (length (set cur at 32) - (at + 1)) (set cur at 32) tail ≡ written (flat_map spaced (take (i + 1) ns)) out)
turn ns out cur tail i at k z h e inv l n is r q =
    let a : List ℕ = flat_map spaced (take i ns) in
    let w : List ℕ = set cur at 32 in
    let rest : List ℕ = take (length w - (at + 1)) (drop (at + 1) w) in
    let fits : length (render z) ≤ length rest = tail_room ns w i at z h e (omega (arith, length-set cur at 32)) is in
    let p : w ≡ written (a ++ 32 ∷ []) out = ap (λ t. set t at 32) inv ∙ written_push a out 32 at e (omega (arith, room_more ns i h)) in (
      omega (arith, room_some (render z) rest k r, ap (λ y. length (render y)) is, length_more ns i h),
      tail_written (a ++ 32 ∷ []) (render z) out w tail (length w) (at + 1) refl p (omega (arith, length_push a 32)) (q ∙ written_fits (render z) rest fits)
          ∙ ap (λ y. written ((a ++ 32 ∷ []) ++ render y) out) is
          ∙ ap (λ t. written t out) (sym (spaced_more ns i h)),
    )
