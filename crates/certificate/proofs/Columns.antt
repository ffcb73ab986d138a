-- The columns of a proof: what their sums must be, and the face's coefficients in its row of the system.
use Rattle.std.proofs.Common.{◌≡◌, ℕ, ◌+◌, ◌-◌, ◌<◌, ◌≤◌, List, ◌++◌, length, get_or, ℤ, pos, ◌*ℤ◌, ap, ◌∙◌, arith}
use lib.IntN.{*ℤ-zero}
use Rattle.std.proofs.lemmas.List.{get_or_append_left, get_or-append_right, get_or-map, get_or-replicate, length-append, length-replicate}
use Rattle.case.specs.System.{none}
use Rattle.certificate.specs.Certificates.{scaled}

-- column j, counted from 0, before the last columns and in them
pub wanted_before : (width : ℕ) (scale : ℤ) (face : List ℤ) (j : ℕ) → j < width → get_or (scaled scale (none width ++ face)) j (pos 0) ≡ pos 0
wanted_before width scale face j lt =
    let n = length-replicate width (pos 0) in
    let h : j < length (none width) = omega arith in
    let h' : j < length (none width ++ face) = omega (arith, length-append (none width) face) in
    get_or-map (λ z. scale *ℤ z) (none width ++ face) j (pos 0) (pos 0) h'
    ∙ ap (λ z. scale *ℤ z) (get_or_append_left (none width) face (pos 0) j h ∙ get_or-replicate width j (pos 0) (pos 0) lt) ∙ *ℤ-zero scale

pub wanted_after : (width : ℕ) (scale : ℤ) (face : List ℤ) (j : ℕ) → width ≤ j → j < width + length face → get_or (scaled scale (none width ++ face)) j (pos 0) ≡ scale *ℤ get_or face (j - width) (pos 0)
wanted_after width scale face j le lt =
    let n = length-replicate width (pos 0) in
    let h : j < length (none width ++ face) = omega (arith, length-append (none width) face) in
    get_or-map (λ z. scale *ℤ z) (none width ++ face) j (pos 0) (pos 0) h ∙ ap (λ z. scale *ℤ z) (get_or-append_right (none width) face width j (pos 0) n le)
