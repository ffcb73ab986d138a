-- How long the line of a verdict is at most.
use Rattle.std.proofs.Common.{◌≡◌, ℕ, suc, ◌+◌, ◌*◌, ◌^◌, ◌<◌, ◌≤◌, List, [], ◌∷◌, ◌++◌, length, get_or, refl, ap, arith}
use Rattle.std.specs.List.{flat_map}
use Rattle.std.proofs.lemmas.List.{length_push, length-append}
use Rattle.text.specs.Render.{render-ℕ}
use Rattle.report.specs.Verdicts.{layer_word, verdict_word, verdict_layer, verdict_numbers, spaced, line_of}
use Rattle.report.specs.declared.verdict.Layer.{Layer}
use Rattle.report.specs.declared.verdict.Layer.TheVariants.{Law, Case, Proof, Solve, Loop}
use Rattle.report.specs.declared.verdict.Verdict.{Verdict}
use Rattle.report.specs.declared.verdict.Verdict.TheVariants.{Read, Accepted, Refused}
use Rattle.report.proofs.Rendering.{length_render_le}

pub length_line : (word layer numbers : List ℕ) → length (line_of word layer numbers) ≡ length word + 1 + length layer + length (flat_map spaced numbers) + 1
length_line word layer numbers =
    omega (arith, length_push (word ++ 32 ∷ (layer ++ flat_map spaced numbers)) 10, length-append word (32 ∷ (layer ++ flat_map spaced numbers)), length-append layer (flat_map spaced numbers))

word_room : (v : Verdict) → length (verdict_word v) ≤ 8
word_room (Read regions faces) = omega arith
word_room (Accepted regions faces) = omega arith
word_room (Refused report) = omega arith

layer_room : (l : Layer) → length (layer_word l) ≤ 5
layer_room Law = omega arith
layer_room Case = omega arith
layer_room Proof = omega arith
layer_room Solve = omega arith
layer_room Loop = omega arith

verdict_layer_room : (v : Verdict) → length (verdict_layer v) ≤ 5
verdict_layer_room (Read regions faces) = omega arith
verdict_layer_room (Accepted regions faces) = omega arith
verdict_layer_room (Refused report) = layer_room report.layer

five : (v : Verdict) → length (verdict_numbers v) ≡ 5
five (Read regions faces) = refl
five (Accepted regions faces) = refl
five (Refused report) = refl

-- a space and at most ten digits for each number
numbers_room : (ns : List ℕ) → ((i : ℕ) → get_or ns i 0 < 2 ^ 32) → length (flat_map spaced ns) ≤ 11 * length ns
numbers_room [] h = omega arith
numbers_room (n ∷ ns) h =
    let d : length (render-ℕ n) ≤ 10 = length_render_le 10 n (omega arith) (omega (arith, h 0)) in
    omega (arith, length-append (render-ℕ n) (flat_map spaced ns), numbers_room ns (λ i. h (suc i)))

pub line_room : (v : Verdict) {word layer numbers : List ℕ} → word ≡ verdict_word v → layer ≡ verdict_layer v → numbers ≡ verdict_numbers v
    → ((i : ℕ) → get_or numbers i 0 < 2 ^ 32) → length word + 1 + length layer + length (flat_map spaced numbers) ≤ 69
line_room v {word} {layer} {numbers} w l n h =
    omega (arith, ap length w, word_room v, ap length l, verdict_layer_room v, ap length n, five v, numbers_room numbers h)
