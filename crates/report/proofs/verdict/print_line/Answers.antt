-- The words, the numbers and the line feed, one behind the other, are the line.
use Rattle.std.proofs.Common.{◌≡◌, ℕ, ◌+◌, List, [], ◌∷◌, ◌++◌, set, refl, ap, ◌∙◌, append_assoc, arith}
use Rattle.std.specs.List.{flat_map}
use Rattle.std.proofs.lemmas.List.{length_push, length-append}
use Rattle.report.specs.Verdicts.{spaced, line_of}
use Rattle.report.specs.Written.{written}
use Rattle.report.proofs.Room.{length_line}
use Rattle.report.proofs.Writing.{written_push, tail_written}
use Rattle.report.proofs.verdict.print_line.Goals as goal

line_is : (word layer numbers : List ℕ) → (word ++ 32 ∷ [] ++ layer) ++ flat_map spaced numbers ++ 10 ∷ [] ≡ line_of word layer numbers
line_is word layer numbers =
    ap (λ t. t ++ 10 ∷ [])
    (append_assoc (word ++ 32 ∷ []) layer (flat_map spaced numbers) ∙ append_assoc word (32 ∷ []) (layer ++ flat_map spaced numbers))

pub returns : goal.returns
returns c =
    let out : List ℕ = c.args.out.now in
    let word : List ℕ = c.args.word.now in
    let layer : List ℕ = c.args.layer.now in
    let numbers : List ℕ = flat_map spaced c.args.numbers.now in
    let at : ℕ = c.print_bytes-at.result in
    let one = length_push word 32 in
    let two = length-append (word ++ 32 ∷ []) layer in
    let three = length-append (word ++ 32 ∷ [] ++ layer) numbers in
    let front = ap (λ t. set t at 32) c.print_bytes-at.ensures.bytes ∙ written_push word out 32 at c.print_bytes-at.ensures.count (omega arith) in
    let words = tail_written (word ++ 32 ∷ []) layer out _ c.print_bytes-at-2.new.out _ (at + 1) refl front (omega arith) c.print_bytes-at-2.ensures.bytes in
    let line = tail_written (word ++ 32 ∷ [] ++ layer) numbers out _ c.print_numbers-at.new.out _ (at + 1 + c.print_bytes-at-2.result) refl words (omega arith) c.print_numbers-at.ensures.bytes in
    let whole = length_line word layer c.args.numbers.now in
    record {
      count = omega arith;
      fits = omega arith;
      bytes = ap (λ t. set t (at + 1 + c.print_bytes-at-2.result + c.print_numbers-at.result) 10) line
          ∙ written_push (word ++ 32 ∷ [] ++ layer ++ numbers) out 10 (at + 1 + c.print_bytes-at-2.result + c.print_numbers-at.result) (omega arith) (omega arith)
          ∙ ap (λ t. written t out) (line_is word layer c.args.numbers.now);
    }
