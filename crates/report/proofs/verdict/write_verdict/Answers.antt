-- A record has room for every verdict, and holds the names and the verdict's line.
use Rattle.std.proofs.Common.{◌≡◌, ℕ, ◌^◌, ◌<◌, List, [], ◌∷◌, ◌++◌, length, get_or, ap, ◌∙◌, arith, rules}
use Rattle.std.proofs.lemmas.List.{length-take, length-drop}
use Rattle.report.specs.Verdicts.{header, line_of, verdict_text}
use Rattle.report.specs.Written.{written}
use Rattle.report.proofs.Room.{line_room}
use Rattle.report.proofs.Writing.{tail_written}
use Rattle.report.proofs.verdict.write_verdict.Goals as goal

pub print_line-requires : goal.print_line-requires
print_line-requires c =
    let small : (i : ℕ) → get_or c.numbers-numbers.result i 0 < 2 ^ 32 = λ _. search rules in
    let room = line_room c.args.verdict c.word-word.ensures c.layer_word-layer.ensures c.numbers-numbers.ensures small in
    simp (length-take, length-drop) (omega arith)

pub returns : goal.returns
unfolding verdict_text
returns c =
    let out : List ℕ = c.args.out.now in
    let line : List ℕ = line_of c.word-word.result.now c.layer_word-layer.result.now c.numbers-numbers.result in
    let front : List ℕ = header ++ 10 ∷ [] in
    let text : front ++ line ≡ verdict_text c.args.verdict = cc in
    record {
      count = omega (arith, ap length text);
      fits = search rules;
      bytes = tail_written front line out _ c.print_line.new.out 160 c.print_bytes-at.result (omega arith)
          c.print_bytes-at.ensures.bytes c.print_bytes-at.ensures.count c.print_line.ensures.bytes
          ∙ ap (λ t. written t out) text;
    }
