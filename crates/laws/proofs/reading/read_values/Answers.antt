-- The proof of `read_values`: what the search leaves.
use Rattle.std.proofs.Common.{ap, ◌∙◌}
use Rattle.text.specs.Lines.{names_line}
use Rattle.laws.specs.Laws.{Head}
use Rattle.laws.specs.declared.head.LawHead.{LawHead}
use Rattle.laws.proofs.Composing.{rows_read}
use Rattle.laws.proofs.reading.read_values.Goals as goal

abbrev seen : LawHead → Head
seen h = record { kind = h.kind; states = h.states; inputs = h.inputs }

pub returns : goal.returns
returns c =
    rows_read c.args.text.now _ c.in_ok-sized.ensures c.in_ok-rest.rest.now c.in_ok-rest.ensures.value
    (seen c.in_ok-head.head) c.in_ok-head.rest.now c.in_ok-head.ensures c.in_ok-rest-2.rest.now
    (c.in_ok-rest-2.ensures.value ∙ ap (λ t. names_line 3 t c.in_ok-head.rest.now) c.row_names.ensures) _ _ c.in_ok-rows.ensures
