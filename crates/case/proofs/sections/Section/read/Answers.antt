-- The proof of `Section::read`: what the search leaves.
use Rattle.std.proofs.Common.{◌+◌, ap, ◌∙◌}
use Rattle.std.proofs.lemmas.List.{take_all}
use Rattle.text.specs.Lines.{bind, row_width}
use Rattle.case.specs.Stored.{rows_stored}
use Rattle.case.specs.Texts.{as_case, rows_of}
use Rattle.case.specs.declared.faults.CaseFault.TheVariants.{Text}
use Rattle.case.proofs.sections.Section.read.Goals as goal

pub returns : goal.returns
returns g c judged j =
    let s = c.args.self in
    c.row_lines.ensures Text judged (λ f e h. h) j
    ∙ ap (λ l. rows_stored (rows_of l judged s.count (s.line + 1) c.in_ok-rest.rest.now)) (take_all row_width s.limits.now s.narrow)
    ∙ ap (λ r. rows_stored (bind (as_case r) (λ t. rows_of s.limits.now judged s.count (s.line + 1) t))) c.in_ok-rest.ensures.value
