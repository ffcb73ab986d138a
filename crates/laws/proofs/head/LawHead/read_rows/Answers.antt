-- The proof of `LawHead::read_rows`: what the search leaves.
use Rattle.std.proofs.Common.{◌≡◌, ap, ◌∙◌, rules}
use Rattle.text.specs.Blocks.{rows_held, rows_of}
use Rattle.laws.specs.Laws.{ordered}
use Rattle.laws.specs.declared.faults.LawFault.TheVariants.{Text}
use Rattle.laws.proofs.Storing.{limits_whole, ordered_padded}
use Rattle.laws.proofs.head.LawHead.read_rows.Goals as goal

pub returns : goal.returns
returns c =
    let h = c.args.self in
    let judged = ordered h.kind h.states in
    c.row_lines.ensures Text judged (λ f e t. t) (λ line row zs r e t.
    let q : r ≡ ordered h.kind h.states line row.now = search rules in
    q ∙ ordered_padded h.kind h.states line zs row.now e)
    ∙ ap (λ l. rows_held 2 (rows_of Text judged l h.inputs 4 c.args.text.now)) (limits_whole h.kind h.states c.row_limits.result.now h.sizes.1 c.row_limits.ensures)
