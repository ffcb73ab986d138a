-- The proof of `first_absent`: what the search leaves.
use Rattle.std.proofs.Common.{◌+◌, sym, ap, ◌∙◌, arith}
use Rattle.std.specs.Option.{option_map}
use Rattle.checking.proofs.Marking.{unset_is, row_long, long_to}
use Rattle.checking.proofs.named.Named.first_absent.Goals as goal

pub returns-in_err-before-clause-value : goal.returns-in_err-before-clause-value
returns-in_err-before-clause-value c =
    let flags = c.args.self.now.flags in
    let long = long_to flags c.args.self.now.whole in
    let row = row_long flags c.args.region (omega (arith, long.regions, c.requires.region)) long.rows in
    c.from_residual.ensures ∙ ap (option_map (λ i. i + 1)) (sym c.in_err-before.was ∙ c.first_unset.ensures.value) ∙ unset_is flags c.args.region c.args.faces (omega (arith, row, c.requires.faces))

pub returns-clause-value : goal.returns-clause-value
returns-clause-value c =
    let flags = c.args.self.now.flags in
    let long = long_to flags c.args.self.now.whole in
    let row = row_long flags c.args.region (omega (arith, long.regions, c.requires.region)) long.rows in
    ap (option_map (λ i. i + 1)) (sym c.in_ok-before.was ∙ c.first_unset.ensures.value) ∙ unset_is flags c.args.region c.args.faces (omega (arith, row, c.requires.faces))
