-- The proof of `all_proper`: what the search leaves.
use Rattle.std.proofs.Common.{rules, tests}
use Rattle.std.proofs.lemmas.Iterator.{cases_from_all, YieldsList-from_slice}
use Rattle.elimination.specs.Rows.{Proper}
use Rattle.elimination.proofs.Propers.{all_by_cases}
use Rattle.elimination.proofs.rows.all_proper.Goals as goal

pub returns : goal.returns
returns c =
    all_by_cases Proper c.args.rows.now c.all.result
    (cases_from_all _ _ _ Proper (λ r. Proper r → ⊥) c.all.ensures.ran (YieldsList-from_slice c.args.rows.now cc) (λ x q k. search (rules, tests)) (λ x q k. search (rules, tests)))
