-- The proof of `is_blank`: what the search leaves.
use Rattle.elimination.proofs.Signs.{blank_form}
use Rattle.elimination.proofs.row.Row.is_blank.Goals as goal

pub returns-clause-form : goal.returns-clause-form
returns-clause-form c = blank_form c.args.self.now
