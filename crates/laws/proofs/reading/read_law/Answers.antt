-- The proof of `read_law`: what the search leaves.
use Rattle.laws.proofs.Making.{law_meant}
use Rattle.laws.proofs.Rendering.{law_form}
use Rattle.laws.proofs.reading.read_law.Goals as goal

pub returns-in_err-head-clause-form : goal.returns-in_err-head-clause-form
returns-in_err-head-clause-form c = law_form c.args.text.now

pub returns-in_err-head-clause-meant : goal.returns-in_err-head-clause-meant
returns-in_err-head-clause-meant c = law_meant c.args.text.now

pub returns-clause-form : goal.returns-clause-form
returns-clause-form c = law_form c.args.text.now

pub returns-clause-meant : goal.returns-clause-meant
returns-clause-meant c = law_meant c.args.text.now
