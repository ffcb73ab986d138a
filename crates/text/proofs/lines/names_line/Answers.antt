use Rattle.std.proofs.Common.{rules}
use Rattle.text.proofs.Forming.{names_form}
use Rattle.text.proofs.lines.names_line.Goals as goal

pub returns-in-Some : goal.returns-in-Some
returns-in-Some c = record { value = search rules; form = names_form c.args.names.now c.args.text.now }

pub returns-in_default : goal.returns-in_default
returns-in_default c = record { value = search rules; form = names_form c.args.names.now c.args.text.now }
