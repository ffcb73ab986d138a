-- The proof of `judge_text`: what the search leaves.
use Rattle.std.proofs.Common.{sym, ◌∙◌}
use Rattle.text.proofs.Rows.{err_is}
use Rattle.laws.specs.Controllers.{controlled}
use Rattle.judgement.proofs.Accepting.{accepted_form}
use Rattle.judgement.proofs.Known.{law_refused, law_read}
use Rattle.judgement.proofs.Sounding.{accepted_sound}
use Rattle.judgement.proofs.judge_text.Goals as goal

pub returns-in_err-law : goal.returns-in_err-law
returns-in_err-law c = record {
  value = err_is c.from_residual.result _ c.from_residual.ensures.1 ∙ sym (law_refused c.args.text.now _ c.in_err-law.ensures);
  form = accepted_form c.args.text.now;
  sound = accepted_sound c.args.text.now;
}

pub returns : goal.returns
returns c = record {
  value = law_read c.args.text.now (controlled c.in_ok-law.law) c.in_ok-law.rest.now c.judge_case.result c.in_ok-law.ensures c.judge_case.ensures;
  form = accepted_form c.args.text.now;
  sound = accepted_sound c.args.text.now;
}
