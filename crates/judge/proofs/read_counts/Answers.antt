-- The proof of `read_counts`: what the search leaves.
use Rattle.std.proofs.Common.{length, Err, sym, ap, ◌∙◌}
use Rattle.std.proofs.lemmas.Result.{err_from_is_err_and}
use Rattle.case.specs.Stored.{stored}
use Rattle.case.specs.Texts.{case_of}
use Rattle.control.specs.Meaning.{Meaning}
use Rattle.laws.specs.Controllers.{controlled}
use Rattle.laws.proofs.Making.{controller_read, controller_refused}
use Rattle.report.specs.declared.verdict.Verdict.TheVariants.{Read}
use Rattle.judge.specs.Judging.{case_verdict, verdict_by, counts_verdict}
use Rattle.judge.proofs.Counts.{counted, refused}
use Rattle.judge.proofs.read_counts.Goals as goal

pub returns-in_err-law : goal.returns-in_err-law
returns-in_err-law c =
    let p = err_from_is_err_and c.from_residual.result c.from_residual.ensures.1 in
    ap counts_verdict (p.1 ∙ ap Err p.2) ∙ sym (ap verdict_by (controller_refused c.args.text.now _ c.in_err-law.ensures))

pub returns-in_err-read_case : goal.returns-in_err-read_case
returns-in_err-read_case c =
    let k = controller_read c.args.text.now (controlled c.in_ok-law.law) c.in_ok-law.rest.now c.in_ok-law.ensures in
    let p = err_from_is_err_and c.from_residual-in_err-read_case.result c.from_residual-in_err-read_case.ensures.1 in
    ap counts_verdict p.1 ∙ refused _ (case_of c.in_ok-law.rest.now) _ p.0 c.in_err-read_case.ensures.value p.2 ∙ sym (ap verdict_by k.1)

pub returns : goal.returns
returns c =
    let k = controller_read c.args.text.now (controlled c.in_ok-law.law) c.in_ok-law.rest.now c.in_ok-law.ensures in
    let h = c.in_ok-read_case.ensures in
    ap (Read c.regions.result) c.face_count.ensures.sum
    ∙ counted c.regions.result (case_of c.in_ok-law.rest.now) _ (stored c.read_case.new.place) h.value h.place
    ∙ ap (λ n. case_verdict n c.in_ok-law.rest.now) (c.regions.ensures ∙ ap (λ (m : Meaning). length m.regions) k.2)
    ∙ sym (ap verdict_by k.1)
