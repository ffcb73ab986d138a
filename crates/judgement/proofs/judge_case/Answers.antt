use Rattle.std.proofs.Common.{Ok, Err, sym, ap, ◌∙◌, arith}
use Rattle.text.proofs.Rows.{err_is}
use Rattle.case.specs.Texts.{case_of}
use Rattle.laws.specs.Controllers.{controlled}
use Rattle.laws.specs.Controlling.{law_limits}
use Rattle.judgement.proofs.Known.{CaseKnown, case_known, case_refused, told_counts, case_checked}
use Rattle.judgement.proofs.judge_case.Goals as goal

pub returns-in_err-read_case : goal.returns-in_err-read_case
returns-in_err-read_case c =
    err_is c.from_residual.result _ c.from_residual.ensures.1 ∙ sym (case_refused (controlled c.args.law.now) c.args.text.now _ c.in_err-read_case.ensures.value)

pub returns-in_err-check : goal.returns-in_err-check
returns-in_err-check c =
    let h = c.in_ok-read_case.ensures in
    let case = c.read_case.new.place in
    let k : CaseKnown (case_of c.args.text.now) case = case_known (case_of c.args.text.now) _ case h.value h.place h.meant in
    err_is c.from_residual-in_err-check.result _ c.from_residual-in_err-check.ensures.1
    ∙ sym (case_checked (controlled c.args.law.now) c.args.text.now case (Err c.in_err-check.field-0.0) k c.in_err-check.ensures.value)

pub overflow_cast-result : goal.overflow_cast-result
overflow_cast-result c = let few = (law_limits c.args.law.now).regions_high in let e = c.regions.ensures in record { fits = omega arith }

pub returns : goal.returns
returns c =
    let h = c.in_ok-read_case.ensures in
    let case = c.read_case.new.place in
    let k : CaseKnown (case_of c.args.text.now) case = case_known (case_of c.args.text.now) _ case h.value h.place h.meant in
    ap (λ n. Ok (record { regions = n; faces = c.face_count.result })) c.regions.ensures
    ∙ ap (λ n. Ok (record { regions = (told_counts (controlled c.args.law.now) case).regions; faces = n })) c.face_count.ensures.sum
    ∙ sym (case_checked (controlled c.args.law.now) c.args.text.now case (Ok tt) k c.in_ok-check.ensures.value)
