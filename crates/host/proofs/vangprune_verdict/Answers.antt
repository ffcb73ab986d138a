use Rattle.std.proofs.Common.{◌≡◌, ℕ, ap, ◌∙◌}
use Rattle.report.specs.declared.verdict.Report.{Report}
use Rattle.judgement.specs.Judging.{judged}
use Rattle.host.specs.Causes.{verdict_cause}
use Rattle.host.proofs.Told.{told_form, told_sound}
use Rattle.host.proofs.vangprune_verdict.Goals as goal

pub returns-in-Ok : goal.returns-in-Ok
returns-in-Ok c =
    let h = c.in-Ok.ensures in
    let e : ◌≡◌ {A = ℕ} 0 (verdict_cause (judged c.args.text.now)) = ap verdict_cause h.value in
    record { value = e; form = told_form c.args.text.now 0 e h.form; sound = told_sound c.args.text.now 0 e h.sound }

pub returns-in-Err : goal.returns-in-Err
returns-in-Err c =
    let h = c.in-Err.ensures in
    let e : c.from.result.cause ≡ verdict_cause (judged c.args.text.now) = ap (λ (t : Report). t.cause) c.from.ensures ∙ ap verdict_cause h.value in
    record { value = e; form = told_form c.args.text.now _ e h.form; sound = told_sound c.args.text.now _ e h.sound }
