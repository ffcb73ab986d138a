-- The counts that a case stores are those of the values that were read.
use Rattle.std.proofs.Common.{◌≡◌, ℕ, ◌+◌, ◌*◌, List, Ok, Err, Result, sym, ap, ◌∙◌, arith}
use Rattle.case.specs.Reports.{case_report}
use Rattle.case.specs.Stored.{Stored, case_values, answer_of, stored_after}
use Rattle.case.specs.Texts.{CaseText}
use Rattle.case.specs.declared.faults.CaseFault.{CaseFault}
use Rattle.case.proofs.Faces.{faces_count}
use Rattle.report.specs.declared.verdict.Verdict.TheVariants.{Read, Refused}
use Rattle.report.specs.declared.verdict.Report.{Report}
use Rattle.judge.specs.Judging.{case_verdict_by}

pub counted : (regions : ℕ) (r : Result (CaseText × List ℕ) CaseFault) (old now : Stored) → Ok tt ≡ answer_of r → now ≡ stored_after old r
    → Read regions (2 * now.states + now.extras) ≡ case_verdict_by regions r
counted regions (Ok p) old now e s =
    ap (λ (t : Stored). Read regions (2 * t.states + t.extras)) s ∙ ap (Read regions) (sym (faces_count (case_values p.0)))
counted regions (Err d) old now e s = grind arith

pub refused : (regions : ℕ) (r : Result (CaseText × List ℕ) CaseFault) (fault : CaseFault) (told : Report) → Err fault ≡ answer_of r → told ≡ case_report fault
    → Refused told ≡ case_verdict_by regions r
refused regions (Ok p) fault told e t = grind arith
refused regions (Err d) fault told e t = let k : fault ≡ d = cc in ap Refused (t ∙ ap case_report k)
