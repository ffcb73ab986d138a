-- The verdict on the bytes of a law text with a case text directly after it.
use Rattle.std.specs.Prelude.{ℕ, List, length, Ok, Err, Result}
use Rattle.case.specs.Faces.{faces}
use Rattle.case.specs.Reports.{case_report}
use Rattle.case.specs.Stored.{case_values}
use Rattle.case.specs.Texts.{CaseText, case_of}
use Rattle.case.specs.declared.faults.CaseFault.{CaseFault}
use Rattle.laws.specs.Controllers.{law_meaning}
use Rattle.laws.specs.Laws.{LawText, law_of}
use Rattle.laws.specs.Reports.{law_report}
use Rattle.laws.specs.declared.faults.LawFault.{LawFault}
use Rattle.report.specs.declared.verdict.Report.{Report}
use Rattle.report.specs.declared.verdict.Verdict.{Verdict}
use Rattle.report.specs.declared.verdict.Verdict.TheVariants.{Read, Refused}

abbrev pub face_count : CaseText → ℕ
face_count case = length (faces (case_values case))

-- the counts of regions and faces, or what the case's fault tells
abbrev pub case_verdict_by : ℕ → Result (CaseText × List ℕ) CaseFault → Verdict
case_verdict_by regions (Ok p) = Read regions (face_count p.0)
case_verdict_by regions (Err fault) = Refused (case_report fault)

abbrev pub case_verdict : ℕ → List ℕ → Verdict
case_verdict regions text = case_verdict_by regions (case_of text)

-- the verdict on the case behind the law, or what the law's fault tells
abbrev pub verdict_by : Result (LawText × List ℕ) LawFault → Verdict
verdict_by (Ok p) = case_verdict (length (law_meaning p.0).regions) p.1
verdict_by (Err fault) = Refused (law_report fault)

abbrev pub verdict_of : List ℕ → Verdict
verdict_of text = verdict_by (law_of text)

-- the verdict that counts, or a report of a fault, give
abbrev pub counts_verdict : Result (ℕ × ℕ) Report → Verdict
counts_verdict (Ok p) = Read p.0 p.1
counts_verdict (Err report) = Refused report
