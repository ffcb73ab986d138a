-- What is answered to the bytes of a law text with a case text directly after it.
use Rattle.std.specs.Prelude.{ℕ, List, length, Ok, Err, Result}
use Rattle.text.specs.Lines.{bind}
use Rattle.case.specs.Faces.{faces}
use Rattle.case.specs.Stored.{case_values, line_after}
use Rattle.case.specs.Texts.{case_of}
use Rattle.case.specs.Values.{CaseValues, state_count, push_count}
use Rattle.case.specs.declared.faults.CaseFault.{CaseFault}
use Rattle.control.specs.Meaning.{Meaning}
use Rattle.laws.specs.Controllers.{law_meaning}
use Rattle.laws.specs.Laws.{law_of}
use Rattle.laws.specs.declared.faults.LawFault.{LawFault}
use Rattle.checking.specs.Checking.{check_of}
use Rattle.checking.specs.Reports.{check_report}
use Rattle.checking.specs.declared.faults.CheckFault.{CheckFault}
use Rattle.checking.specs.declared.faults.CheckFault.TheVariants.{Law, Case}
use Rattle.report.specs.declared.verdict.Verdict.{Verdict}
use Rattle.report.specs.declared.verdict.Verdict.TheVariants.{Accepted as AcceptedVerdict, Refused}
use Rattle.judgement.specs.declared.Accepted.{Accepted}

-- a fault of the law text or of the case text is a fault of check
abbrev pub of_law : {X : Type 0} → Result X LawFault → Result X CheckFault
of_law (Ok x) = Ok x
of_law (Err e) = Err (Law e)

abbrev pub of_case : {X : Type 0} → Result X CaseFault → Result X CheckFault
of_case (Ok x) = Ok x
of_case (Err e) = Err (Case e)

-- the number of the first proof line
abbrev pub first_line : CaseValues → ℕ
first_line k = line_after (state_count k) (push_count k) (length k.extra)

-- how many regions the controller has, and how many faces the case
abbrev pub counts : Meaning → CaseValues → Accepted
counts m k = record { regions = length m.regions; faces = length (faces k) }

-- check of a proof part
abbrev pub proofs_judged : Meaning → CaseValues → List ℕ → Result Accepted CheckFault
proofs_judged m k proofs = bind (check_of k m (first_line k) proofs) (λ _. Ok (counts m k))

-- a case text, and then its proof part
abbrev pub case_judged : Meaning → List ℕ → Result Accepted CheckFault
case_judged m text = bind (of_case (case_of text)) (λ p. proofs_judged m (case_values p.0) p.1)

-- a law text, and then the case text in the rest
unfoldable pub judged : List ℕ → Result Accepted CheckFault
judged text = bind (of_law (law_of text)) (λ p. case_judged (law_meaning p.0) p.1)

-- the verdict that tells an answer
abbrev pub verdict_by : Result Accepted CheckFault → Verdict
verdict_by (Ok a) = AcceptedVerdict a.regions a.faces
verdict_by (Err fault) = Refused (check_report fault)
