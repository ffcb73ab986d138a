-- No fault has the cause 0, so 0 tells that a text is accepted.
use Rattle.std.proofs.Common.{◌≡◌, ℕ, ◌≤◌, List, Ok, Err, Result, sym, refl, ap, ◌∙◌, arith}
use Rattle.text.specs.Forms.{Iff}
use Rattle.text.specs.declared.faults.FieldFault.TheVariants.{Malformed, Outside}
use Rattle.text.specs.declared.faults.TextFault.{TextFault}
use Rattle.text.specs.declared.faults.TextFault.TheVariants.{Size, Line, Field}
use Rattle.case.specs.Reports.{case_report}
use Rattle.case.specs.declared.faults.CaseFault.{CaseFault}
use Rattle.case.specs.declared.faults.CaseFault.TheVariants.{Text as CaseTextFault, Order as CaseOrder, Narrow}
use Rattle.certificate.specs.declared.fault.ProofFault.{ProofFault}
use Rattle.certificate.specs.declared.fault.ProofFault.TheVariants.{Sizes as OtherSizes, Missing as NoPair, Length, Range, Unequal, Excess}
use Rattle.laws.specs.Reports.{law_report}
use Rattle.laws.specs.declared.faults.LawFault.{LawFault}
use Rattle.laws.specs.declared.faults.LawFault.TheVariants.{Text as LawTextFault, Word, Order as LawOrder}
use Rattle.report.specs.Reports.{text_report}
use Rattle.report.specs.declared.verdict.Layer.{Layer}
use Rattle.checking.specs.Reports.{check_report, proof_report}
use Rattle.checking.specs.declared.faults.CheckFault.{CheckFault}
use Rattle.checking.specs.declared.faults.CheckFault.TheVariants.{Law, Case, Text, Sizes, Missing, Repeated, Absent, Unproved}
use Rattle.checking.specs.declared.faults.Pair.{Pair}
use Rattle.judgement.specs.Forms.{Acceptable, InvariantText, AcceptedForm, AcceptedSound}
use Rattle.judgement.specs.Judging.{judged}
use Rattle.judgement.specs.declared.Accepted.{Accepted}
use Rattle.host.specs.Causes.{verdict_cause}

text_above : (layer : Layer) (f : TextFault) → 1 ≤ (text_report layer f).cause
text_above layer Size = omega arith
text_above layer (Line line) = omega arith
text_above layer (Field p Malformed) = omega arith
text_above layer (Field p Outside) = omega arith

law_above : (f : LawFault) → 1 ≤ (law_report f).cause
law_above (LawTextFault f) = text_above _ f
law_above (Word line) = omega arith
law_above (LawOrder p) = omega arith

case_above : (f : CaseFault) → 1 ≤ (case_report f).cause
case_above (CaseTextFault f) = text_above _ f
case_above (CaseOrder p) = omega arith
case_above (Narrow p) = omega arith

proof_above : (line : ℕ) (p : Pair) (f : ProofFault) → 1 ≤ (proof_report line p f).cause
proof_above line p OtherSizes = omega arith
proof_above line p NoPair = omega arith
proof_above line p Length = omega arith
proof_above line p Range = omega arith
proof_above line p (Unequal column) = omega arith
proof_above line p Excess = omega arith

check_above : (f : CheckFault) → 1 ≤ (check_report f).cause
check_above (Law f) = law_above f
check_above (Case f) = case_above f
check_above (Text f) = text_above _ f
check_above Sizes = omega arith
check_above (Missing p) = omega arith
check_above (Repeated line p) = omega arith
check_above (Absent p) = omega arith
check_above (Unproved line p f) = proof_above line p f

accepted_by : (r : Result Accepted CheckFault) → verdict_cause r ≡ 0 → (a : Accepted) × (r ≡ Ok a)
accepted_by (Ok a) e = (a, refl)
accepted_by (Err f) e = absurd (omega (arith, check_above f))

pub told_form : (text : List ℕ) (r : ℕ) → r ≡ verdict_cause (judged text) → AcceptedForm text → Iff (r ≡ 0) (Acceptable text)
unfolding AcceptedForm
told_form text r e h = (
  (λ z. h.0 (accepted_by (judged text) (sym e ∙ z))),
  (λ s. e ∙ ap verdict_cause (h.1 s).1),
)

pub told_sound : (text : List ℕ) (r : ℕ) → r ≡ verdict_cause (judged text) → AcceptedSound text → r ≡ 0 → InvariantText text
unfolding AcceptedSound
told_sound text r e h z = let a = accepted_by (judged text) (sym e ∙ z) in h a.0 a.1
