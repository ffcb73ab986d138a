-- What a fault of check tells: the layer, its place and its cause.
use Rattle.std.specs.Prelude.{ℕ}
use Rattle.case.specs.Reports.{case_report}
use Rattle.causes.specs.Causes.{number_of}
use Rattle.causes.specs.declared.Cause.{Cause}
use Rattle.certificate.specs.Faults.{proof_cause}
use Rattle.certificate.specs.declared.fault.ProofFault.{ProofFault}
use Rattle.certificate.specs.declared.fault.ProofFault.TheVariants.{Sizes as OtherSizes, Missing as NoPair, Length, Range, Unequal, Excess}
use Rattle.laws.specs.Reports.{law_report}
use Rattle.report.specs.Reports.{report_at, report_at_pair, text_report}
use Rattle.report.specs.declared.verdict.Layer.TheVariants.{Proof}
use Rattle.report.specs.declared.verdict.Report.{Report}
use Rattle.checking.specs.declared.faults.CheckFault.{CheckFault}
use Rattle.checking.specs.declared.faults.CheckFault.TheVariants.{Law, Case, Text, Sizes, Missing, Repeated, Absent, Unproved}
use Rattle.checking.specs.declared.faults.Pair.{Pair}

-- a cause at a line and a field, of a pair of region and face
abbrev pub pair_report : ℕ → ℕ → Pair → ℕ → Report
pair_report line field p cause = report_at_pair Proof line field p.region p.face cause

-- the field told with numbers that do not prove a face: an unequal column; check gives only the last two faults
abbrev pub proof_field : ProofFault → ℕ
proof_field (Unequal column) = column
proof_field OtherSizes = 0
proof_field NoPair = 0
proof_field Length = 0
proof_field Range = 0
proof_field Excess = 0

abbrev pub proof_report : ℕ → Pair → ProofFault → Report
proof_report line p fault = pair_report line (proof_field fault) p (number_of (proof_cause fault))

-- a fault of the law text or of the case text tells what it told there
abbrev pub check_report : CheckFault → Report
check_report (Law fault) = law_report fault
check_report (Case fault) = case_report fault
check_report (Text fault) = text_report Proof fault
check_report Sizes = report_at Proof 0 0 (number_of Cause.Sizes)
check_report (Missing p) = report_at Proof p.line p.field (number_of Cause.Missing)
check_report (Repeated line p) = pair_report line 0 p (number_of Cause.Repeated)
check_report (Absent p) = pair_report 0 0 p (number_of Cause.Absent)
check_report (Unproved line p fault) = proof_report line p fault
