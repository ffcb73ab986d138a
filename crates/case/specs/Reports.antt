-- What a fault of a case text tells.
use Rattle.causes.specs.Causes.{number_of}
use Rattle.causes.specs.declared.Cause.TheVariants as Cause
use Rattle.report.specs.Reports.{report_at, text_report}
use Rattle.report.specs.declared.verdict.Layer.TheVariants.{Case}
use Rattle.report.specs.declared.verdict.Report.{Report}
use Rattle.case.specs.declared.faults.CaseFault.{CaseFault}
use Rattle.case.specs.declared.faults.CaseFault.TheVariants.{Text, Order, Narrow}

abbrev pub case_report : CaseFault → Report
case_report (Text fault) = text_report Case fault
case_report (Order p) = report_at Case p.line p.field (number_of Cause.Order)
case_report (Narrow p) = report_at Case p.line p.field (number_of Cause.Narrow)
