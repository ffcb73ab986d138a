-- What a fault of a law text tells.
use Rattle.causes.specs.Causes.{number_of}
use Rattle.causes.specs.declared.Cause.TheVariants as Cause
use Rattle.report.specs.Reports.{report_at, text_report}
use Rattle.report.specs.declared.verdict.Layer.TheVariants.{Law}
use Rattle.report.specs.declared.verdict.Report.{Report}
use Rattle.laws.specs.declared.faults.LawFault.{LawFault}
use Rattle.laws.specs.declared.faults.LawFault.TheVariants.{Text, Word, Order}

abbrev pub law_report : LawFault → Report
law_report (Text fault) = text_report Law fault
law_report (Word line) = report_at Law line 1 (number_of Cause.Word)
law_report (Order p) = report_at Law p.line p.field (number_of Cause.Order)
