-- What a fault of a text tells: the layer that reads it, its place and its cause.
use Rattle.std.specs.Prelude.{ℕ}
use Rattle.causes.specs.Causes.{number_of}
use Rattle.causes.specs.declared.Cause.{Cause}
use Rattle.text.specs.Causes.{field_cause}
use Rattle.text.specs.declared.faults.TextFault.{TextFault}
use Rattle.text.specs.declared.faults.TextFault.TheVariants.{Size, Line, Field}
use Rattle.report.specs.declared.verdict.Layer.{Layer}
use Rattle.report.specs.declared.verdict.Report.{Report}

-- a cause at a line and a field, of a region and a face
abbrev pub report_at_pair : Layer → ℕ → ℕ → ℕ → ℕ → ℕ → Report
report_at_pair layer line field region face cause = record { layer = layer; line = line; field = field; region = region; face = face; cause = cause }

-- a cause at a line and a field, with no region and no face
abbrev pub report_at : Layer → ℕ → ℕ → ℕ → Report
report_at layer line field cause = report_at_pair layer line field 0 0 cause

abbrev pub text_report : Layer → TextFault → Report
text_report layer Size = report_at layer 0 0 (number_of Cause.Size)
text_report layer (Line line) = report_at layer line 0 (number_of Cause.Line)
text_report layer (Field p fault) = report_at layer p.line p.field (number_of (field_cause fault))
