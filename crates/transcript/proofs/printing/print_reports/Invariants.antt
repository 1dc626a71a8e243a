use Rattle.std.proofs.Common.{◌≡◌, ◌++◌, string_bytes, take}
use Rattle.std.specs.List.{flat_map}
use Rattle.transcript.specs.Format.{report_line}
use Rattle.transcript.proofs.printing.print_reports.Given as goal

abbrev pub invariant-loop-report : goal.invariant-loop-report
invariant-loop-report l = string_bytes l.text ≡ string_bytes l.initial.text ++ flat_map report_line (take l.report-index l.reports)
