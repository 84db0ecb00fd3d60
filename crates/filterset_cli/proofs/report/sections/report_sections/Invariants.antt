use Rattle.std.proofs.Common.{map, string_bytes}
use Rattle.filterset_cli.specs.{Library.background_of, Report.Sections}
use Rattle.filterset_record.specs.Rows.{filterset_row}
use Rattle.filterset_cli.proofs.report.sections.report_sections.Given as goal

-- the sections of the filtersets so far are written
abbrev pub invariant-loop-index : goal.invariant-loop-index
invariant-loop-index l = Sections l.setting.command (background_of l.setting) 0 (map (λ p. filterset_row p.1) l.yielded) l.all_accepted (string_bytes l.lines)
