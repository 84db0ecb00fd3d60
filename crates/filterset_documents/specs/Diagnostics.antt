-- The diagnostics of documents.
use Rattle.std.specs.Prelude.{◌≡◌, ◌++◌, ◌-◌, ℕ, List, [], Option, None, Some, MatchOption, false, codes, is_some, length, string_bytes, unwrap_or}
use Rattle.std.specs.{List.AllZip, Option.option_map_or}
use Rattle.serde_json.specs.Data.{Data, number, unsigned, string, object, member, no_members}
use Rattle.toml.specs.Errors.{span_start, span_end}
use Rattle.filterset_entries.specs.{Checked.HasFaults, Checked.TextRow, Names.KnowsNames}
use Rattle.filterset_entries.specs.Placements.{Placement, file_part}
use Rattle.filterset_entries.specs.{Unread.AreUnreadRemarks, declared.names.Names.Names}
use Rattle.filterset_display.specs.Remarks.{RemarkRow}
use Rattle.filterset_display.specs.declared.remark.Severity.{Severity, TheVariants.Error, TheVariants.Warning}
use Rattle.filterset_display.specs.declared.source.FileSpan.{FileSpan}
use Rattle.filterset_display.specs.{Positions.Text, declared.positions.Encoding.Encoding}
use Rattle.filterset_faults.specs.{Span.span, declared.span.SourceSpan.SourceSpan}
use Rattle.filterset_configuration.specs.{Places.file_span, Wrong.AreWrongValues, declared.wrong.WrongValue.WrongValue}
use Rattle.filterset_sources.specs.declared.refusal.SourceRefusal.{SourceRefusal, TheVariants.NotToml}
use Rattle.filterset_sources.specs.declared.refusal.SourceRefusal.TheVariants as sources
use Rattle.filterset_documents.specs.{Contents.ContentRow, Joins.Joins, Ranges.IsRange}

-- ---- a diagnostic

-- the protocol's number of a severity
abbrev pub severity_number : Severity → ℕ
severity_number Error = 1
severity_number Warning = 2

-- an error or a warning with a code and a message, in a range
abbrev pub diagnostic_data : Severity → Text → Text → Data → Data
diagnostic_data severity code message range =
    object (member (codes "code") (string code) (member (codes "message") (string message) (member (codes "range") range
    (member (codes "severity") (number (unsigned (severity_number severity)))
    (member (codes "source") (string (codes "filterset")) no_members)))))

-- the diagnostic with this code and message, at a span of the text
abbrev pub IsDiagnostic : Encoding → Text → Severity → SourceSpan → Text → Text → Data → Type 0
IsDiagnostic encoding text severity at code message d =
    (range : Data) × IsRange encoding text at range × (d ≡ diagnostic_data severity code message range)

-- ---- faults

-- a text in a line of its own, after these words
abbrev pub further_line : Text → Option Text → Text
further_line words None = []
further_line words (Some text) = codes "\n" ++ (words ++ text)

-- the message of a remark, and below it the label and the help, if there are any, a line each
abbrev pub remark_text : RemarkRow → Text
remark_text r = r.message ++ further_line [] r.label ++ further_line (codes "help: ") r.help

-- the diagnostic of a remark at a span of the text
abbrev pub IsRemarkAt : Encoding → Text → SourceSpan → RemarkRow → Data → Type 0
IsRemarkAt encoding text at r d = IsDiagnostic encoding text r.severity at r.code (remark_text r) d

-- where a span of a filterset at this place is in the file; the start of the file for nothing
abbrev pub fault_span : Option Placement → Option SourceSpan → SourceSpan
fault_span place at = option_map_or (λ (part : FileSpan). part.span) (file_part place at) (span 0 0)

-- a diagnostic for each fault of a filterset that is at this place, in their order
abbrev pub AreDiagnosed : Encoding → Text → Option Placement → List RemarkRow → List Data → Type 0
AreDiagnosed encoding text place faults ds =
    AllZip (λ fault d. IsRemarkAt encoding text (fault_span place fault.span) fault d) faults ds

-- the diagnostics of a filterset: of its faults, as far as names are known
abbrev pub RowDiagnostics : Encoding → Text → Names → TextRow → List Data → Type 0
RowDiagnostics encoding text names row ds =
    (faults : List RemarkRow) × HasFaults names row faults × AreDiagnosed encoding text row.place faults ds

-- ---- wrong values

-- what is said of a value at this path, which must be as expected
abbrev pub wrong_text : Text → Text → Text
wrong_text path expected = codes "`" ++ (path ++ (codes "` must be " ++ expected))

-- where the text of a wrong value is in the file; the start of the file if it was not found
abbrev pub value_span : WrongValue → SourceSpan
value_span w = option_map_or (λ p. file_span p (span 0 (length (string_bytes w.text)))) w.place (span 0 0)

-- the warning of a wrong value
abbrev pub IsValueWarning : Encoding → Text → WrongValue → Data → Type 0
IsValueWarning encoding text w d = IsDiagnostic encoding text Warning (value_span w) (codes "InvalidValue")
    (wrong_text (string_bytes w.path) w.expected.now) d

-- a warning for each of the wrong values of the profiles, in their order
abbrev pub AreValueWarnings : Encoding → Text → List Data → Type 0
AreValueWarnings encoding text ds =
    (values : List WrongValue) × AreWrongValues text values × AllZip (IsValueWarning encoding text) values ds

-- ---- what nextest does not read

-- a warning for each remark on what nextest does not read of a configuration with these filtersets, in their order, at its
-- span of the file, or at the start
abbrev pub AreUnreadWarnings : Encoding → Text → List TextRow → List Data → Type 0
AreUnreadWarnings encoding text rows ds = (remarks : List RemarkRow) × AreUnreadRemarks text rows remarks
    × AllZip (λ r d. IsRemarkAt encoding text (unwrap_or r.span (span 0 0)) r d) remarks ds

-- ---- documents

-- The diagnostics of what a document holds: those of its filtersets, one after the other, and then the warnings of the other
-- values of a configuration, and of what nextest does not read of it. The groups of a configuration are known, and no other
-- names are.
abbrev pub DiagnosesContent : Encoding → Text → ContentRow → List Data → Type 0
DiagnosesContent encoding text content ds = (names : Names) × (faults warnings : List Data)
    × KnowsNames false [] (is_some content.groups) (unwrap_or content.groups []) names
    × Joins (RowDiagnostics encoding text names) content.rows faults
    × MatchOption content.groups (warnings ≡ []) (λ _. (values unread : List Data) × AreValueWarnings encoding text values
    × AreUnreadWarnings encoding text content.rows unread × (warnings ≡ values ++ unread)) × (ds ≡ faults ++ warnings)

-- The diagnostic of a text that is no configuration: at the span of TOML's error, with its message; or of a wrong value,
-- at the start.
abbrev pub IsRefusalAt : Encoding → Text → SourceRefusal → Data → Type 0
IsRefusalAt encoding text (NotToml error line) d =
    (message : Text) × IsDiagnostic encoding text Error (span (span_start error) (span_end error - span_start error)) (codes "toml") message d
IsRefusalAt encoding text (sources.WrongValue wrong) d =
    IsDiagnostic encoding text Error (span 0 0) (codes "configuration") (wrong_text (string_bytes wrong.path) wrong.expected.now) d
IsRefusalAt encoding text refusal d = ⊥
