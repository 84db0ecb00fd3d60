-- What a remark says.
use Rattle.std.specs.Prelude.{Option, codes, option_map, string_bytes}
use Rattle.filterset_faults.specs.Faults.{code_of, message_of, span_of, label_of, help_of}
use Rattle.filterset_faults.specs.declared.{span.SourceSpan.SourceSpan, error.ParseSingleError.ParseSingleError}
use Rattle.filterset_display.specs.declared.remark.Severity.{Severity, TheVariants.Error, TheVariants.Warning}
use Rattle.filterset_display.specs.{declared.remark.Remark.Remark, Columns.Text}

abbrev pub word_of : Severity → Text
word_of Error = codes "error"
word_of Warning = codes "warning"

-- what is said, how bad it is, and of which part of a text
pub record RemarkRow : Type 0 where
  pub severity : Severity
  pub code : Text
  pub message : Text
  pub label : Option Text
  pub help : Option Text
  pub span : Option SourceSpan

abbrev pub said : Severity → Text → Text → Option Text → Option Text → Option SourceSpan → RemarkRow
said severity code message label help at =
    record { severity = severity; code = code; message = message; label = label; help = help; span = at }

abbrev pub remark_row : Remark → RemarkRow
remark_row r = said r.severity r.code.now (string_bytes r.message) (option_map (λ l. string_bytes l) r.label)
    (option_map (λ h. string_bytes h) r.help) r.span

-- what is said of a fault
abbrev pub fault_remark : ParseSingleError → RemarkRow
fault_remark fault = said Error (code_of fault) (message_of fault) (label_of fault) (help_of fault) (span_of fault)
