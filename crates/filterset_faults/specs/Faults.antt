-- The table of faults: code, message, span, label and help.
use Rattle.std.specs.Prelude.{List, ℕ, codes, ◌++◌, Option, Some, None}
use Rattle.filterset_glob.specs.FaultTexts.{glob_fault_text}
use Rattle.filterset_faults.specs.Texts.{kind_text, reason_text}
use Rattle.filterset_faults.specs.declared.{span.SourceSpan.SourceSpan, error.ParseSingleError.ParseSingleError}
use Rattle.filterset_faults.specs.declared.error.ParseSingleError.TheVariants as fault

abbrev pub code_of : ParseSingleError → List ℕ
code_of (fault.InvalidGlob span error) = codes "InvalidGlob"
code_of (fault.BannedPredicate span kind reason) = codes "BannedPredicate"
code_of (fault.InvalidRegexWithoutMessage span) = codes "InvalidRegexWithoutMessage"
code_of (fault.ExpectedCloseRegex span) = codes "ExpectedCloseRegex"
code_of (fault.InvalidOrOperator span) = codes "InvalidOrOperator"
code_of (fault.InvalidAndOperator span) = codes "InvalidAndOperator"
code_of (fault.UnexpectedArgument span) = codes "UnexpectedArgument"
code_of (fault.UnexpectedComma span) = codes "UnexpectedComma"
code_of (fault.InvalidString span) = codes "InvalidString"
code_of (fault.ExpectedOpenParenthesis span) = codes "ExpectedOpenParenthesis"
code_of (fault.ExpectedCloseParenthesis span) = codes "ExpectedCloseParenthesis"
code_of (fault.InvalidEscapeCharacter span) = codes "InvalidEscapeCharacter"
code_of (fault.ExpectedExpr span) = codes "ExpectedExpr"
code_of (fault.ExprFoundBinaryOp span op suggest) = codes "ExprFoundBinaryOp"
code_of (fault.ExprFoundUnaryOp span op suggest) = codes "ExprFoundUnaryOp"
code_of (fault.ExpectedEndOfExpression span) = codes "ExpectedEndOfExpression"
code_of (fault.NoPackageMatch span) = codes "NoPackageMatch"
code_of (fault.NoGroupMatch span) = codes "NoGroupMatch"
code_of (fault.NoBinaryIdMatch span) = codes "NoBinaryIdMatch"
code_of (fault.NoBinaryNameMatch span) = codes "NoBinaryNameMatch"
code_of (fault.InvalidPlatformArgument span) = codes "InvalidPlatformArgument"
code_of (fault.UnsupportedExpression span) = codes "UnsupportedExpression"
code_of fault.Unknown = codes "Unknown"

abbrev pub message_of : ParseSingleError → List ℕ
message_of (fault.InvalidGlob span error) = codes "invalid glob"
message_of (fault.BannedPredicate span kind reason) =
    codes "predicate not allowed in `" ++ kind_text kind ++ codes "` expressions"
message_of (fault.InvalidRegexWithoutMessage span) = codes "invalid regex"
message_of (fault.ExpectedCloseRegex span) = codes "expected close regex"
message_of (fault.InvalidOrOperator span) = codes "invalid OR operator"
message_of (fault.InvalidAndOperator span) = codes "invalid AND operator"
message_of (fault.UnexpectedArgument span) = codes "unexpected argument"
message_of (fault.UnexpectedComma span) = codes "unexpected comma"
message_of (fault.InvalidString span) = codes "invalid string"
message_of (fault.ExpectedOpenParenthesis span) = codes "expected open parenthesis"
message_of (fault.ExpectedCloseParenthesis span) = codes "expected close parenthesis"
message_of (fault.InvalidEscapeCharacter span) = codes "invalid escape character"
message_of (fault.ExpectedExpr span) = codes "expected expression"
message_of (fault.ExprFoundBinaryOp span op suggest) = codes "expected expression, found `" ++ op.now ++ codes "`"
message_of (fault.ExprFoundUnaryOp span op suggest) = codes "expected expression, found `" ++ op.now ++ codes "`"
message_of (fault.ExpectedEndOfExpression span) = codes "expected end of expression"
message_of (fault.NoPackageMatch span) = codes "operator didn't match any packages"
message_of (fault.NoGroupMatch span) = codes "operator didn't match any test groups"
message_of (fault.NoBinaryIdMatch span) = codes "operator didn't match any binary IDs"
message_of (fault.NoBinaryNameMatch span) = codes "operator didn't match any binary names"
message_of (fault.InvalidPlatformArgument span) = codes "invalid argument for platform"
message_of (fault.UnsupportedExpression span) = codes "unsupported expression"
message_of fault.Unknown = codes "unknown parsing error"

abbrev pub span_of : ParseSingleError → Option SourceSpan
span_of (fault.InvalidGlob span error) = Some span
span_of (fault.BannedPredicate span kind reason) = Some span
span_of (fault.InvalidRegexWithoutMessage span) = Some span
span_of (fault.ExpectedCloseRegex span) = Some span
span_of (fault.InvalidOrOperator span) = Some span
span_of (fault.InvalidAndOperator span) = Some span
span_of (fault.UnexpectedArgument span) = Some span
span_of (fault.UnexpectedComma span) = Some span
span_of (fault.InvalidString span) = Some span
span_of (fault.ExpectedOpenParenthesis span) = Some span
span_of (fault.ExpectedCloseParenthesis span) = Some span
span_of (fault.InvalidEscapeCharacter span) = Some span
span_of (fault.ExpectedExpr span) = Some span
span_of (fault.ExprFoundBinaryOp span op suggest) = Some span
span_of (fault.ExprFoundUnaryOp span op suggest) = Some span
span_of (fault.ExpectedEndOfExpression span) = Some span
span_of (fault.NoPackageMatch span) = Some span
span_of (fault.NoGroupMatch span) = Some span
span_of (fault.NoBinaryIdMatch span) = Some span
span_of (fault.NoBinaryNameMatch span) = Some span
span_of (fault.InvalidPlatformArgument span) = Some span
span_of (fault.UnsupportedExpression span) = Some span
span_of fault.Unknown = None

abbrev pub label_of : ParseSingleError → Option (List ℕ)
label_of (fault.InvalidGlob span error) = Some (glob_fault_text error)
label_of (fault.BannedPredicate span kind reason) = Some (reason_text reason)
label_of (fault.InvalidRegexWithoutMessage span) = Some (codes "invalid regex")
label_of (fault.ExpectedCloseRegex span) = Some (codes "missing `/`")
label_of (fault.InvalidOrOperator span) = Some (codes "expected `|`, `+`, or `or`")
label_of (fault.InvalidAndOperator span) = Some (codes "expected `&` or `and`")
label_of (fault.UnexpectedArgument span) = Some (codes "this set doesn't take an argument")
label_of (fault.UnexpectedComma span) = Some (codes "this set doesn't take multiple arguments")
label_of (fault.InvalidString span) = Some (codes "invalid string")
label_of (fault.ExpectedOpenParenthesis span) = Some (codes "missing `(`")
label_of (fault.ExpectedCloseParenthesis span) = Some (codes "missing `)`")
label_of (fault.InvalidEscapeCharacter span) = Some (codes "invalid escape character")
label_of (fault.ExpectedExpr span) = Some (codes "missing expression")
label_of (fault.ExprFoundBinaryOp span op suggest) = Some (codes "`" ++ suggest.now ++ codes "` is a binary operator")
label_of (fault.ExprFoundUnaryOp span op suggest) = Some (codes "`" ++ op.now ++ codes "` is not a recognized operator")
label_of (fault.ExpectedEndOfExpression span) = Some (codes "unparsed input")
label_of (fault.NoPackageMatch span) = Some (codes "no packages matched this")
label_of (fault.NoGroupMatch span) = Some (codes "no test groups matched this")
label_of (fault.NoBinaryIdMatch span) = Some (codes "no binary IDs matched this")
label_of (fault.NoBinaryNameMatch span) = Some (codes "no binary names matched this")
label_of (fault.InvalidPlatformArgument span) = Some (codes "expected \"target\" or \"host\"")
label_of (fault.UnsupportedExpression span) = Some (codes "contained an unsupported expression")
label_of fault.Unknown = None

abbrev pub help_of : ParseSingleError → Option (List ℕ)
help_of (fault.InvalidGlob span error) = None
help_of (fault.BannedPredicate span kind reason) = None
help_of (fault.InvalidRegexWithoutMessage span) = None
help_of (fault.ExpectedCloseRegex span) = None
help_of (fault.InvalidOrOperator span) = None
help_of (fault.InvalidAndOperator span) = None
help_of (fault.UnexpectedArgument span) = None
help_of (fault.UnexpectedComma span) = None
help_of (fault.InvalidString span) = None
help_of (fault.ExpectedOpenParenthesis span) = None
help_of (fault.ExpectedCloseParenthesis span) = None
help_of (fault.InvalidEscapeCharacter span) = None
help_of (fault.ExpectedExpr span) = None
help_of (fault.ExprFoundBinaryOp span op suggest) =
    Some (codes "use `<expr> " ++ suggest.now ++ codes " <expr>` instead")
help_of (fault.ExprFoundUnaryOp span op suggest) = Some (codes "use `" ++ suggest.now ++ codes " <expr>` instead")
help_of (fault.ExpectedEndOfExpression span) = None
help_of (fault.NoPackageMatch span) = None
help_of (fault.NoGroupMatch span) = None
help_of (fault.NoBinaryIdMatch span) = None
help_of (fault.NoBinaryNameMatch span) = None
help_of (fault.InvalidPlatformArgument span) = None
help_of (fault.UnsupportedExpression span) = None
help_of fault.Unknown = None
