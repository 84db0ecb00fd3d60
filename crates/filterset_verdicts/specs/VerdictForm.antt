-- Verdicts in the form that is asked for.
use Rattle.std.specs.Prelude.{◌≡◌, ◌++◌, Bool, List, codes}
use Rattle.serde_json.specs.{Data.Data, Written.compact_text}
use Rattle.filterset_display.specs.{declared.remark.Form.Form, declared.remark.Form.TheVariants.Json, Columns.Text}
use Rattle.filterset_deciding.specs.declared.{deciding.Verdict.Verdict, question.Question.Question}
use Rattle.filterset_expression.specs.declared.expression.CompiledExpr.{CompiledExpr}
use Rattle.filterset_faults.specs.declared.span.SourceSpan.{SourceSpan}
use Rattle.filterset_grammar.specs.Tree.{Tree}
use Rattle.filterset_graph.specs.declared.package.PackageMetadata.{PackageMetadata}
use Rattle.filterset_verdicts.specs.{Reasons.AreReasons, VerdictJson.IsVerdictData, VerdictText.IsVerdictText}

-- a JSON object in a line, or lines for people
abbrev pub IsVerdictIn : Form → Question → Bool → List PackageMetadata → Verdict → Text → Type 0
IsVerdictIn Json question is_listed packages verdict text =
    (d : Data) × IsVerdictData question is_listed packages verdict d × (text ≡ compact_text d ++ codes "\n")
IsVerdictIn form question is_listed packages verdict text = IsVerdictText question is_listed packages verdict text

-- The same, and in lines for people below its test why each filterset picks it or not. The filtersets have these trees, and
-- this is the default filter.
abbrev pub IsExplainedIn : Form → Question → Bool → List PackageMetadata → CompiledExpr → List (Tree SourceSpan) → Verdict
    → Text → Type 0
IsExplainedIn Json question is_listed packages default trees verdict text = IsVerdictIn Json question is_listed packages verdict text
IsExplainedIn form question is_listed packages default trees verdict text = (front rest : Text)
    × IsVerdictIn form question is_listed packages verdict front × AreReasons packages default trees verdict rest
    × (text ≡ front ++ rest)
