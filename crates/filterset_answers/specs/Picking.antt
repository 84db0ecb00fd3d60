-- What `list` and `compare` write, and what a question is answered.
use Rattle.std.specs.Prelude.{◌≡◌, List, [], ◌∷◌, Bool, true, Option, Some, None}
use Rattle.std.specs.List.{AllZip, list_any}
use Rattle.serde_json.specs.Data.{Data}
use Rattle.filterset_display.specs.{Columns.Text, declared.remark.Form.Form}
use Rattle.filterset_expression.specs.declared.expression.CompiledExpr.{CompiledExpr}
use Rattle.filterset_faults.specs.declared.span.SourceSpan.{SourceSpan}
use Rattle.filterset_grammar.specs.Tree.{Tree}
use Rattle.filterset_language.specs.Views.{tree_of}
use Rattle.filterset_listing.specs.Comparing.{IsBinaryDifference, TellsDifference, TellsUnknown}
use Rattle.filterset_listing.specs.{ComparisonText.comparison_text, ListJson.IsListJson}
use Rattle.filterset_listing.specs.ListText.{has_unknown, list_text}
use Rattle.filterset_listing.specs.{Pickers.tree_picker, declared.binary.AskedBinary.AskedBinary}
use Rattle.filterset_listing.specs.declared.comparing.BinaryDifference.{BinaryDifference}
use Rattle.filterset_listing.specs.declared.listing.BinaryPicks.{BinaryPicks}
use Rattle.nextest_filtering.specs.declared.filterset.Filterset.{Filterset}
use Rattle.filterset_answers.specs.{Compiled.AnswersTexts, Compiled.Telling, Overriding.CountsOverrides, Picks.ArePicks}
use Rattle.filterset_entries.specs.{Endings.differing_ending, Endings.unknown_ending, Entries.question_rows}
use Rattle.filterset_entries.specs.declared.{question.Question.Question, setting.Setting.Setting, text.Ending.Ending}
use Rattle.filterset_entries.specs.declared.question.Question.TheVariants as questions

abbrev pub compiled_of : Filterset → CompiledExpr
compiled_of filterset = filterset.compiled

abbrev pub parsed_of : Filterset → Tree SourceSpan
parsed_of filterset = tree_of filterset.parsed

-- what is picked is written for people, or in the shape of the list, where that is kept, beside what is picked without the
-- default filter
abbrev pub WritesList : Option Data → (List BinaryPicks → Type 0) → List BinaryPicks → Text → Type 0
WritesList None AreBeyond all text = text ≡ list_text all
WritesList (Some list) AreBeyond all text = (beyond : List BinaryPicks) × AreBeyond beyond × IsListJson all beyond list text

-- the answer is the tests that a runner runs
abbrev pub Lists : (setting : Setting) → Bool → Option Data → List AskedBinary → Telling setting
Lists setting ignores_default kept binaries basis trees ending text = (all : List BinaryPicks)
    × ArePicks setting ignores_default binaries basis trees all
    × WritesList kept (ArePicks setting true binaries basis trees) all text
    × (ending ≡ unknown_ending (list_any has_unknown all))

-- the answer is how two trees differ, and ends by whether they may differ on one of the binaries, and a test is unknown
abbrev pub Compares : (setting : Setting) → Bool → List AskedBinary → Telling setting
Compares setting has_names binaries basis (one ∷ other ∷ []) ending text =
    let picker = tree_picker setting.graph.now basis.default basis.overrides in
    (all : List BinaryDifference) × (differ : Bool) × (is_unknown : Bool)
    × AllZip (IsBinaryDifference (picker one) (picker other)) binaries all × (text ≡ comparison_text has_names all)
    × TellsDifference (picker one) (picker other) binaries differ
    × TellsUnknown (picker one) (picker other) binaries is_unknown × (ending ≡ differing_ending differ is_unknown)
Compares setting has_names binaries basis _ ending text = ⊥

-- what is told where all texts are filtersets
abbrev pub Tells : (setting : Setting) → Question → Option Data → List AskedBinary → Telling setting
Tells setting (questions.List texts ignores_default) kept binaries = Lists setting ignores_default kept binaries
Tells setting (questions.Compare first second has_names) kept binaries = Compares setting has_names binaries
Tells setting (questions.Overrides texts) kept binaries = CountsOverrides setting binaries

-- the answer to a question
abbrev pub AnswersQuestion : Form → Setting → Question → Option Data → List AskedBinary → Ending → Text → Type 0
AnswersQuestion form setting question kept binaries =
    AnswersTexts form setting (question_rows question) (Tells setting question kept binaries)
