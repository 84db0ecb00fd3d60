-- What `overrides` writes.
use Rattle.std.specs.Prelude.{◌≡◌, ◌==◌, ◌||◌, Bool, true, List, [], ◌++◌, Option, Some, None, codes, is_none, length, not}
use Rattle.std.specs.List.{AllZip, count_by, list_any, sum_by}
use Rattle.filterset_display.specs.{Columns.Text, declared.remark.Form.Form}
use Rattle.filterset_expression.specs.declared.{expression.CompiledExpr.CompiledExpr, query.TestQuery.TestQuery}
use Rattle.filterset_faults.specs.declared.span.SourceSpan.{SourceSpan}
use Rattle.filterset_grammar.specs.Tree.{Tree}
use Rattle.filterset_graph.specs.declared.package.PackageMetadata.{PackageMetadata}
use Rattle.filterset_listing.specs.{Explaining.IsExplanation, ExplanationText.explanation_text}
use Rattle.filterset_listing.specs.ListText.{has_unknown, is_open, some_text}
use Rattle.filterset_listing.specs.{Listing.uncounted_of, declared.binary.AskedBinary.AskedBinary}
use Rattle.filterset_listing.specs.declared.explaining.{Explanation.Explanation, candidate.Candidate.TheVariants.Test}
use Rattle.filterset_listing.specs.declared.listing.BinaryPicks.{BinaryPicks}
use Rattle.filterset_overrides.specs.{Applying.tests_of, Applying.verdict, Counting.IsTable}
use Rattle.filterset_overrides.specs.{ExplainedText.test_overrides_text, Giving.Explains, TableText.override_table_text}
use Rattle.filterset_overrides.specs.declared.applying.ExplainedOverride.{ExplainedOverride}
use Rattle.filterset_overrides.specs.declared.asked.{AskedOverride.AskedOverride, ListedBinary.ListedBinary}
use Rattle.filterset_overrides.specs.declared.counting.{OverrideRow.OverrideRow, OverrideTable.OverrideTable}
use Rattle.filterset_overrides.specs.declared.explaining.TestOverrides.{TestOverrides}
use Rattle.nextest_filtering.specs.declared.filterset.Filterset.{Filterset}
use Rattle.filterset_entries.specs.{Checked.text_row, Endings.unknown_ending}
use Rattle.filterset_entries.specs.declared.setting.{OverrideEntry.OverrideEntry, Setting.Setting}
use Rattle.filterset_entries.specs.declared.text.{Ending.Ending, TextEntry.TextEntry}
use Rattle.filterset_answers.specs.Compiled.{AnswersTexts, IsAskedFor, IsFilterFor, IsTreeOf, Telling}
use Rattle.filterset_answers.specs.Picks.{ArePicks}

-- ---- counting tests

-- the binary with the tests that are picked of it
abbrev pub IsListed : BinaryPicks → ListedBinary → Type 0
IsListed picks listed = (listed.query ≡ picks.binary.query) × (listed.tests.now ≡ picks.tests.items)

-- the tests that are not counted, though they may be picked
abbrev pub uncounted_text : List BinaryPicks → Text
uncounted_text all =
    some_text (codes "not counted: ") (sum_by (λ (s : BinaryPicks). length s.unknown.items) all)
    (codes " tests that -E may pick\n")
    ++ (some_text (codes "not counted: tests of ") (count_by is_open all) (codes " skipped binaries\n")
    ++ some_text (codes "not counted: ") (sum_by (λ s. length (uncounted_of s)) all)
    (codes " tests left out by --run-ignored\n"))

-- it is unknown of a test whether one of the overrides applies to it, or whether it is picked
abbrev pub is_unknown : OverrideTable → List BinaryPicks → Bool
is_unknown table all =
    list_any (λ (r : OverrideRow). not (r.tests.unknown == 0)) table.rows.items || list_any has_unknown all

-- to how many of the picked tests each override applies, and how many get each of its settings from it; and below that
-- which tests are not counted
abbrev pub Counts : List PackageMetadata → CompiledExpr → List AskedOverride → List BinaryPicks → Ending → Text → Type 0
Counts packages default asked all ending text = (listed : List ListedBinary) × (table : OverrideTable)
    × AllZip IsListed all listed × IsTable packages default (tests_of listed) asked table
    × (text ≡ override_table_text table ++ uncounted_text all)
    × (ending ≡ unknown_ending (is_unknown table all))

-- the answer is how the overrides of the setting apply to the tests that one of the trees picks, or to all tests if there
-- is no tree
abbrev pub CountsOverrides : (setting : Setting) → List AskedBinary → Telling setting
CountsOverrides setting binaries basis trees ending text = (all : List BinaryPicks) × (asked : List AskedOverride)
    × ArePicks setting true binaries basis trees all × AllZip (IsAskedFor setting) setting.overrides.now asked
    × Counts setting.graph.now basis.default asked all ending text

-- ---- explaining a test

-- why the filter picks the test or not, if there is a filter: the value of each node of its tree
abbrev pub IsReason : TestQuery → Setting → CompiledExpr → Option TextEntry → Text → Type 0
IsReason query setting default None reason = reason ≡ []
IsReason query setting default (Some text) reason = (tree : Tree SourceSpan) × (explanation : Explanation)
    × IsTreeOf setting (text_row text) tree
    × IsExplanation (Test query) [] setting.graph.now default tree explanation × (reason ≡ explanation_text explanation)

-- The answer is how each override of the setting applies to the test, and why its filter picks the test or not, and what
-- gives the test each of its settings. It ends by whether it is unknown whether an override applies.
abbrev pub TellsOverrides : TestQuery → (setting : Setting) → Telling setting
TellsOverrides query setting basis trees ending text =
    (asked : List AskedOverride) × (explained : TestOverrides) × (reasons : List Text)
    × AllZip (IsAskedFor setting) setting.overrides.now asked
    × Explains setting.graph.now basis.default (query.binary_query, query.test_name.now) asked setting.profiles.now explained
    × AllZip (λ (entry : OverrideEntry). IsReason query setting basis.default entry.filter) setting.overrides.now reasons
    × (text ≡ test_overrides_text explained reasons)
    × (ending ≡ unknown_ending (list_any (λ (e : ExplainedOverride). is_none (verdict e.application)) explained.overrides.items))

-- what is answered of the overrides of the setting and the test
abbrev pub AnswersOverrides : Form → Setting → TestQuery → Ending → Text → Type 0
AnswersOverrides form setting query = AnswersTexts form setting [] (TellsOverrides query setting)

-- ---- what only contracts of private functions cite

-- the same of each override whose filter is this filterset
abbrev pub IsReasonFor : TestQuery → Setting → CompiledExpr → Option Filterset → Text → Type 0
IsReasonFor query setting default made reason = (entry : OverrideEntry)
    → IsFilterFor setting.graph.now setting.groups.now entry made → IsReason query setting default entry.filter reason
