-- What questions about filtersets and every possible test are answered.
use Rattle.std.specs.Prelude.{◌≡◌, ◌↔◌, ◌⊎◌, ◌<◌, ◌+◌, ◌*◌, ◌^◌, ℕ, [], ◌∷◌, true, false, Contains, List, MatchOption, Option, length, map}
use Rattle.std.specs.{Borrow.Bor, List.AllZip}
use Rattle.filterset_entries.specs.{Checked.TextRow, Checked.text_row, declared.setting.Setting.Setting}
use Rattle.filterset_entries.specs.declared.text.Ending.{Ending, TheVariants.Differing}
use Rattle.filterset_display.specs.{declared.remark.Form.Form, Columns.Text}
use Rattle.filterset_answers.specs.Compiled.{AnswersTexts, Telling}
use Rattle.filterset_deciding.specs.Deciding.{IsAlwaysMet, IsUnmetAt, leaves_asked, steps_asked}
use Rattle.filterset_deciding.specs.Demands.{HasUncompared, IsDoubtAbout}
use Rattle.filterset_deciding.specs.Listed.{IsFirstUnmet, IsMetByAll}
use Rattle.filterset_deciding.specs.{Texts.AreComparisons, Texts.HasUnsearched, declared.deciding.Verdict.Verdict}
use Rattle.filterset_deciding.specs.declared.{question.Question.Question, witness.Witness.Witness}
use Rattle.filterset_deciding.specs.declared.deciding.Verdict.TheVariants as verdicts
use Rattle.filterset_expression.specs.Meaning.{IsCompiled}
use Rattle.filterset_expression.specs.declared.{expression.CompiledExpr.CompiledExpr, query.TestQuery.TestQuery}
use Rattle.nextest_filtering.specs.{Groups.IsGroupName, declared.compile.context.KnownGroups.KnownGroups}
use Rattle.filterset_verdicts.specs.{ListedTests.AreTestsOf, VerdictForm.IsExplainedIn, VerdictText.ending_of}
use Rattle.filterset_verdicts.specs.declared.answering.TextQuestion.{TextQuestion}

-- The verdict about the filtersets with these expressions is right. It is unknown only if the answer depends on demands of their
-- leaves of which one has a pattern, or a glob of many sequences, and which do not all compare texts, unless the texts of those
-- that must not match have together all printable ASCII characters. The search is stopped only if the budget is small beside
-- the number of their leaves and steps, or if some of their leaves demand more of a text than that it is, or has, another.
abbrev pub IsRight : Question → CompiledExpr → CompiledExpr → List (Bor CompiledExpr) → ℕ → Verdict → Type 0
IsRight question given default exprs budget verdicts.Always = IsAlwaysMet question given default exprs
IsRight question given default exprs budget (verdicts.Fails witness) =
    IsUnmetAt question given default exprs witness.test witness.picks.items
IsRight question given default exprs budget (verdicts.Unknown doubt) =
    IsDoubtAbout (leaves_asked given default exprs) doubt × (¬ AreComparisons doubt.demands.items) × HasUnsearched doubt.demands.items
IsRight question given default exprs budget verdicts.Stopped = let leaves = leaves_asked given default exprs in
    (budget < 2 ^ (length leaves + 1) * length (steps_asked given default exprs)) ⊎ HasUncompared leaves

-- the first of these tests for which the answer is no in a known group, or none if there is none
abbrev pub IsShown : Question → CompiledExpr → CompiledExpr → List (Bor CompiledExpr) → KnownGroups → List TestQuery
    → Option Witness → Type 0
IsShown question given default exprs groups tests found = (names : List (Bor Text))
    × ((name : Text) → Contains (map (λ g. g.now) names) name ↔ IsGroupName groups name)
    × MatchOption found (IsMetByAll question given default exprs tests names)
    (λ witness. IsFirstUnmet question given default exprs tests names witness.test witness.picks.items)

-- The answer to the question about the trees after the first, and the tests that the first one picks, by the expressions that
-- they are compiled to: the first test of the list for which it is no, or else a right verdict.
abbrev pub Decides : Form → TextQuestion → (setting : Setting) → Telling setting
Decides form asked setting basis [] ending text = ⊥
Decides form asked setting basis (within ∷ trees) ending text = (given : CompiledExpr) × (exprs : List (Bor CompiledExpr))
    × (tests : List TestQuery) × (found : Option Witness) × IsCompiled setting.graph.now within given
    × AllZip (IsCompiled setting.graph.now) trees (map (λ e. e.now) exprs) × AreTestsOf asked.suites.now tests
    × IsShown asked.question given basis.default exprs setting.groups.now tests found × MatchOption found
    ((verdict : Verdict) × IsRight asked.question given basis.default exprs asked.budget verdict
    × IsExplainedIn form asked.question false setting.graph.now basis.default trees verdict text × (ending ≡ ending_of verdict))
    (λ witness. IsExplainedIn form asked.question true setting.graph.now basis.default trees (verdicts.Fails witness) text
    × (ending ≡ Differing))

-- the rows of the question's filtersets, first that of the tests that it is about
abbrev pub question_rows : TextQuestion → List TextRow
question_rows asked = map text_row asked.entries.now

-- what a question is answered
abbrev pub AnswersQuestion : Form → Setting → TextQuestion → Ending → Text → Type 0
AnswersQuestion form setting asked = AnswersTexts form setting (question_rows asked) (Decides form asked setting)
