-- Which filtersets texts spell, or which faults they have.
use Rattle.std.specs.Prelude.{◌≡◌, ◌≢◌, ◌⊎◌, ◌++◌, ℕ, List, [], filter, length, Bool, true, false, Option, Some, None, is_some, option_map, string_bytes}
use Rattle.std.specs.{Borrow.Bor, List.AllZip}
use Rattle.filterset_display.specs.{Columns.Text, declared.remark.Form.Form}
use Rattle.filterset_expression.specs.{Meaning.IsCompiled, declared.expression.CompiledExpr.CompiledExpr}
use Rattle.filterset_faults.specs.declared.span.SourceSpan.{SourceSpan}
use Rattle.filterset_graph.specs.declared.package.PackageMetadata.{PackageMetadata}
use Rattle.filterset_grammar.specs.Tree.{Tree}
use Rattle.filterset_listing.specs.declared.groups.GroupOverride.{GroupOverride}
use Rattle.filterset_overrides.specs.declared.asked.AskedOverride.{AskedOverride}
use Rattle.nextest_filtering.specs.Compiling.{packages_of}
use Rattle.nextest_filtering.specs.declared.{compile.context.KnownGroups.KnownGroups, filterset.Filterset.Filterset}
use Rattle.filterset_rewriting.specs.declared.reading.TextRefusal.{TextRefusal}
use Rattle.filterset_answers.specs.Answers.{FaultsOf}
use Rattle.filterset_answers.specs.declared.compiling.{CompiledTexts.CompiledTexts, Compiler.Compiler}
use Rattle.filterset_answers.specs.declared.compiling.{FaultLog.FaultLog, QuestionFiltersets.QuestionFiltersets}
use Rattle.filterset_entries.specs.Checked.{HasRefusal, IsAccepted, IsFiltersetFor, IsRefusedFor, TextRow, all_remarks, text_row}
use Rattle.filterset_entries.specs.{Entries.setting_rows, Forms.FaultPieces}
use Rattle.filterset_entries.specs.declared.setting.{OverrideEntry.OverrideEntry, Setting.Setting}
use Rattle.filterset_entries.specs.declared.text.{Ending.Ending, Ending.TheVariants.Faulty, TextEntry.TextEntry}
use Rattle.filterset_answers.specs.declared.compiling.CompiledTexts.TheVariants as texts

-- ---- what is answered

-- the text is a filterset of its kind, over the packages and the groups of the setting, by this tree
abbrev pub IsTreeOf : Setting → TextRow → Tree SourceSpan → Type 0
IsTreeOf setting = IsAccepted setting.graph.now setting.groups.now

-- this is what the tree of the text is compiled to, if there is a text
abbrev pub IsCompiledText : Setting → Option TextEntry → Option (Bor CompiledExpr) → Type 0
IsCompiledText setting None made = made ≡ None
IsCompiledText setting (Some text) made = (tree : Tree SourceSpan) × (expr : Bor CompiledExpr) × (made ≡ Some expr)
    × IsTreeOf setting (text_row text) tree × IsCompiled setting.graph.now tree expr.now

-- the override as it is asked whether it applies to tests, with the keys that it sets
abbrev pub IsAskedFor : Setting → OverrideEntry → AskedOverride → Type 0
IsAskedFor setting entry asked = (asked.path.now ≡ entry.path.now) × (asked.settings.now ≡ entry.settings.now)
    × (asked.for_target ≡ entry.for_target) × (asked.for_host ≡ entry.for_host)
    × IsCompiledText setting entry.filter asked.filter

-- the override as it is asked which tests it puts in its group
abbrev pub IsOverrideFor : Setting → OverrideEntry → GroupOverride → Type 0
IsOverrideFor setting entry over = (over.path.now ≡ entry.path.now)
    × (option_map (λ g. g.now) entry.group ≡ Some over.group.now)
    × (over.for_target ≡ entry.for_target) × (over.for_host ≡ entry.for_host)
    × IsCompiledText setting entry.filter over.filter

abbrev pub sets_group : OverrideEntry → Bool
sets_group entry = is_some entry.group

-- what a setting is: the tree of its default filter, what that is compiled to, and the overrides that set groups
pub record Basis (setting : Setting) : Type 0 where
  pub default_tree : Tree SourceSpan
  pub default : CompiledExpr
  pub overrides : List GroupOverride
  pub spelled : IsTreeOf setting (text_row setting.default.now) default_tree
  pub compiled : IsCompiled setting.graph.now default_tree default
  pub grouped : AllZip (IsOverrideFor setting) (filter sets_group setting.overrides.now) overrides

-- what is told of trees under a setting, by an ending and a text
abbrev pub Telling : Setting → Type 1
Telling setting = Basis setting → List (Tree SourceSpan) → Ending → Text → Type 0

-- what texts are answered under a setting: what is told where they have these trees, or the faults of its texts and of
-- these, if any has some
abbrev pub AnswersTexts : Form → (setting : Setting) → List TextRow → Telling setting → Ending → Text → Type 0
AnswersTexts form setting rows Tells ending text =
    ((basis : Basis setting) × (trees : List (Tree SourceSpan)) × AllZip (IsTreeOf setting) rows trees
    × Tells basis trees ending text) ⊎ ((faulty : ℕ) × (faulty ≢ 0) × (ending ≡ Faulty)
    × FaultsOf (HasRefusal setting.graph.now setting.groups.now) form 1 (setting_rows setting ++ rows) faulty text)

-- ---- filtersets

-- what the filter of an override is as a filterset, if it has one
abbrev pub IsFilterFor : List PackageMetadata → KnownGroups → OverrideEntry → Option Filterset → Type 0
IsFilterFor packages groups entry None = entry.filter ≡ None
IsFilterFor packages groups entry (Some made) =
    (text : TextEntry) × (entry.filter ≡ Some text) × IsFiltersetFor packages groups (text_row text) made

-- what the texts of the setting and these are as filtersets
pub record AreFiltersets (packages : List PackageMetadata) (groups : KnownGroups) (setting : Setting)
    (rows : List TextRow) (made : QuestionFiltersets) : Type 0 where
  pub default : IsFiltersetFor packages groups (text_row setting.default.now) made.setting.default
  pub overrides : AllZip (IsFilterFor packages groups) setting.overrides.now made.setting.overrides.items
  pub filters : AllZip (IsFiltersetFor packages groups) rows made.filters.items

-- some of the texts have faults, and this is written of them
abbrev pub AreRefused : List PackageMetadata → KnownGroups → Form → List TextRow → Text → Type 0
AreRefused packages groups form rows text =
    (faulty : ℕ) × (faulty ≢ 0) × FaultsOf (HasRefusal packages groups) form 1 rows faulty text

-- what the texts of the setting and these are as filtersets, or what is written of their faults, of which there are any
abbrev pub AreCompiled : Form → Setting → List TextRow → CompiledTexts → Type 0
AreCompiled form setting rows (texts.Filtersets made) =
    AreFiltersets setting.graph.now setting.groups.now setting rows made
AreCompiled form setting rows (texts.Faults text) =
    AreRefused setting.graph.now setting.groups.now form (setting_rows setting ++ rows) (string_bytes text)

-- ---- compiling one text after the other

-- the filterset that a compiler made of a text
abbrev pub IsMade : Compiler → TextRow → Filterset → Type 0
IsMade compiler = IsFiltersetFor (packages_of compiler.context) compiler.groups.now

-- what it made of a text: a filterset
abbrev pub HasMade : Compiler → TextRow → Option Filterset → Type 0
HasMade compiler row (Some made) = IsMade compiler row made
HasMade compiler row None = ⊥

-- what it made of the filter of an override
abbrev pub IsFilter : Compiler → OverrideEntry → Option Filterset → Type 0
IsFilter compiler = IsFilterFor (packages_of compiler.context) compiler.groups.now

-- what the text with this number is as a filterset, and what is written of it: nothing, or its faults
abbrev pub IsParsedAs : Compiler → ℕ → TextRow → Option Filterset → Text → Type 0
IsParsedAs compiler number row (Some made) piece = (piece ≡ []) × IsMade compiler row made
IsParsedAs compiler number row None piece = (faults : TextRefusal)
    × IsRefusedFor (packages_of compiler.context) compiler.groups.now row faults
    × FaultPieces compiler.form row number (all_remarks faults) piece

-- the log has the faults of these texts
pub record IsLogOf (compiler : Compiler) (rows : List TextRow) (log : FaultLog) : Type 0 where
  pub faulty : ℕ
  pub counted : log.count ≡ length rows
  pub written : FaultsOf (HasRefusal (packages_of compiler.context) compiler.groups.now) compiler.form 1 rows faulty
      (string_bytes log.text)
  pub some : log.has_any ≡ true → faulty ≢ 0

-- these texts were compiled, from one log to another, and if there are no faults, this was made of them
pub record Compiles (compiler : Compiler) (rows : List TextRow) (before after : FaultLog) (Made : Type 0) : Type 0 where
  pub logs : (others : List TextRow) → IsLogOf compiler others before → IsLogOf compiler (others ++ rows) after
  pub no_faults : after.has_any ≡ false → before.has_any ≡ false
  pub makes : after.has_any ≡ false → Made

-- the texts of the setting and these were compiled, if there are no faults
abbrev pub CompilesAll :
    Compiler → Setting → List TextRow → FaultLog → FaultLog → Option QuestionFiltersets → Type 0
CompilesAll compiler setting rows before after (Some made) =
    AreFiltersets (packages_of compiler.context) compiler.groups.now setting rows made
CompilesAll compiler setting rows before after None = (after.has_any ≡ true)
    × (IsLogOf compiler [] before → IsLogOf compiler (setting_rows setting ++ rows) after)
