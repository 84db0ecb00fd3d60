-- What `list`, `compare`, `explain` and `overrides` answer about the workspace that files describe.
use Rattle.std.specs.Prelude.{◌≡◌, ◌⊎◌, List, [], ◌∷◌, Option, Some, None, MatchOption, MatchResult, IsSomeAnd, codes, flat_map, map, option_map, string_bytes, unwrap_or}
use Rattle.std.specs.{Borrow.Bor, List.AllZip, declared.io.Error.Error}
use Rattle.serde_json.specs.{Data.Data, View.view}
use Rattle.filterset_answers.specs.{Binaries.IsAsked, Explained.AnswersExplanation, Overriding.AnswersOverrides, Picking.AnswersQuestion}
use Rattle.filterset_entries.specs.{Checked.TextRow, Checked.text_row, Endings.AnswersUnknown}
use Rattle.filterset_entries.specs.Entries.{default_row, AreTextsOf, given_row}
use Rattle.filterset_entries.specs.Profile.{IsEntryOf, IsProfileOf, chosen}
use Rattle.filterset_entries.specs.declared.entries.ConfiguredTexts.{ConfiguredTexts}
use Rattle.filterset_entries.specs.declared.setting.Setting.{Setting}
use Rattle.filterset_entries.specs.declared.text.{Ending.Ending, TextEntry.TextEntry}
use Rattle.filterset_display.specs.{declared.remark.Form.Form, declared.remark.Form.TheVariants.Json, Columns.Text}
use Rattle.filterset_expression.specs.declared.query.TestQuery.{TestQuery}
use Rattle.filterset_graph.specs.declared.package.PackageMetadata.{PackageMetadata}
use Rattle.filterset_listing.specs.declared.{binary.AskedBinary.AskedBinary, explaining.candidate.Candidate.Candidate}
use Rattle.filterset_listing.specs.declared.explaining.candidate.Candidate.TheVariants.{Test}
use Rattle.filterset_configuration.specs.{PlatformTrees.facts_of, Lineages.Lineage}
use Rattle.filterset_configuration.specs.Ranking.{IsDefaultFilter, IsRanked, placed}
use Rattle.filterset_configuration.specs.declared.{profiles.Profile.Profile, ranking.RankedOverride.RankedOverride}
use Rattle.filterset_configuration.specs.declared.defaults.DefaultFilter as defaults
use Rattle.filterset_sources.specs.Platforms.{ArePlatforms}
use Rattle.filterset_sources.specs.declared.{list.Suite.Suite, platforms.BuildPlatforms.BuildPlatforms}
use Rattle.filterset_asking.specs.Explaining.{IsCandidate, IsMissing, binary_called, is_uncounted}
use Rattle.filterset_asking.specs.{Warnings.AnswersWarnings, declared.asking.AskedWorkspace.AskedWorkspace}
use Rattle.filterset_asking.specs.declared.asking.ProfileSetting.{ProfileSetting}
use Rattle.filterset_asking.specs.declared.asking.Wanted.{Wanted, TheVariants.Answer, TheVariants.Warnings}
use Rattle.nextest_filtering.specs.Groups.{AreGroups, IsGlobalOnly}
use Rattle.nextest_filtering.specs.declared.compile.context.KnownGroups.{KnownGroups}
use Rattle.filterset_loading.specs.Configurations.{AreProfilesIn, IsProfileFault}
use Rattle.filterset_loading.specs.Files.{name_of}
use Rattle.filterset_loading.specs.Workspaces.{IsPlatformsFault, IsWorkspaceFault, IsWorkspaceIn}
use Rattle.filterset_loading.specs.declared.request.Asked.{Asked}
use Rattle.filterset_loading.specs.declared.request.Asked.TheVariants.{Compare, Explanation, List as Listing, Overrides}
use Rattle.filterset_loading.specs.declared.{request.WorkspaceRequest.WorkspaceRequest, fault.CommandFault.CommandFault}
use Rattle.filterset_loading.specs.declared.profile.{KnownProfiles.KnownProfiles, ProfileRequest.ProfileRequest}
use Rattle.filterset_loading.specs.declared.{profile.ProfilesFile.ProfilesFile, workspace.Workspace.Workspace}
use Rattle.filterset_entries.specs.declared.question.Question.TheVariants as questions

-- what nextest wrote of the list, where an answer of this form is in its shape
abbrev pub kept_of : Form → Data → Option Data
kept_of Json list = Some list
kept_of form list = None

-- the answer under a setting: to a question, or why the filterset picks the binary with the id, or its test with the name;
-- or how overrides apply to all tests that the filtersets pick, to those of the binary with the id, or to its test with the name
abbrev pub AnswersOf : Form → Asked → Setting → List AskedBinary → Option Data → Ending → Text → Type 0
AnswersOf form (Listing filters ignores_default) setting binaries kept =
    AnswersQuestion form setting (questions.List filters ignores_default) kept binaries
AnswersOf form (Compare first second has_names) setting binaries kept =
    AnswersQuestion form setting (questions.Compare first second has_names) kept binaries
AnswersOf form (Explanation filter id test) setting binaries kept = λ ending text.
    (candidate : Candidate) × IsCandidate binaries id.now test candidate
    × AnswersExplanation form setting filter.now candidate (is_uncounted binaries id.now test) ending text
AnswersOf form (Overrides filters None test) setting binaries kept =
    AnswersQuestion form setting (questions.Overrides filters) None binaries
AnswersOf form (Overrides filters (Some id) None) setting binaries kept = λ ending text.
    (binary : AskedBinary) × (binary_called id.now binaries ≡ Some binary)
    × AnswersQuestion form setting (questions.Overrides filters) None (binary ∷ []) ending text
AnswersOf form (Overrides filters (Some id) (Some test)) setting binaries kept = λ ending text.
    (query : TestQuery) × IsCandidate binaries id.now (Some test) (Test query)
    × AnswersOverrides form setting query ending text

abbrev pub AnswersUnder : WorkspaceRequest → List Suite → Option Data → Setting → Ending → Text → Type 0
AnswersUnder request suites kept setting ending text = (binaries : List AskedBinary) × AllZip IsAsked suites binaries
    × AnswersOf request.form request.asked setting binaries kept ending text

-- without a profile: under the default filter that is given, or else all tests, and no overrides or profiles
abbrev pub IsPlain : List PackageMetadata → Option TextRow → Setting → Type 0
IsPlain packages given setting = (setting.graph.now ≡ packages) × IsGlobalOnly setting.groups.now
    × (text_row setting.default.now ≡ unwrap_or given (default_row (codes "all()"))) × (setting.overrides.now ≡ [])
    × (setting.profiles.now ≡ [])

-- under the profile that is asked for: with the profiles of its lineage, the overrides of that in their order, and the default
-- filter that is given or that follows from these
abbrev pub AnswersProfile : (Setting → Ending → Text → Type 0) → List PackageMetadata → Option TextRow → KnownProfiles
    → KnownGroups → ConfiguredTexts → Ending → Text → Type 0
AnswersProfile Answers packages given known groups texts ending text =
    (lineage : List Profile) × (ranked : List RankedOverride) × (filter : defaults.DefaultFilter)
    × Lineage known.profiles.items known.request.name.now lineage
    × AllZip (IsRanked (facts_of known.platforms.host) (facts_of known.platforms.target)) (flat_map placed lineage) ranked
    × IsDefaultFilter ranked lineage filter × MatchResult (chosen texts given filter)
    (λ row. (setting : Setting) × (setting.graph.now ≡ packages) × (setting.groups.now ≡ groups)
    × (text_row setting.default.now ≡ row) × AllZip (IsEntryOf texts) ranked setting.overrides.now
    × AllZip IsProfileOf lineage setting.profiles.now × Answers setting ending text)
    (λ path. AnswersUnknown path ending text)

-- under the profile that is asked for, of the configuration and for the platforms that the files describe
abbrev pub AnswersConfigured : (Text → Option Text) → (Setting → Ending → Text → Type 0) → List PackageMetadata
    → Option TextRow → ProfileRequest → BuildPlatforms → Ending → Text → Type 0
AnswersConfigured content Answers packages given profile built ending text =
    (file : ProfilesFile) × (groups : KnownGroups) × (texts : ConfiguredTexts) × AreProfilesIn content profile built file
    × AreGroups (map (λ s. string_bytes s) file.groups.items) groups
    × AreTextsOf (name_of profile.configuration.now) (string_bytes file.text) file.filtersets.items file.places texts
    × AnswersProfile Answers packages given file.known groups texts ending text

-- what is answered of the workspace that the files describe: under no profile, or under the one that is asked for, on the
-- platforms of the list
abbrev pub AnswersAsked : (Text → Option Text) → WorkspaceRequest → Ending → Text → Type 0
AnswersAsked content request ending text = (workspace : Workspace) × IsWorkspaceIn content request.paths workspace
    × (let Answers = AnswersUnder request workspace.list.suites.items (kept_of request.form (view workspace.value)) in
    MatchOption request.profile
    ((setting : Setting) × IsPlain workspace.graph (given_row request.default_filter) setting × Answers setting ending text)
    (λ profile. (built : BuildPlatforms) × ArePlatforms (view workspace.value) built
    × AnswersConfigured content Answers workspace.graph (given_row request.default_filter) profile built ending text))

-- the binaries lack the one that is asked about, or its test
abbrev pub LacksOf : Text → Asked → List AskedBinary → CommandFault → Type 0
LacksOf list (Explanation filter id test) binaries fault = IsMissing list binaries id.now test fault
LacksOf list (Overrides filters (Some id) test) binaries fault = IsMissing list binaries id.now test fault
LacksOf list asked binaries fault = ⊥

-- so do the binaries of the suites
abbrev pub LacksIn : Text → Asked → List Suite → CommandFault → Type 0
LacksIn list asked suites fault =
    (binaries : List AskedBinary) × AllZip IsAsked suites binaries × LacksOf list asked binaries fault

abbrev pub given_text : Option TextEntry → Option (Bor Text)
given_text given = option_map (λ entry. entry.text) given

-- the setting has these parts
abbrev pub HasParts : List PackageMetadata → KnownGroups → ProfileSetting → Setting → Type 0
HasParts packages groups own setting = (setting.graph.now ≡ packages) × (setting.groups.now ≡ groups)
    × (setting.default.now ≡ own.default) × (setting.overrides.now ≡ own.overrides.items)
    × (setting.profiles.now ≡ own.profiles.items)

-- what is wanted of a workspace: the answer, or what the tests say of texts
abbrev pub AnswersWanted : Form → Wanted → Setting → List AskedBinary → Option Data → Ending → Text → Type 0
AnswersWanted form (Answer asked) setting binaries kept = AnswersOf form asked setting binaries kept
AnswersWanted form (Warnings entries end) setting binaries kept = AnswersWarnings form end setting (map text_row entries.now) binaries

abbrev pub AnswersIn : AskedWorkspace → Option Data → Setting → Ending → Text → Type 0
AnswersIn asked kept setting ending text = (binaries : List AskedBinary) × AllZip IsAsked asked.suites.now binaries
    × AnswersWanted asked.form asked.wanted setting binaries kept ending text

abbrev pub LacksWanted : Text → Wanted → List Suite → CommandFault → Type 0
LacksWanted list (Answer asked) suites fault = LacksIn list asked suites fault
LacksWanted list (Warnings entries end) suites fault = ⊥

abbrev pub Lacks : AskedWorkspace → CommandFault → Type 0
Lacks asked = LacksWanted (name_of asked.list.now) asked.wanted asked.suites.now

-- a file is not used, or the configuration lacks the profile, or the workspace the binary or the test; or the platforms of
-- the list are wrong, and there is a profile
abbrev pub IsAskedFault : (Text → Option Text) → (Text → Error → Type 0) → WorkspaceRequest → CommandFault → Type 0
IsAskedFault content fails request fault = IsWorkspaceFault content fails request.paths fault
    ⊎ IsSomeAnd request.profile (λ profile. IsProfileFault content fails profile fault)
    ⊎ ((workspace : Workspace) × IsWorkspaceIn content request.paths workspace
    × (LacksIn (name_of request.paths.list.now) request.asked workspace.list.suites.items fault
    ⊎ IsSomeAnd request.profile (λ profile. IsPlatformsFault request.paths.list.now (view workspace.value) fault)))
