-- What `same`, `cover`, `disjoint` and `partition` answer.
use Rattle.std.specs.Prelude.{◌≡◌, ◌≢◌, ◌⊎◌, ◌++◌, List, [], ◌∷◌, Option, Some, None, Result, Ok, Err, Contains, IfSome, IsSomeAnd, MatchOption, codes, flat_map, map, string_bytes, unwrap_or}
use Rattle.std.specs.{Borrow.Bor, List.AllZip, declared.io.Error.Error}
use Rattle.serde_json.specs.Data.{Data}
use Rattle.filterset_entries.specs.{Checked.TextRow, Checked.text_row, Endings.AnswersUnknown}
use Rattle.filterset_entries.specs.Entries.{default_row, numbered_rows, test_row, given_row, AreTextsOf}
use Rattle.filterset_entries.specs.declared.{entries.ConfiguredTexts.ConfiguredTexts, setting.Setting.Setting}
use Rattle.filterset_entries.specs.{declared.text.Ending.Ending, Profile.chosen}
use Rattle.filterset_entries.specs.declared.profile.ChosenFilter.{ChosenFilter}
use Rattle.filterset_display.specs.Columns.{Text}
use Rattle.filterset_faults.specs.declared.kind.FiltersetKind.TheVariants as kinds
use Rattle.filterset_graph.specs.declared.package.PackageMetadata.{PackageMetadata}
use Rattle.filterset_configuration.specs.{PlatformTrees.facts_of, Lineages.Lineage}
use Rattle.filterset_configuration.specs.Ranking.{IsDefaultFilter, IsRanked, placed}
use Rattle.filterset_configuration.specs.declared.{defaults.DefaultFilter.DefaultFilter, profiles.Profile.Profile}
use Rattle.filterset_configuration.specs.declared.ranking.RankedOverride.{RankedOverride}
use Rattle.filterset_sources.specs.{Metadata.RefusesMetadata, Platforms.ArePlatforms}
use Rattle.filterset_sources.specs.declared.{list.Suite.Suite, platforms.BuildPlatforms.BuildPlatforms}
use Rattle.nextest_filtering.specs.Groups.{AreGroups, IsGlobalOnly}
use Rattle.nextest_filtering.specs.declared.compile.context.KnownGroups.{KnownGroups}
use Rattle.filterset_verdicts.specs.Verdicts.{AnswersQuestion, question_rows}
use Rattle.filterset_verdicts.specs.declared.answering.TextQuestion.{TextQuestion}
use Rattle.filterset_verdicts.specs.declared.naming.ResolvedEntries.{ResolvedEntries}
use Rattle.filterset_loading.specs.Configurations.{AreProfilesIn, IsUnread, LacksProfile}
use Rattle.filterset_loading.specs.Workspaces.{KnownPackages, IsListIn, IsPlatformsFault, RefusesList, RefusesValue}
use Rattle.filterset_loading.specs.Files.{IsFileFault, name_of}
use Rattle.filterset_loading.specs.declared.{request.DecisionRequest.DecisionRequest, fault.CommandFault.CommandFault}
use Rattle.filterset_loading.specs.declared.profile.{KnownProfiles.KnownProfiles, ProfileRequest.ProfileRequest}
use Rattle.filterset_loading.specs.declared.{profile.ProfilesFile.ProfilesFile, request.Decision.Decision}
use Rattle.filterset_loading.specs.declared.request.Decision.TheVariants.{Cover, Disjoint, Partition, Same}
use Rattle.filterset_deciding.specs.declared.question.Question.{Question}
use Rattle.filterset_deciding.specs.declared.question.Question.TheVariants.{AllAlike, AtLeastOne, AtMostOne, ExactlyOne}
use Rattle.filterset_loading.specs.declared.fault.FileRole.TheVariants as roles
use Rattle.filterset_verdicts.specs.declared.naming.ResolvedEntries.TheVariants as entries
use Rattle.filterset_entries.specs.declared.profile.ChosenFilter.TheVariants as chosens

-- ---- the texts of a request

-- the filterset of the tests that the question is about: the given one, or else that of all tests of the workspace, or of all
-- tests if no workspace is given
abbrev pub within_of : Option (Bor Text) → Option (Bor Text) → Text
within_of (Some text) metadata = text.now
within_of None (Some path) = codes "package(#*)"
within_of None None = codes "all()"

-- the rows of the filterset of the tests that the question is about, and of the filtersets
abbrev pub request_rows : DecisionRequest → List TextRow
request_rows request = test_row (codes "--within") (within_of request.within request.metadata)
    ∷ numbered_rows (codes "argument") kinds.Test (map (λ t. t.now) request.texts.now)

-- the question that a command asks
abbrev pub question_of : Decision → Question
question_of Same = AllAlike
question_of Cover = AtLeastOne
question_of Disjoint = AtMostOne
question_of Partition = ExactlyOne

-- the answer to the question of the request about these rows, over these packages, test binaries and groups, under this
-- default filter
abbrev pub AnswersRows : DecisionRequest → List PackageMetadata → List Suite → KnownGroups → TextRow → List TextRow → Ending
    → Text → Type 0
AnswersRows request packages suites groups default rows ending text = (setting : Setting) × (asked : TextQuestion)
    × (setting.graph.now ≡ packages) × (setting.groups.now ≡ groups) × (text_row setting.default.now ≡ default)
    × (setting.overrides.now ≡ []) × (setting.profiles.now ≡ []) × ((asked.question ≡ question_of request.question)
    × (question_rows asked ≡ rows) × (asked.suites.now ≡ suites) × (asked.budget ≡ request.budget))
    × AnswersQuestion request.form setting asked ending text

-- ---- profiles by name

-- the default filter of the profile with this name; or the path by which it is not known
abbrev pub IsFilterOf : KnownProfiles → ConfiguredTexts → Text → Result TextRow Text → Type 0
IsFilterOf known texts name outcome = (lineage : List Profile) × (ranked : List RankedOverride) × (filter : DefaultFilter)
    × Lineage known.profiles.items name lineage
    × AllZip (IsRanked (facts_of known.platforms.host) (facts_of known.platforms.target)) (flat_map placed lineage) ranked
    × IsDefaultFilter ranked lineage filter × (chosen texts None filter ≡ outcome)

-- `@ci` stands for the default filter of the profile `ci`, and every other text for itself
abbrev pub ResolvesTo : KnownProfiles → ConfiguredTexts → TextRow → Result TextRow Text → Type 0
ResolvesTo known texts row outcome =
    ((name : Text) × (row.text ≡ codes "@" ++ name) × IsFilterOf known texts name outcome)
    ⊎ (((name : Text) → row.text ≢ codes "@" ++ name) × (outcome ≡ Ok row))

-- the default filter that is given, or else that of the profile
abbrev pub IsDefaultRow : KnownProfiles → ConfiguredTexts → Option TextRow → Result TextRow Text → Type 0
IsDefaultRow known texts None outcome = IsFilterOf known texts known.request.name.now outcome
IsDefaultRow known texts (Some row) outcome = ResolvesTo known texts row outcome

-- under the default filters of profiles; or one that the question depends on is not known, by the platform of this path
abbrev pub AnswersNamed : DecisionRequest → List PackageMetadata → List Suite → KnownGroups → KnownProfiles
    → ConfiguredTexts → Ending → Text → Type 0
AnswersNamed request packages suites groups known texts ending text =
    ((default : TextRow) × (rows : List TextRow) × IsDefaultRow known texts (given_row request.default_filter) (Ok default)
    × AllZip (λ row own. ResolvesTo known texts row (Ok own)) (request_rows request) rows
    × AnswersRows request packages suites groups default rows ending text)
    ⊎ ((path : Text) × (IsDefaultRow known texts (given_row request.default_filter) (Err path)
    ⊎ ((row : TextRow) × Contains (request_rows request) row × ResolvesTo known texts row (Err path)))
    × AnswersUnknown path ending text)

-- the platforms of a build of which nothing is known
abbrev pub nowhere : BuildPlatforms
nowhere = record { host = None; target = None }

-- the profiles of the configuration, on platforms of which the list says so much, and the files the rest
abbrev pub AnswersProfiles : (Text → Option Text) → DecisionRequest → List PackageMetadata → List Suite
    → ProfileRequest → BuildPlatforms → Ending → Text → Type 0
AnswersProfiles content request packages suites profile built ending text =
    (file : ProfilesFile) × (groups : KnownGroups) × (texts : ConfiguredTexts) × AreProfilesIn content profile built file
    × AreGroups (map (λ s. string_bytes s) file.groups.items) groups
    × AreTextsOf (name_of profile.configuration.now) (string_bytes file.text) file.filtersets.items file.places texts
    × AnswersNamed request packages suites groups file.known texts ending text

-- ---- what is answered

-- the answer to the question of the request, about these packages and test binaries: under the default filter that is given,
-- or all tests, or under the profiles of a configuration
abbrev pub AnswersKnown : (Text → Option Text) → DecisionRequest → List PackageMetadata → List Suite → BuildPlatforms
    → Ending → Text → Type 0
AnswersKnown content request packages suites built ending text = MatchOption request.profile
    ((groups : KnownGroups) × IsGlobalOnly groups × AnswersRows request packages suites groups
    (unwrap_or (given_row request.default_filter) (default_row (codes "all()"))) (request_rows request) ending text)
    (λ profile. AnswersProfiles content request packages suites profile built ending text)

-- about the test binaries of the list at this path, and if there is a profile, on the platforms of the list
abbrev pub AnswersListed : (Text → Option Text) → DecisionRequest → List PackageMetadata → Text → Ending → Text → Type 0
AnswersListed content request packages path ending text =
    (list : Data) × (suites : List Suite) × (built : BuildPlatforms) × IsListIn (content path) packages request.run_ignored list suites
    × IfSome request.profile (λ _. ArePlatforms list built)
    × AnswersKnown content request packages suites built ending text

-- about the packages of the file, or none if there is no file; and without a list about no test binaries
abbrev pub AnswersDecision : (Text → Option Text) → DecisionRequest → Ending → Text → Type 0
AnswersDecision content request ending text = (packages : List PackageMetadata)
    × KnownPackages content request.metadata packages × MatchOption request.list
    (AnswersKnown content request packages [] nowhere ending text)
    (λ path. AnswersListed content request packages path.now ending text)

-- the configuration lacks a profile that the request names
abbrev pub LacksNamed : DecisionRequest → ProfileRequest → List Profile → CommandFault → Type 0
LacksNamed request profile profiles fault = (name : Text) × (((request.default_filter ≡ None) × (profile.name.now ≡ name))
    ⊎ IsSomeAnd request.default_filter (λ text. text.now ≡ codes "@" ++ name)
    ⊎ ((row : TextRow) × Contains (request_rows request) row × (row.text ≡ codes "@" ++ name)))
    × LacksProfile profile.configuration.now name profiles fault

-- a file of the profiles is not used, or the configuration lacks one
abbrev pub IsNamedFault : (Text → Option Text) → (Text → Error → Type 0) → DecisionRequest → ProfileRequest
    → CommandFault → Type 0
IsNamedFault content fails request profile fault = IsUnread content fails profile fault
    ⊎ ((built : BuildPlatforms) × (file : ProfilesFile) × AreProfilesIn content profile built file
    × LacksNamed request profile file.known.profiles.items fault)

-- the list at this path is not used; or its platforms are wrong, and there is a profile; or the profiles are not used
abbrev pub IsListedFault : (Text → Option Text) → (Text → Error → Type 0) → DecisionRequest → List PackageMetadata
    → Text → CommandFault → Type 0
IsListedFault content fails request packages path fault =
    IsFileFault content fails roles.List (RefusesValue (RefusesList packages)) path fault
    ⊎ ((list : Data) × (suites : List Suite) × IsListIn (content path) packages request.run_ignored list suites
    × IsSomeAnd request.profile (λ profile. IsPlatformsFault path list fault
    ⊎ IsNamedFault content fails request profile fault))

-- the file of the packages is not used, or the list is not, or the profiles are not
abbrev pub IsDecisionFault : (Text → Option Text) → (Text → Error → Type 0) → DecisionRequest → CommandFault → Type 0
IsDecisionFault content fails request fault = IsSomeAnd request.metadata
    (λ path. IsFileFault content fails roles.Metadata (RefusesValue RefusesMetadata) path.now fault)
    ⊎ ((packages : List PackageMetadata) × KnownPackages content request.metadata packages × MatchOption request.list
    (IsSomeAnd request.profile (λ profile. IsNamedFault content fails request profile fault))
    (λ path. IsListedFault content fails request packages path.now fault))

-- ---- what only contracts of private functions cite

-- a filterset, or the path by which it is not known
abbrev pub outcome_of : ChosenFilter → Result TextRow Text
outcome_of (chosens.Entry entry) = Ok (text_row entry)
outcome_of (chosens.Unknown path) = Err (string_bytes path)

abbrev pub IsDefaultKind : ChosenFilter → Type 0
IsDefaultKind (chosens.Entry entry) = entry.kind ≡ kinds.DefaultFilter
IsDefaultKind (chosens.Unknown path) = Unit {0}

-- what the texts stand for, or that one is not known
abbrev pub AreResolved : KnownProfiles → ConfiguredTexts → List TextRow → ResolvedEntries → Type 0
AreResolved known texts rows (entries.Entries found) =
    AllZip (λ row own. ResolvesTo known texts row (Ok own)) rows (map text_row found.items)
AreResolved known texts rows (entries.Unknown path) =
    (row : TextRow) × Contains rows row × ResolvesTo known texts row (Err (string_bytes path))

-- the configuration lacks the profile that the text names
abbrev pub LacksOwn : Text → List Profile → TextRow → CommandFault → Type 0
LacksOwn configuration profiles row fault =
    (name : Text) × (row.text ≡ codes "@" ++ name) × LacksProfile configuration name profiles fault

-- or that one of the texts names
abbrev pub LacksAny : Text → List Profile → List TextRow → CommandFault → Type 0
LacksAny configuration profiles rows fault = (row : TextRow) × Contains rows row × LacksOwn configuration profiles row fault
