-- What `check` warns of, by a list of tests.
use Rattle.std.specs.Prelude.{◌≡◌, ◌⊎◌, ◌==◌, List, [], ◌∷◌, Option, None, IsSomeAnd, MatchOption, if◌then◌else◌}
use Rattle.std.specs.{Borrow.Bor, List.AllZip, declared.io.Error.Error}
use Rattle.serde_json.specs.Data.{Data}
use Rattle.filterset_answers.specs.Binaries.{IsAsked}
use Rattle.filterset_entries.specs.Checked.{TextRow}
use Rattle.filterset_entries.specs.declared.{entries.ConfiguredTexts.ConfiguredTexts, setting.Setting.Setting}
use Rattle.filterset_entries.specs.declared.text.{Ending.Ending, Ending.TheVariants.Fine, WarningEnd.WarningEnd}
use Rattle.filterset_display.specs.{declared.remark.Form.Form, Columns.Text}
use Rattle.filterset_graph.specs.declared.package.PackageMetadata.{PackageMetadata}
use Rattle.filterset_listing.specs.declared.binary.AskedBinary.{AskedBinary}
use Rattle.filterset_configuration.specs.Profiles.{HasProfiles}
use Rattle.filterset_configuration.specs.declared.{profiles.Profile.Profile, wrong.WrongValue.WrongValue}
use Rattle.filterset_sources.specs.{Platforms.ArePlatforms, declared.list.Suite.Suite}
use Rattle.filterset_sources.specs.declared.platforms.BuildPlatforms.{BuildPlatforms}
use Rattle.filterset_asking.specs.Warnings.{AnswersWarnings, summary, warned_ending}
use Rattle.filterset_asking.specs.Asking.{AnswersProfile, IsPlain}
use Rattle.nextest_filtering.specs.declared.compile.context.KnownGroups.{KnownGroups}
use Rattle.filterset_loading.specs.Configurations.{AreKnown, IsRefusedProfile, IsSettingsFault, LacksProfile, profile_at}
use Rattle.filterset_loading.specs.Files.{IsFileFault}
use Rattle.filterset_loading.specs.Workspaces.{IsListIn, IsPlatformsFault, RefusesList, RefusesValue}
use Rattle.filterset_loading.specs.declared.fault.CommandFault.{CommandFault}
use Rattle.filterset_loading.specs.declared.profile.{KnownProfiles.KnownProfiles, ProfileRequest.ProfileRequest}
use Rattle.filterset_loading.specs.declared.request.WarningRequest.{WarningRequest}
use Rattle.filterset_loading.specs.declared.fault.FileRole.TheVariants as roles

-- ---- what is answered

-- under a profile of the file of these texts, on the platforms of the list
abbrev pub WarnsBy : (Text → Option Text) → (Setting → Ending → Text → Type 0) → List PackageMetadata → KnownGroups
    → ConfiguredTexts → ProfileRequest → Data → Ending → Text → Type 0
WarnsBy content Answers packages groups texts profile list ending text =
    (built : BuildPlatforms) × (known : KnownProfiles) × ArePlatforms list built × (known.request ≡ profile)
    × HasProfiles texts.file.now.text.now known.profiles.items × AreKnown content profile built known.platforms
    × AnswersProfile Answers packages None known groups texts ending text

-- by the list that is requested: under a profile of the configuration at this path, or without one
abbrev pub AnswersListed : (Text → Option Text) → Form → WarningEnd → List PackageMetadata → KnownGroups → Option (Bor Text)
    → ConfiguredTexts → List TextRow → WarningRequest → Ending → Text → Type 0
AnswersListed content form end packages groups path texts rows request ending text =
    (list : Data) × (suites : List Suite) × IsListIn (content request.paths.list.now) packages request.paths.run_ignored list suites
    × (let Answers : Setting → Ending → Text → Type 0 = λ setting ending text. (binaries : List AskedBinary)
    × AllZip IsAsked suites binaries × AnswersWarnings form end setting rows binaries ending text in MatchOption path
    ((setting : Setting) × IsPlain packages None setting × Answers setting ending text)
    (λ p. WarnsBy content Answers packages groups texts (profile_at p request) list ending text))

-- if no list is requested, how many warnings there are, if there are any
abbrev pub AnswersWarned : (Text → Option Text) → Form → WarningEnd → List PackageMetadata → KnownGroups → Option (Bor Text)
    → ConfiguredTexts → List TextRow → Option WarningRequest → Ending → Text → Type 0
AnswersWarned content form end packages groups path texts rows request ending text = MatchOption request
    ((ending ≡ warned_ending end.denies end.before) × (text ≡ (if end.before == 0 then [] else summary form 0 end.before)))
    (λ r. AnswersListed content form end packages groups path texts rows r ending text)

-- the request, if the configuration has no wrong values
abbrev pub request_after : List WrongValue → Option WarningRequest → Option WarningRequest
request_after [] request = request
request_after (value ∷ values) request = None

-- how an answer ends that another one follows
abbrev pub either_ending : Ending → Ending → Ending
either_ending Fine second = second
either_ending first second = first

-- ---- what is not used

-- what keeps a profile of the configuration with these bytes from being used, on the platforms of the list at this path
abbrev pub IsProfileUnused : (Text → Option Text) → (Text → Error → Type 0) → Text → Text → Data → ProfileRequest
    → CommandFault → Type 0
IsProfileUnused content fails bytes path list profile fault = IsPlatformsFault path list fault
    ⊎ IsRefusedProfile bytes profile.configuration.now fault
    ⊎ IsSettingsFault content fails roles.HostCfg profile.host_cfg fault
    ⊎ IsSettingsFault content fails roles.TargetCfg profile.target_cfg fault
    ⊎ ((profiles : List Profile) × HasProfiles bytes profiles × LacksProfile profile.configuration.now profile.name.now profiles fault)

-- the list is not used, or the profile of the configuration at this path is not
abbrev pub IsListedFault : (Text → Option Text) → (Text → Error → Type 0) → List PackageMetadata → Option (Bor Text) → Text
    → WarningRequest → CommandFault → Type 0
IsListedFault content fails packages path bytes request fault =
    IsFileFault content fails roles.List (RefusesValue (RefusesList packages)) request.paths.list.now fault
    ⊎ ((list : Data) × (suites : List Suite) × IsListIn (content request.paths.list.now) packages request.paths.run_ignored list suites
    × IsSomeAnd path (λ p. IsProfileUnused content fails bytes request.paths.list.now list (profile_at p request) fault))
