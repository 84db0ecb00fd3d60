-- What `check` answers, by the names that files give.
use Rattle.std.specs.Prelude.{◌≡◌, ◌⊎◌, ◌+◌, ◌++◌, ℕ, List, [], ◌∷◌, Option, Some, None, IfSome, IsSomeAnd, is_some, length, map, string_bytes}
use Rattle.std.specs.{Borrow.Bor, Option.option_map_or, declared.io.Error.Error}
use Rattle.filterset_answers.specs.Answers.{ChecksTexts}
use Rattle.filterset_entries.specs.{Checked.TextRow, Endings.ending_of, Entries.rows_in, Entries.AreTextsOf}
use Rattle.filterset_entries.specs.{Names.KnowsNames, declared.entries.ConfiguredTexts.ConfiguredTexts}
use Rattle.filterset_entries.specs.declared.{names.Names.Names, text.Ending.Ending}
use Rattle.filterset_display.specs.{declared.remark.Form.Form, Columns.Text, declared.source.Source.Source}
use Rattle.filterset_json.specs.Pieces.{Pieces}
use Rattle.filterset_graph.specs.declared.package.PackageMetadata.{PackageMetadata}
use Rattle.filterset_configuration.specs.declared.{place.Place.Place, places.Places.Places}
use Rattle.filterset_configuration.specs.{Profiles.HasProfiles, Wrong.AreWrongValues}
use Rattle.filterset_configuration.specs.declared.{profiles.Profile.Profile, wrong.WrongValue.WrongValue}
use Rattle.filterset_sources.specs.{Configurations.IsConfiguration, Configurations.RefusesConfiguration, Metadata.RefusesMetadata}
use Rattle.filterset_sources.specs.declared.configuration.Configuration.{Configuration}
use Rattle.nextest_filtering.specs.Compiling.{packages_of}
use Rattle.filterset_loading.specs.Configurations.{HasNamed, IsConfigurationIn, IsRefusedProfile, LacksProfile}
use Rattle.filterset_loading.specs.Files.{BySource, IsFileFault, name_of}
use Rattle.filterset_loading.specs.Workspaces.{KnownPackages, RefusesValue}
use Rattle.filterset_loading.specs.declared.{request.CheckPaths.CheckPaths, fault.CommandFault.CommandFault}
use Rattle.filterset_asking.specs.{Configured.WarnsOfFile, Values.IsValuePiece}
use Rattle.filterset_asking.specs.Warned.{AnswersWarned, IsListedFault, either_ending, request_after}
use Rattle.filterset_loading.specs.declared.fault.FileRole.TheVariants as roles

-- the configuration is that of the file with these bytes, or of an empty text where there is no file
abbrev pub KnownConfiguration : (Text → Option Text) → Option (Bor Text) → Text → Configuration → List (Option Place) → Type 0
KnownConfiguration content None bytes c places = (bytes ≡ []) × IsConfiguration bytes c
KnownConfiguration content (Some path) bytes c places = IsConfigurationIn (content path.now) bytes c places

-- what the file of the configuration is called
abbrev pub file_name : Option (Bor Text) → Text
file_name path = option_map_or (λ p. name_of p.now) path []

-- the wrong values of the configuration in this file, and then the faults of texts
abbrev pub ChecksKnown : Names → Form → Bor Source → List TextRow → List WrongValue → Ending → Text → Type 0
ChecksKnown names form file rows values ending text = (faulty : ℕ) × (front rest : Text)
    × Pieces (IsValuePiece form file) values front × ChecksTexts names form rows faulty rest
    × (text ≡ front ++ rest) × (ending ≡ ending_of (length values + faulty))

-- the configuration with these bytes has the profile that is asked for, if it has no wrong values
abbrev pub HasAsked : CheckPaths → Text → List WrongValue → Type 0
HasAsked paths bytes [] = IfSome paths.configuration (λ path. HasNamed bytes paths.profile.now)
HasAsked paths bytes (value ∷ values) = Unit {0}

-- The wrong values of a configuration, then the faults of its filtersets and of other texts, then the warnings of the
-- configuration's file; and if there are no wrong values, what the list of tests says of the texts, if one is requested.
abbrev pub ChecksAll : (Text → Option Text) → Form → Names → CheckPaths → ConfiguredTexts → List TextRow → Ending → Text
    → Type 0
ChecksAll content form names paths texts given ending text =
    (values : List WrongValue) × (own : ℕ) × (checked warned : Ending) × (front middle rest : Text)
    × AreWrongValues texts.file.now.text.now values
    × ChecksKnown names form texts.file (rows_in texts ++ given) values checked front
    × WarnsOfFile form texts own middle
    × AnswersWarned content form (record { denies = paths.denies; before = own }) (packages_of names.parse_context)
    names.known_groups paths.configuration texts (rows_in texts ++ given) (request_after values paths.warnings) warned rest
    × HasAsked paths texts.file.now.text.now values
    × (text ≡ front ++ (middle ++ rest)) × (ending ≡ either_ending checked warned)

-- what checking answers, as far as there are files that say which names there are
abbrev pub AnswersCheck : (Text → Option Text) → Form → CheckPaths → List TextRow → Ending → Text → Type 0
AnswersCheck content form paths given ending text =
    (packages : List PackageMetadata) × (bytes : Text) × (configuration : Configuration) × (places : Places)
    × (texts : ConfiguredTexts) × (names : Names) × KnownPackages content paths.metadata packages
    × KnownConfiguration content paths.configuration bytes configuration places.places.items
    × AreTextsOf (file_name paths.configuration) bytes configuration.filtersets.items places texts
    × KnowsNames (is_some paths.metadata) packages (is_some paths.configuration)
    (map (λ s. string_bytes s) configuration.groups.items) names
    × ChecksAll content form names paths texts given ending text

-- the configuration at a path, with these bytes, has no profile of the name
abbrev pub LacksAsked : Text → Text → Text → CommandFault → Type 0
LacksAsked path name bytes fault = IsRefusedProfile bytes path fault
    ⊎ ((profiles : List Profile) × HasProfiles bytes profiles × LacksProfile path name profiles fault)

-- the list is not used, or there is no such profile
abbrev pub IsUnchecked : (Text → Option Text) → (Text → Error → Type 0) → List PackageMetadata → CheckPaths → Text
    → CommandFault → Type 0
IsUnchecked content fails packages paths bytes fault =
    IsSomeAnd paths.warnings (λ request. IsListedFault content fails packages paths.configuration bytes request fault)
    ⊎ IsSomeAnd paths.configuration (λ path. LacksAsked path.now paths.profile.now bytes fault)

-- one of the files that are given is not used: the configuration, or the one of the packages, or one for the warnings; or the
-- configuration lacks the profile
abbrev pub IsCheckFault : (Text → Option Text) → (Text → Error → Type 0) → CheckPaths → CommandFault → Type 0
IsCheckFault content fails paths fault =
    IsSomeAnd paths.configuration (λ path. IsFileFault content fails roles.Configuration
    (BySource RefusesConfiguration) path.now fault) ⊎ IsSomeAnd paths.metadata
    (λ path. IsFileFault content fails roles.Metadata (RefusesValue RefusesMetadata) path.now fault)
    ⊎ ((packages : List PackageMetadata) × (bytes : Text) × (configuration : Configuration) × (places : Places)
    × KnownPackages content paths.metadata packages
    × KnownConfiguration content paths.configuration bytes configuration places.places.items
    × IsUnchecked content fails packages paths bytes fault)
