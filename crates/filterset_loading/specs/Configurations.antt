-- What files say of a configuration and its profiles, and of the platforms by which their overrides apply.
use Rattle.std.specs.Prelude.{◌≡◌, ◌≢◌, ◌⊎◌, List, Option, Some, None, IsSomeAnd, Vec, alloc_error, map, string_bytes}
use Rattle.std.specs.{Borrow.Bor, Global.Global, declared.io.Error.Error}
use Rattle.filterset_display.specs.Columns.{Text}
use Rattle.filterset_configuration.specs.{Places.ArePlaces, declared.place.Place.Place}
use Rattle.filterset_configuration.specs.PlatformTrees.{setting_of}
use Rattle.filterset_configuration.specs.declared.platforms.{fault.CfgRefusal.TheVariants.OutOfMemory, settings.Cfg.Cfg}
use Rattle.filterset_configuration.specs.Lineages.{IsLineageFault, Lineage}
use Rattle.filterset_configuration.specs.{Profiles.HasProfiles, declared.profiles.Profile.Profile}
use Rattle.filterset_configuration.specs.PlatformReading as cfgs
use Rattle.filterset_configuration.specs.declared.fault.LineageFault.TheVariants as lineages
use Rattle.filterset_sources.specs.Configurations.{IsConfiguration, RefusesConfiguration, configured_rows}
use Rattle.filterset_sources.specs.declared.configuration.Configuration.{Configuration}
use Rattle.filterset_sources.specs.declared.platforms.BuildPlatforms.{BuildPlatforms}
use Rattle.filterset_sources.specs.declared.refusal.SourceRefusal.TheVariants.{WrongValue}
use Rattle.filterset_loading.specs.Files.{BySource, IsContent, IsFaultAt, IsFileFault, name_of}
use Rattle.filterset_loading.specs.declared.fault.{CommandFault.CommandFault, FileFault.FileFault}
use Rattle.filterset_loading.specs.declared.fault.FileFault.TheVariants.{Refused, WrongCfg}
use Rattle.filterset_loading.specs.declared.{fault.FileRole.FileRole, profile.KnownPlatforms.KnownPlatforms}
use Rattle.filterset_loading.specs.declared.profile.{ProfileRequest.ProfileRequest, ProfilesFile.ProfilesFile}
use Rattle.filterset_loading.specs.declared.{request.WarningRequest.WarningRequest}
use Rattle.filterset_loading.specs.declared.fault.CommandFault.TheVariants as faults
use Rattle.filterset_loading.specs.declared.fault.FileRole.TheVariants as roles

-- the bytes of the file are this configuration, and its filtersets have these places in it
abbrev pub IsConfigurationIn : Option Text → Text → Configuration → List (Option Place) → Type 0
IsConfigurationIn content bytes configuration places = IsContent content bytes × IsConfiguration bytes configuration
    × ArePlaces bytes (configured_rows configuration.filtersets.items) places

-- what `rustc` sets for a platform, as a file says, if there is one
abbrev pub AreSettings : (Text → Option Text) → Option (Bor Text) → Option (Vec Cfg Global) → Type 0
AreSettings content None settings = settings ≡ None
AreSettings content (Some path) settings = IsSomeAnd settings (λ all. (text : Text) × IsContent (content path.now) text
    × cfgs.AreSettings text (map setting_of all.items))

-- what is known of the platforms of a build
abbrev pub AreKnown : (Text → Option Text) → ProfileRequest → BuildPlatforms → KnownPlatforms → Type 0
AreKnown content request built known = (known.host.triple ≡ built.host) × (known.target.triple ≡ built.target)
    × AreSettings content request.host_cfg known.host.cfg × AreSettings content request.target_cfg known.target.cfg

-- the configuration has these profiles, and so much is known of the platforms
abbrev pub AreProfilesIn : (Text → Option Text) → ProfileRequest → BuildPlatforms → ProfilesFile → Type 0
AreProfilesIn content request built file = let bytes = string_bytes file.text in (configuration : Configuration)
    × IsConfigurationIn (content request.configuration.now) bytes configuration file.places.places.items
    × (file.filtersets.items ≡ configuration.filtersets.items)
    × (file.groups.items ≡ configuration.groups.items) × (file.known.request ≡ request)
    × HasProfiles bytes file.known.profiles.items × AreKnown content request built file.known.platforms

-- the text has no profiles that are right
abbrev pub RefusesProfiles : Text → FileFault → Type 0
RefusesProfiles text (Refused (WrongValue wrong)) = ¬ ((profiles : List Profile) × HasProfiles text profiles)
RefusesProfiles text fault = ⊥

-- it is no configuration, or one with profiles that are wrong
abbrev pub RefusesFile : Text → FileFault → Type 0
RefusesFile text fault = BySource RefusesConfiguration text fault ⊎ RefusesProfiles text fault

-- the text is not what `rustc` sets for a platform
abbrev pub RefusesCfg : Text → FileFault → Type 0
RefusesCfg text (WrongCfg refusal) = cfgs.Refuses text refusal × (refusal ≢ OutOfMemory alloc_error)
RefusesCfg text fault = ⊥

-- a file that says what `rustc` sets for a platform is not used
abbrev pub IsSettingsFault : (Text → Option Text) → (Text → Error → Type 0) → FileRole → Option (Bor Text) → CommandFault → Type 0
IsSettingsFault content fails role path fault =
    IsSomeAnd path (λ p. IsFileFault content fails role RefusesCfg p.now fault)

-- the configuration at a path lacks the profile of a name, or one that it falls back on: the fault names the file, says why,
-- and names the profiles that there are
abbrev pub LacksProfile : Text → Text → List Profile → CommandFault → Type 0
LacksProfile configuration name profiles (faults.Profile file fault known) =
    (string_bytes file ≡ name_of configuration)
    × IsLineageFault profiles name fault × (fault ≢ lineages.OutOfMemory alloc_error)
    × (map (λ s. string_bytes s) known.items ≡ map (λ p. string_bytes p.name) profiles)
LacksProfile configuration name profiles _ = ⊥

-- the configuration with these bytes has a profile of the name, which falls back on these
abbrev pub HasNamed : Text → Text → Type 0
HasNamed bytes name =
    (profiles : List Profile) × (chain : List Profile) × HasProfiles bytes profiles × Lineage profiles name chain

-- a file of a profile is not used
abbrev pub IsUnread : (Text → Option Text) → (Text → Error → Type 0) → ProfileRequest → CommandFault → Type 0
IsUnread content fails request fault =
    IsFileFault content fails roles.Configuration RefusesFile request.configuration.now fault
    ⊎ IsSettingsFault content fails roles.HostCfg request.host_cfg fault
    ⊎ IsSettingsFault content fails roles.TargetCfg request.target_cfg fault

-- what keeps a profile from being used: a file that is not, or a configuration without the profile
abbrev pub IsProfileFault : (Text → Option Text) → (Text → Error → Type 0) → ProfileRequest → CommandFault → Type 0
IsProfileFault content fails request fault = IsUnread content fails request fault
    ⊎ ((built : BuildPlatforms) × (file : ProfilesFile) × AreProfilesIn content request built file
    × LacksProfile request.configuration.now request.name.now file.known.profiles.items fault)

-- the text of the file at this path has no profiles that are right
abbrev pub IsRefusedProfile : Text → Text → CommandFault → Type 0
IsRefusedProfile text path fault =
    (own : FileFault) × IsFaultAt roles.Configuration path own fault × RefusesProfiles text own

-- the profile that is requested, of the configuration at this path
abbrev pub profile_at : Bor Text → WarningRequest → ProfileRequest
profile_at path request = record {
  configuration = path;
  name = request.profile;
  target_cfg = request.target_cfg;
  host_cfg = request.host_cfg;
}
