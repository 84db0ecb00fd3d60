-- The texts of a profile, each with its path in the configuration and its place in the file, and the keys that it sets.
use Rattle.std.specs.Prelude.{◌≡◌, ◌++◌, None, Option, Some, Err, Ok, Result, codes, option_and_then, option_map, position, string_bytes}
use Rattle.std.specs.Str.{bytes_eq}
use Rattle.filterset_display.specs.Columns.{Text}
use Rattle.filterset_faults.specs.declared.kind.FiltersetKind.{FiltersetKind}
use Rattle.filterset_faults.specs.declared.kind.FiltersetKind.TheVariants as kinds
use Rattle.filterset_overrides.specs.declared.asked.AskedProfile.{AskedProfile}
use Rattle.filterset_configuration.specs.declared.{profiles.Profile.Profile, ranking.RankedOverride.RankedOverride}
use Rattle.filterset_entries.specs.Checked.{TextRow, row_of, text_row}
use Rattle.filterset_configuration.specs.declared.defaults.DefaultFilter as defaults
use Rattle.filterset_configuration.specs.declared.defaults.DefaultFilter.TheVariants.{All, Set, Unknown}
use Rattle.filterset_entries.specs.{Entries.default_row, Entries.placement_at, declared.entries.ConfiguredTexts.ConfiguredTexts}
use Rattle.filterset_entries.specs.declared.{profile.ChosenFilter.ChosenFilter, setting.OverrideEntry.OverrideEntry}
use Rattle.filterset_entries.specs.declared.profile.ChosenFilter.TheVariants as chosens

-- the text that a configuration has at a path, and where that is in the file, if it was found there
abbrev pub row_at : ConfiguredTexts → Text → FiltersetKind → Text → TextRow
row_at texts path kind text = record (row_of path kind text) {
  place = option_and_then (placement_at texts) (position (λ f. bytes_eq (string_bytes f.path) path) texts.filtersets.now);
}

-- the override, with the group that it puts its tests in, the keys that it sets, and the text of its filter
abbrev pub IsEntryOf : ConfiguredTexts → RankedOverride → OverrideEntry → Type 0
IsEntryOf texts ranked entry = let path = string_bytes ranked.path in
    (entry.path.now ≡ path) × (entry.for_target ≡ ranked.for_target) × (entry.for_host ≡ ranked.for_host)
    × (option_map (λ g. g.now) entry.group ≡ option_map (λ g. string_bytes g) ranked.read.now.test_group)
    × (entry.settings.now ≡ ranked.read.now.settings.items)
    × (option_map text_row entry.filter
    ≡ option_map (λ f. row_at texts (path ++ codes ".filter") kinds.OverrideFilter (string_bytes f)) ranked.read.now.filter)

-- the profile, with the keys that it sets
abbrev pub IsProfileOf : Profile → AskedProfile → Type 0
IsProfileOf profile asked =
    (asked.name.now ≡ string_bytes profile.name) × (asked.settings.now ≡ profile.settings.items)

-- the default filter that is given, or else that of the profile, or all tests; or the path that it is not known by
abbrev pub chosen : ConfiguredTexts → Option TextRow → defaults.DefaultFilter → Result TextRow Text
chosen texts (Some row) filter = Ok row
chosen texts None (Set path text) = Ok (row_at texts (string_bytes path) kinds.DefaultFilter text.now)
chosen texts None (Unknown path) = Err (string_bytes path)
chosen texts None All = Ok (default_row (codes "all()"))

-- the default filter that is given, or else that of the profile or all tests; or the path that says why it is not known
abbrev pub IsChosen : ConfiguredTexts → Option TextRow → defaults.DefaultFilter → ChosenFilter → Type 0
IsChosen texts given filter (chosens.Entry entry) =
    (chosen texts given filter ≡ Ok (text_row entry)) × (entry.kind ≡ kinds.DefaultFilter)
IsChosen texts given filter (chosens.Unknown path) = chosen texts given filter ≡ Err (string_bytes path)
