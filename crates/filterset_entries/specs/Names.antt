-- Which names filtersets may use, and which faults count if not all names are known.
use mathlib.Core.Path.{refl}
use Rattle.std.specs.Prelude.{◌≡◌, List, Bool, true}
use Rattle.filterset_display.specs.Columns.{Text}
use Rattle.filterset_faults.specs.declared.error.ParseSingleError.{ParseSingleError}
use Rattle.filterset_faults.specs.declared.error.ParseSingleError.TheVariants.{NoPackageMatch, NoBinaryIdMatch, NoBinaryNameMatch, NoGroupMatch}
use Rattle.filterset_graph.specs.declared.package.PackageMetadata.{PackageMetadata}
use Rattle.nextest_filtering.specs.{Compiling.packages_of, Groups.AreGroups, Groups.IsKnown}
use Rattle.nextest_filtering.specs.declared.compile.context.KnownGroups.{KnownGroups, TheVariants.Known, TheVariants.Unavailable}
use Rattle.filterset_entries.specs.declared.names.Names.{Names}

-- whether the fault counts: it is about no name, or about a name of which enough is known
abbrev pub is_judged : Names → ParseSingleError → Bool
is_judged names (NoPackageMatch span) = names.has_packages
is_judged names (NoBinaryIdMatch span) = names.has_packages
is_judged names (NoBinaryNameMatch span) = names.has_packages
is_judged names (NoGroupMatch span) = names.has_groups
is_judged names _ = true

-- the names are those of these packages and custom groups, and are those of a workspace or not
abbrev pub KnowsNames : Bool → List PackageMetadata → Bool → List Text → Names → Type 0
KnowsNames has_packages packages has_groups groups names =
    (packages_of names.parse_context ≡ packages) × AreGroups groups names.known_groups
    × (names.has_packages ≡ has_packages) × (names.has_groups ≡ has_groups)

-- that groups are known is a fact
pub is_known_prop : (groups : KnownGroups) → IsProp (IsKnown groups)
is_known_prop (Known names) x y = refl
is_known_prop Unavailable x y = absurd x
