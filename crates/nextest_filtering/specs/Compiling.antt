-- What it means that a filterset is accepted or rejected.
use Rattle.std.specs.Prelude.{◌≡◌, ◌≢◌, ◌⊎◌, ℕ, List, [], All, string_bytes}
use Rattle.std.specs.declared.{alloc.Global.Global, string.String.String}
use Rattle.filterset_faults.specs.declared.{error.ParseSingleError.ParseSingleError, kind.FiltersetKind.FiltersetKind}
use Rattle.filterset_faults.specs.declared.span.SourceSpan.{SourceSpan}
use Rattle.filterset_graph.specs.declared.package.PackageMetadata.{PackageMetadata}
use Rattle.filterset_language.specs.Parsed.{Reads, LiesOnBody, LiesOnLargeBody, IsUnreadWith}
use Rattle.filterset_language.specs.declared.parsing.parse.ParseStop.{ParseStop}
use Rattle.filterset_grammar.specs.Tree.{Tree, tree_leaves}
use Rattle.filterset_language.specs.declared.parsing.parse.ParseStop.TheVariants as stop
use Rattle.nextest_filtering.specs.{Bans.bans, Bans.IsAllowed, Checks.AllChecked, Checks.AreUnmatched}
use Rattle.nextest_filtering.specs.declared.compile.context.{KnownGroups.KnownGroups, ParseContext.ParseContext}
use Rattle.nextest_filtering.specs.declared.filterset.ParseRefusal.{ParseRefusal}
use Rattle.nextest_filtering.specs.declared.filterset.ParseRefusal.TheVariants.{Faults, OutOfMemory}

-- the packages that a context knows
abbrev pub packages_of : ParseContext → List PackageMetadata
packages_of cx = cx.graph.now

-- ---- acceptance

-- The tree makes the text a filterset of this kind: the text spells it, the grammar of `regex` reads each of its
-- patterns, none of its predicates is banned from filtersets of this kind, and each that names packages, test binaries
-- or groups matches one.
pub record IsFiltersetOf (text : List ℕ) (kind : FiltersetKind) (packages : List PackageMetadata) (groups : KnownGroups)
    (e : Tree SourceSpan) : Type 0 where
  pub reads : Reads text e
  pub allowed : IsAllowed kind e
  pub checked : AllChecked packages groups e

-- ---- refusal

-- Faults that refuse a tree that was read: where some of its predicates are banned, exactly their faults; else exactly
-- those of the unmatched ones. There is at least one, and they are in the order of the predicates.
pub data IsRejectedWith (kind : FiltersetKind) (packages : List PackageMetadata) (groups : KnownGroups)
    (e : Tree SourceSpan) (faults : List ParseSingleError) : Type 0 where
  banned : faults ≡ bans kind e → faults ≢ [] → IsRejectedWith kind packages groups e faults
  unmatched : IsAllowed kind e → AreUnmatched packages groups (tree_leaves e) faults → faults ≢ []
      → IsRejectedWith kind packages groups e faults

-- why a text is refused with these faults
pub data IsRefusedWith (text : List ℕ) (kind : FiltersetKind) (packages : List PackageMetadata) (groups : KnownGroups)
    (faults : List ParseSingleError) : Type 0 where
  -- the parser found them
  found : IsUnreadWith text faults → IsRefusedWith text kind packages groups faults
  -- the text reads as a tree, which they refuse
  rejected : (e : Tree SourceSpan) → Reads text e → IsRejectedWith kind packages groups e faults
      → IsRefusedWith text kind packages groups faults

-- the refusal returns the input, and its faults are ones that refuse it
abbrev pub IsRefusalOf :
    String Global → FiltersetKind → List PackageMetadata → KnownGroups → ParseRefusal → Type 0
IsRefusalOf input kind packages groups (Faults refused) =
    (refused.input ≡ input) × IsRefusedWith (string_bytes input) kind packages groups refused.errors.items
IsRefusalOf input kind packages groups (OutOfMemory given) = given ≡ input

-- The refusal of a text that spells the tree: its faults lie on bodies of the tree's regular expressions, or they are
-- those that refuse the tree.
abbrev pub IsRefusalOfTree :
    List ℕ → FiltersetKind → List PackageMetadata → KnownGroups → Tree SourceSpan → ParseRefusal → Type 0
IsRefusalOfTree text kind packages groups e (Faults refused) =
    All (LiesOnBody text e) refused.errors.items ⊎ IsRejectedWith kind packages groups e refused.errors.items
IsRefusalOfTree text kind packages groups e (OutOfMemory given) = Unit {0}

-- A refusal by faults: there is one at least, and each lies on the body of one of the tree's regular expressions, whose
-- pattern the grammar of `regex` reads, and may be too large.
abbrev pub IsRefusalOfBodies : List ℕ → Tree SourceSpan → ParseRefusal → Type 0
IsRefusalOfBodies text e (Faults refused) =
    (refused.errors.items ≢ []) × All (LiesOnLargeBody text e) refused.errors.items
IsRefusalOfBodies text e (OutOfMemory given) = Unit {0}

-- why parsing a text stopped
abbrev pub IsStopOf : List ℕ → FiltersetKind → List PackageMetadata → KnownGroups → ParseStop → Type 0
IsStopOf text kind packages groups (stop.Faults faults) = IsRefusedWith text kind packages groups faults.items
IsStopOf text kind packages groups (stop.OutOfMemory error) = Unit {0}

-- why compiling a tree stopped
abbrev pub IsRejectionOf :
    FiltersetKind → List PackageMetadata → KnownGroups → Tree SourceSpan → ParseStop → Type 0
IsRejectionOf kind packages groups e (stop.Faults faults) = IsRejectedWith kind packages groups e faults.items
IsRejectionOf kind packages groups e (stop.OutOfMemory error) = Unit {0}
