-- The packages that predicates match, by name.
use Rattle.std.specs.Prelude.{◌≡◌, ◌-◌, Bool, true, false, List, Option, Some, None, filter, length, map, string_bytes, take}
use Rattle.std.specs.{List.list_any, Str.bytes_eq}
use Rattle.filterset_faults.specs.declared.span.SourceSpan.{SourceSpan}
use Rattle.filterset_graph.specs.{Packages.Text, declared.package.PackageMetadata.PackageMetadata}
use Rattle.filterset_grammar.specs.Tree.{Tree, Leaf, Matching, Set}
use Rattle.filterset_grammar.specs.declared.predicate.Predicate.TheVariants.{Package, Deps, Rdeps}
use Rattle.filterset_expression.specs.Expression as compiled
use Rattle.filterset_expression.specs.Meaning.{IsCompiledLeaf}
use Rattle.filterset_listing.specs.declared.explaining.packages.NamedPackages.{NamedPackages}

-- the packages of the graph whose ids are in the set, each once and in the order of the graph
abbrev pub members : List Text → List PackageMetadata → List PackageMetadata
members set packages = filter (λ (p : PackageMetadata). list_any (bytes_eq p.id) set) packages

-- the first ten of the packages by name, and the number of the others
abbrev pub Names : List PackageMetadata → NamedPackages → Type 0
Names packages named =
    (map (λ n. n.now) named.names.items ≡ map (λ (p : PackageMetadata). string_bytes p.name) (take 10 packages))
    × (named.others ≡ length packages - 10)

-- the predicate matches packages
abbrev pub stands_for_packages : {S : Type 0} → Tree S → Bool
stands_for_packages (Set (Matching Package matcher span)) = true
stands_for_packages (Set (Matching Deps matcher span)) = true
stands_for_packages (Set (Matching Rdeps matcher span)) = true
stands_for_packages e = false

-- a predicate of packages names the packages that it matches, and no other node names any
abbrev pub NamesPackages : List PackageMetadata → Tree SourceSpan → Option NamedPackages → Type 0
NamesPackages packages e (Some named) = (leaf : Leaf SourceSpan) × (set : List Text) × (e ≡ Set leaf)
    × IsCompiledLeaf packages leaf (compiled.Packages set) × Names (members set packages) named
NamesPackages packages e None = stands_for_packages e ≡ false
