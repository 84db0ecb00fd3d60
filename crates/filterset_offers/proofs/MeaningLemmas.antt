-- What is said of a test binary is what its query is asked.
use Rattle.std.proofs.Common.{◌≡◌, ◌↔◌, List, sym, subst}
use Rattle.filterset_expression.specs.Meaning.{IsDependency, IsDependent, IsPackage}
use Rattle.filterset_graph.specs.declared.package.{BuildPlatform.BuildPlatform, PackageMetadata.PackageMetadata}
use Rattle.filterset_grammar.specs.Tree as tree
use Rattle.filterset_grammar.specs.Tree.{Leaf, Matching, Platform, Default}
use Rattle.filterset_grammar.specs.declared.predicate.Predicate.TheVariants.{Package, Deps, Rdeps, Kind, Binary, BinaryId, Test, Group}
use Rattle.filterset_matchers.specs.Matcher.{MatchesName}
use Rattle.filterset_offers.specs.Matched.{MeansTheSame}

along : {A : Type 0} (P : A → Type 0) (a b : A) → b ≡ a → P a ↔ P b
along P a b e = ((λ h. subst P (sym e) h), (λ h. subst P e h))

pub means_the_same : {S : Type 0} (packages : List PackageMetadata) (leaf : Leaf S) → MeansTheSame packages leaf
means_the_same packages (Matching Package matcher span) suite query is = along (IsPackage packages matcher) _ _ is.0
means_the_same packages (Matching Deps matcher span) suite query is = along (IsDependency packages matcher) _ _ is.0
means_the_same packages (Matching Rdeps matcher span) suite query is = along (IsDependent packages matcher) _ _ is.0
means_the_same packages (Matching Kind matcher span) suite query is = along (MatchesName matcher) _ _ is.3
means_the_same packages (Matching Binary matcher span) suite query is = along (MatchesName matcher) _ _ is.2
means_the_same packages (Matching BinaryId matcher span) suite query is = along (MatchesName matcher) _ _ is.1
means_the_same packages (Matching Test matcher span) suite query is = ((λ h. h), (λ h. h))
means_the_same packages (Matching Group matcher span) suite query is = ((λ h. h), (λ h. h))
means_the_same packages (Platform platform span) suite query is = along (λ (q : BuildPlatform). q ≡ platform) _ _ is.4
means_the_same packages (Default span) suite query is = ((λ h. h), (λ h. h))
means_the_same packages tree.All suite query is = ((λ h. h), (λ h. h))
means_the_same packages tree.None suite query is = ((λ h. h), (λ h. h))
