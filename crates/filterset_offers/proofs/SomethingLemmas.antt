-- What is counted of what predicates match, and which packages are picked.
use Rattle.std.proofs.Common.{◌≡◌, ◌<◌, ◌↔◌, ◌∙◌, ap, ℕ, List, [], length, refl, subst, sym}
use Rattle.std.specs.Prelude.{Any, Contains, None, Some}
use Rattle.std.proofs.lemmas.List.{length-map}
use Rattle.filterset_graph.proofs.Positions.{Contains-from_position, mapped_at, position_from_Contains}
use Rattle.filterset_graph.specs.Packages.{Path, Text, ids}
use Rattle.filterset_graph.specs.declared.package.PackageMetadata.{PackageMetadata}
use Rattle.filterset_grammar.specs.Tree as tree
use Rattle.filterset_grammar.specs.Tree.{Leaf, Matching, Platform, Default}
use Rattle.filterset_grammar.specs.declared.predicate.Predicate.TheVariants.{Package, Deps, Rdeps, Kind, Binary, BinaryId, Test, Group}
use Rattle.filterset_matchers.specs.Matcher.{Matcher, MatchesName}
use Rattle.filterset_offers.specs.Matched.{IsBuiltFor, IsShortlist, PicksPackage, PicksSuite, Shortlists, binary_id, package_name}
use Rattle.filterset_offers.specs.{Sieves.Selects, Something.CountsTheSame, Something.IsMemberNamed, Something.tests_of}
use Rattle.filterset_offers.specs.Workspaces.{WorkspaceRow}
use Rattle.filterset_offers.specs.declared.matched.Matched.TheVariants.{Packages, Binaries, Tests}
use Rattle.filterset_offers.specs.declared.{matched.Shortlist.Shortlist, packages.Reach.Reach}
use Rattle.filterset_offers.specs.declared.packages.Reach.TheVariants.{Alone, Dependencies, Dependents}
use Rattle.filterset_offers.proofs.AnyLemmas.{selects_some}
use Rattle.filterset_offers.specs.declared.matching.Compared.TheVariants as compared

-- ---- packages

-- a package alone is a path
alone : (packages : List PackageMetadata) (p : PackageMetadata) → Contains packages p → Path packages p.id p.id
alone packages p has =
    let at = position_from_Contains packages p has in
    (Contains-from_position (ids packages) p.id at.0 (mapped_at (λ (q : PackageMetadata). q.id) packages at.0 p at.1), ([], refl))

-- a package of the workspace whose name matches is picked, and without one none is
pub picks_some : (packages : List PackageMetadata) (matcher : Matcher) (reach : Reach)
    → Any (IsMemberNamed matcher) packages ↔ Any (PicksPackage packages reach matcher) packages
picks_some packages matcher Alone = (
  (λ (k, p, lt, at, (member, named)). (k, p, lt, at, (p, (((k, lt, at), member), named), refl))),
  (λ (k, p, lt, at, (q, is, same)). (is.0.0.0, q, is.0.0.1, is.0.0.2, (is.0.1, is.1))),
)
picks_some packages matcher Dependencies = (
  (λ (k, p, lt, at, (member, named)). (k, p, lt, at, (p, p, ((k, lt, at), member), refl, (((k, lt, at), member), named), alone packages p (k, lt, at)))),
  (λ (k, p, lt, at, (q, from, own, same, is, path)). (is.0.0.0, from, is.0.0.1, is.0.0.2, (is.0.1, is.1))),
)
picks_some packages matcher Dependents = (
  (λ (k, p, lt, at, (member, named)). (k, p, lt, at, (p, p, ((k, lt, at), member), refl, (((k, lt, at), member), named), alone packages p (k, lt, at)))),
  (λ (k, p, lt, at, (q, to, own, same, is, path)). (is.0.0.0, to, is.0.0.1, is.0.0.2, (is.0.1, is.1))),
)

-- ---- counts

along : {X : Type 0} (count n : ℕ) → count ≡ n → X ↔ 0 < n → X ↔ 0 < count
along {X} count n same is = let P : ℕ → Type 0 = λ m. X ↔ 0 < m in subst P (sym same) is

-- a shortlist counts some exactly if the fact holds for an element
counts : {A : Type 0} (In : A → Type 0) (name : A → Text) (xs : List A) (short : Shortlist) → Shortlists In name xs short → Any In xs ↔ 0 < short.count
counts In name xs short (names, (found, are, called), (firsts, counted)) =
    along short.count (length found) (counted ∙ ap length called ∙ length-map found name) (selects_some In xs found are)

-- and so for names that are selected
counts_names : (In : Text → Type 0) (xs found : List Text) (short : Shortlist) → Selects In xs found → IsShortlist found short → Any In xs ↔ 0 < short.count
counts_names In xs found short are is = along short.count (length found) is.1 (selects_some In xs found are)

pub counts_the_same : {S : Type 0} (w : WorkspaceRow) (leaf : Leaf S) → CountsTheSame w leaf
counts_the_same w (Matching Package matcher span) (Some (Packages short)) are = counts (PicksPackage w.packages Alone matcher) package_name w.packages short are
counts_the_same w (Matching Deps matcher span) (Some (Packages short)) are = counts (PicksPackage w.packages Dependencies matcher) package_name w.packages short are
counts_the_same w (Matching Rdeps matcher span) (Some (Packages short)) are = counts (PicksPackage w.packages Dependents matcher) package_name w.packages short are
counts_the_same w (Matching Kind matcher span) (Some (Binaries short)) are = counts (PicksSuite compared.Kind matcher) binary_id w.suites short are
counts_the_same w (Matching Binary matcher span) (Some (Binaries short)) are = counts (PicksSuite compared.Name matcher) binary_id w.suites short are
counts_the_same w (Matching BinaryId matcher span) (Some (Binaries short)) are = counts (PicksSuite compared.Id matcher) binary_id w.suites short are
counts_the_same w (Platform platform span) (Some (Binaries short)) are = counts (IsBuiltFor platform) binary_id w.suites short are
counts_the_same w (Matching Test matcher span) (Some (Tests short)) are = counts_names (MatchesName matcher) (tests_of w) are.0 short are.1 are.2
counts_the_same w (Matching Group matcher span) None are = ((λ h. h), (λ h. h))
counts_the_same w (Default span) None are = ((λ h. h), (λ h. h))
counts_the_same w tree.All None are = ((λ h. h), (λ h. h))
counts_the_same w tree.None None are = ((λ h. h), (λ h. h))
counts_the_same w (Matching Group matcher span) (Some m) are = absurd (cc)
counts_the_same w (Default span) (Some m) are = absurd (cc)
counts_the_same w tree.All (Some m) are = absurd (cc)
counts_the_same w tree.None (Some m) are = absurd (cc)
counts_the_same w _ _ are = absurd are
