-- Predicates that are alike say the same.
use Rattle.std.proofs.Common.{◌≡◌, ◌↔◌, ℕ, true, List, refl, ap}
use Rattle.std.specs.{Prelude.◌&&◌, Bool.beq, Cmp.booleans_Decides, Str.bytes_eq}
use Rattle.std.proofs.lemmas.{Bool.false≢true, Bool.and_parts, Slice.Eq.bytes_eq-Decides}
use Rattle.filterset_glob.specs.Equality.{same_tokens, same_tokens_is}
use Rattle.filterset_expression.proofs.Meanings.{alike_at}
use Rattle.filterset_expression.specs.Expression.{Lookup}
use Rattle.filterset_expression.specs.Meaning.{IsPackage, IsDependency, IsDependent, MeansOfBinary, MeansOfTest}
use Rattle.filterset_expression.specs.declared.expression.CompiledExpr.{CompiledExpr}
use Rattle.filterset_expression.specs.declared.query.{BinaryQuery.BinaryQuery, TestQuery.TestQuery}
use Rattle.filterset_grammar.specs.{Equality.same_platform, Tree.Leaf, Tree.Matching, Tree.Platform, Tree.Default}
use Rattle.filterset_grammar.specs.declared.predicate.Predicate.TheVariants.{Package, Deps, Rdeps, Kind, Binary, BinaryId, Test, Group}
use Rattle.filterset_grammar.specs.Tree as tree
use Rattle.filterset_graph.specs.declared.package.BuildPlatform.{BuildPlatform, TheVariants.Target, TheVariants.Host}
use Rattle.filterset_graph.specs.declared.package.PackageMetadata.{PackageMetadata}
use Rattle.filterset_matchers.specs.Matcher.{Matcher, Equal, Contains, Glob, Regex, MatchesName}
use Rattle.filterset_deciding.specs.Simplifying.Alike.{alike_matchers, identical_matchers, alike_leaves}

same : (P : Type 0) → P ↔ P
same P = (λ p. p, λ p. p)

same_texts : (a b : List ℕ) → bytes_eq a b ≡ true → a ≡ b
same_texts a b e = (bytes_eq-Decides a b).0 e

pub matches_alike : (m n : Matcher) → alike_matchers m n ≡ true → (text : List ℕ) → MatchesName m text ↔ MatchesName n text
matches_alike (Equal value implicit) (Equal other also) e text =
    alike_at (λ v. MatchesName (Equal v implicit) text) value other (same_texts value other e)
matches_alike (Contains value implicit) (Contains other also) e text =
    alike_at (λ v. MatchesName (Contains v implicit) text) value other (same_texts value other e)
matches_alike (Glob own tokens implicit) (Glob other others also) e text =
    alike_at (λ ts. MatchesName (Glob own ts implicit) text) tokens others (same_tokens_is tokens others e)
matches_alike (Regex pattern) (Regex other) e text =
    alike_at (λ p. MatchesName (Regex p) text) pattern other (same_texts pattern other e)
matches_alike _ _ e text = absurd (false≢true e)

pub identical_is : (m n : Matcher) → identical_matchers m n ≡ true → m ≡ n
identical_is (Equal value implicit) (Equal other also) e =
    let parts = and_parts (bytes_eq value other) (beq implicit also) e in
    let text = same_texts value other parts.0 in
    let sign = (booleans_Decides implicit also).0 parts.1 in
    λ i. Equal (text i) (sign i)
identical_is (Contains value implicit) (Contains other also) e =
    let parts = and_parts (bytes_eq value other) (beq implicit also) e in
    let text = same_texts value other parts.0 in
    let sign = (booleans_Decides implicit also).0 parts.1 in
    λ i. Contains (text i) (sign i)
identical_is (Glob own tokens implicit) (Glob other others also) e =
    let parts = and_parts (bytes_eq own other && same_tokens tokens others) (beq implicit also) e in
    let front = and_parts (bytes_eq own other) (same_tokens tokens others) parts.0 in
    let text = same_texts own other front.0 in
    let read = same_tokens_is tokens others front.1 in
    let sign = (booleans_Decides implicit also).0 parts.1 in
    λ i. Glob (text i) (read i) (sign i)
identical_is (Regex pattern) (Regex other) e = ap Regex (same_texts pattern other e)
identical_is _ _ e = absurd (false≢true e)

same_platforms : (p q : BuildPlatform) → same_platform p q ≡ true → p ≡ q
same_platforms Target Target e = refl
same_platforms Host Host e = refl
same_platforms _ _ e = absurd (false≢true e)

module _ (packages : List PackageMetadata) (m n : Matcher) (e : alike_matchers m n ≡ true) (id : List ℕ) where
  package_alike : IsPackage packages m id ↔ IsPackage packages n id
  package_alike = (
    λ p. (p.0, (p.1.0, (matches_alike m n e _).0 p.1.1), p.2),
    λ p. (p.0, (p.1.0, (matches_alike m n e _).1 p.1.1), p.2),
  )

  dependency_alike : IsDependency packages m id ↔ IsDependency packages n id
  dependency_alike = (
    λ p. (p.0, p.1, p.2, p.3, (p.4.0, (matches_alike m n e _).0 p.4.1), p.5),
    λ p. (p.0, p.1, p.2, p.3, (p.4.0, (matches_alike m n e _).1 p.4.1), p.5),
  )

  dependent_alike : IsDependent packages m id ↔ IsDependent packages n id
  dependent_alike = (
    λ p. (p.0, p.1, p.2, p.3, (p.4.0, (matches_alike m n e _).0 p.4.1), p.5),
    λ p. (p.0, p.1, p.2, p.3, (p.4.0, (matches_alike m n e _).1 p.4.1), p.5),
  )

-- so they do of a binary
pub binary_alike : {S : Type 0} (packages : List PackageMetadata) (binary : BinaryQuery) (l m : Leaf S)
    → alike_leaves l m ≡ true → MeansOfBinary packages binary l ↔ MeansOfBinary packages binary m
binary_alike packages binary (Matching Package m s) (Matching Package n t) e = package_alike packages m n e binary.package_id.now
binary_alike packages binary (Matching Deps m s) (Matching Deps n t) e = dependency_alike packages m n e binary.package_id.now
binary_alike packages binary (Matching Rdeps m s) (Matching Rdeps n t) e = dependent_alike packages m n e binary.package_id.now
binary_alike packages binary (Matching Kind m s) (Matching Kind n t) e = matches_alike m n e binary.kind.now
binary_alike packages binary (Matching Binary m s) (Matching Binary n t) e = matches_alike m n e binary.binary_name.now
binary_alike packages binary (Matching BinaryId m s) (Matching BinaryId n t) e = matches_alike m n e binary.binary_id.now
binary_alike packages binary (Matching Test m s) (Matching Test n t) e = same ⊥
binary_alike packages binary (Matching Group m s) (Matching Group n t) e = same ⊥
binary_alike packages binary (Platform p s) (Platform q t) e = alike_at (λ k. binary.platform ≡ k) p q (same_platforms p q e)
binary_alike packages binary (Default s) (Default t) e = same ⊥
binary_alike packages binary tree.All tree.All e = same (Unit {0})
binary_alike packages binary tree.None tree.None e = same ⊥
binary_alike packages binary _ _ e = absurd (false≢true e)

-- and of a test
pub test_alike : {S : Type 0} (packages : List PackageMetadata) (test : TestQuery) (default : CompiledExpr) (lookup : Lookup) (l m : Leaf S)
    → alike_leaves l m ≡ true → MeansOfTest packages test default lookup l ↔ MeansOfTest packages test default lookup m
test_alike packages test default lookup (Matching Package m s) (Matching Package n t) e = package_alike packages m n e test.binary_query.package_id.now
test_alike packages test default lookup (Matching Deps m s) (Matching Deps n t) e = dependency_alike packages m n e test.binary_query.package_id.now
test_alike packages test default lookup (Matching Rdeps m s) (Matching Rdeps n t) e = dependent_alike packages m n e test.binary_query.package_id.now
test_alike packages test default lookup (Matching Kind m s) (Matching Kind n t) e = matches_alike m n e test.binary_query.kind.now
test_alike packages test default lookup (Matching Binary m s) (Matching Binary n t) e = matches_alike m n e test.binary_query.binary_name.now
test_alike packages test default lookup (Matching BinaryId m s) (Matching BinaryId n t) e = matches_alike m n e test.binary_query.binary_id.now
test_alike packages test default lookup (Matching Test m s) (Matching Test n t) e = matches_alike m n e test.test_name.now
test_alike packages test default lookup (Matching Group m s) (Matching Group n t) e = alike_at (λ k. lookup test k) m n (identical_is m n e)
test_alike packages test default lookup (Platform p s) (Platform q t) e = alike_at (λ k. test.binary_query.platform ≡ k) p q (same_platforms p q e)
test_alike packages test default lookup (Default s) (Default t) e = same (MeansOfTest packages test default lookup (Default s))
test_alike packages test default lookup tree.All tree.All e = same (Unit {0})
test_alike packages test default lookup tree.None tree.None e = same ⊥
test_alike packages test default lookup _ _ e = absurd (false≢true e)
