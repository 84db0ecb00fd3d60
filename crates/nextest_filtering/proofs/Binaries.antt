-- The test binaries of a workspace as they are kept, and as they are told by the targets of its packages.
use Rattle.std.proofs.Common.{◌≡◌, ◌≢◌, ℕ, List, map, refl, sym, ap, subst, ◌∙◌}
use Rattle.std.specs.Prelude.{All, Contains, Option, Some, None, option_map, string_bytes}
use Rattle.std.proofs.lemmas.List.Elements.{All-contains}
use Rattle.filterset_graph.specs.Binaries.{kind_of, written_id, IsWorkspaceTarget, IsBinaryName, IsBinaryId}
use Rattle.filterset_graph.specs.declared.package.{BuildTarget.BuildTarget, BuildTargetId.BuildTargetId}
use Rattle.filterset_graph.specs.declared.package.BuildTargetId.TheVariants.{Library, Binary, Example, Test, Benchmark, BuildScript}
use Rattle.filterset_graph.specs.declared.package.PackageMetadata.{PackageMetadata}
use Rattle.filterset_matchers.specs.Matcher.{Matcher, MatchesName}
use Rattle.nextest_filtering.proofs.Members.{kept, from_filter, chosen, from_chosen, joined, from_joined, mapped, from_mapped}
use Rattle.nextest_filtering.specs.Binaries.{NameAndId, name_and_id, binary_with, binary_of, binaries_of, members_of, test_binaries}
use Rattle.nextest_filtering.specs.{Checks.MatchesSomeName, declared.compile.context.TestBinary.TestBinary}

-- a target of a workspace package that a test binary is made of
pub record Made (packages : List PackageMetadata) (row : NameAndId) : Type 0 where
  pub p : PackageMetadata
  pub target : BuildTarget
  pub kind : List ℕ
  pub stands : IsWorkspaceTarget packages p target
  pub is_kind : kind_of target.id ≡ Some kind
  pub name : row.name ≡ string_bytes target.name
  pub id : row.id ≡ written_id (string_bytes p.name) kind (string_bytes target.name)

row_of : (p : PackageMetadata) (target : BuildTarget) (kind : List ℕ) → kind_of target.id ≡ Some kind → binary_of p target ≡ Some (binary_with p target kind)
row_of p target kind e = ap (option_map (binary_with p target)) e

made_of : (packages : List PackageMetadata) (row : NameAndId) (p : PackageMetadata) (target : BuildTarget) → IsWorkspaceTarget packages p target → binary_of p target ≡ Some row → Made packages row
made_of packages row p target stands is = by (kind_of target.id) refl
  where
    by : (o : Option (List ℕ)) → kind_of target.id ≡ o → Made packages row
    by (Some kind) e = let same : binary_with p target kind ≡ row = (let h = sym (row_of p target kind e) ∙ is in cc) in
        record { p = p; target = target; kind = kind; stands = stands; is_kind = e; name = ap (λ (r : NameAndId). r.name) (sym same); id = ap (λ (r : NameAndId). r.id) (sym same) }
    by None e = absurd (let h : option_map (binary_with p target) None ≡ Some row = ap (option_map (binary_with p target)) (sym e) ∙ is in cc)

-- each binary that is kept is made of such a target
pub made : (packages : List PackageMetadata) (row : NameAndId) → Contains (test_binaries packages) row → Made packages row
made packages row c =
    let owner = from_joined binaries_of (members_of packages) row c in
    let member = from_filter (λ (p : PackageMetadata). p.in_workspace) packages owner.0 owner.1 in
    let target = from_chosen (binary_of owner.0) owner.0.build_targets.items row owner.2 in
    made_of packages row owner.0 target.0 (member.0, member.1, target.1) target.2

-- and each such target has a binary that is kept
pub stands_for : (packages : List PackageMetadata) (p : PackageMetadata) (target : BuildTarget) (kind : List ℕ) → IsWorkspaceTarget packages p target → kind_of target.id ≡ Some kind
    → Contains (test_binaries packages) (binary_with p target kind)
stands_for packages p target kind stands is =
    joined binaries_of (members_of packages) p (binary_with p target kind) (kept (λ (q : PackageMetadata). q.in_workspace) packages p stands.0 stands.1)
    (chosen (binary_of p) p.build_targets.items target (binary_with p target kind) stands.2 (row_of p target kind is))

-- a target is no build script exactly where a test binary is made of it
no_script : (target : BuildTarget) (kind : List ℕ) → kind_of target.id ≡ Some kind → target.id ≢ BuildScript
no_script target kind is e = let h : kind_of BuildScript ≡ Some kind = ap kind_of (sym e) ∙ is in cc

has_kind : (id : BuildTargetId) → id ≢ BuildScript → (kind : List ℕ) × (kind_of id ≡ Some kind)
has_kind Library apart = (_, refl)
has_kind Binary apart = (_, refl)
has_kind Example apart = (_, refl)
has_kind Test apart = (_, refl)
has_kind Benchmark apart = (_, refl)
has_kind BuildScript apart = absurd (apart refl)

module _ (packages : List PackageMetadata) (matcher : Matcher) where
  pub matches_name : (row : NameAndId) → Contains (test_binaries packages) row → MatchesName matcher row.name → MatchesSomeName matcher (IsBinaryName packages)
  matches_name row c matched = let m = made packages row c in (row.name, (m.p, m.target, m.stands, no_script m.target m.kind m.is_kind, sym m.name), matched)

  pub matches_no_name : ((row : NameAndId) → Contains (test_binaries packages) row → ¬ MatchesName matcher row.name) → ¬ MatchesSomeName matcher (IsBinaryName packages)
  matches_no_name none h =
      let is = h.1 in let kind = has_kind is.1.id is.3 in
      none (binary_with is.0 is.1 kind.0) (stands_for packages is.0 is.1 kind.0 is.2 kind.1) (subst (MatchesName matcher) (sym is.4) h.2)

  pub matches_id : (row : NameAndId) → Contains (test_binaries packages) row → MatchesName matcher row.id → MatchesSomeName matcher (IsBinaryId packages)
  matches_id row c matched = let m = made packages row c in (row.id, (m.p, m.target, m.kind, m.stands, m.is_kind, m.id), matched)

  pub matches_no_id : ((row : NameAndId) → Contains (test_binaries packages) row → ¬ MatchesName matcher row.id) → ¬ MatchesSomeName matcher (IsBinaryId packages)
  matches_no_id none h =
      let is = h.1 in none (binary_with is.0 is.1 is.2) (stands_for packages is.0 is.1 is.2 is.3 is.4) (subst (MatchesName matcher) is.5 h.2)

-- ---- binaries as they are kept

module _ (packages : List PackageMetadata) (binaries : List TestBinary) (are : map name_and_id binaries ≡ test_binaries packages) where
  pub is_kept : (b : TestBinary) → Contains binaries b → Contains (test_binaries packages) (name_and_id b)
  is_kept b c = subst (λ (rows : List NameAndId). Contains rows (name_and_id b)) are (mapped name_and_id binaries b c)

  pub of_kept : (P : NameAndId → Type 0) → All (λ b. P (name_and_id b)) binaries → (row : NameAndId) → Contains (test_binaries packages) row → P row
  of_kept P all row c =
      let b = from_mapped name_and_id binaries row (subst (λ (rows : List NameAndId). Contains rows row) (sym are) c) in
      subst P b.2 (All-contains (λ (b : TestBinary). P (name_and_id b)) binaries b.0 all b.1)
