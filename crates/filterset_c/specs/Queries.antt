-- What C asks about.
use Rattle.std.specs.{Prelude.◌≡◌, Prelude.◌<◌, Prelude.ℕ, Prelude.All, Prelude.List, Str.IsUtf8}
use Rattle.filterset_expression.specs.Expression.{Lookup}
use Rattle.filterset_expression.specs.declared.query.{BinaryQuery.BinaryQuery, TestQuery.TestQuery}
use Rattle.filterset_graph.specs.declared.package.BuildPlatform.{BuildPlatform, TheVariants.Target, TheVariants.Host}
use Rattle.filterset_matchers.specs.Matcher.{MatchesName}
use Rattle.filterset_c.specs.declared.queries.{Binary.Binary, KnownBinary.KnownBinary, KnownTest.KnownTest, Test.Test}
use Rattle.filterset_c.specs.declared.queries.Text.{Text}

-- the platform that has this number
abbrev pub HasPlatform : ℕ → BuildPlatform → Type 0
HasPlatform number Target = number ≡ 0
HasPlatform number Host = number ≡ 1

-- the query is about the binary that C describes
pub record IsAbout (binary : Binary) (query : BinaryQuery) : Type 0 where
  pub package_id : query.package_id.now ≡ binary.package_id.now
  pub binary_id : query.binary_id.now ≡ binary.binary_id.now
  pub name : query.binary_name.now ≡ binary.name.now
  pub kind : query.kind.now ≡ binary.kind.now
  pub platform : HasPlatform binary.platform query.platform

-- the query is about the test of the binary that C describes
pub record IsAboutTest (binary : Binary) (test : Test) (query : TestQuery) : Type 0 where
  pub of_binary : IsAbout binary query.binary_query
  pub name : query.test_name.now ≡ test.name.now

-- the texts of a binary are UTF-8
abbrev pub HasTexts : Binary → Type 0
HasTexts binary = IsUtf8 binary.package_id.now × IsUtf8 binary.binary_id.now × IsUtf8 binary.name.now
    × IsUtf8 binary.kind.now

-- the same, and its platform is one
abbrev pub IsWellBinary : Binary → Type 0
IsWellBinary binary = HasTexts binary × (binary.platform < 2)

-- the texts of a test are UTF-8
abbrev pub IsWellTest : Test → Type 0
IsWellTest test = IsUtf8 test.name.now × IsUtf8 test.group.now

-- the text is UTF-8
abbrev pub IsText : Text → Type 0
IsText text = IsUtf8 text.bytes.now

-- all texts of a question are UTF-8
abbrev pub AreTexts : Binary → Test → Type 0
AreTexts binary test = HasTexts binary × IsWellTest test

abbrev pub AreAllTexts : Binary → List Test → Type 0
AreAllTexts binary tests = HasTexts binary × All IsWellTest tests

-- every test is in the group that has this name
abbrev pub matches_named : List ℕ → Lookup
matches_named name test matcher = MatchesName matcher name

-- ---- in types of the library

-- the binary that C describes
pub record IsKnownBinary (binary : Binary) (known : KnownBinary) : Type 0 where
  pub package_id : known.package_id ≡ binary.package_id.now
  pub binary_id : known.binary_id ≡ binary.binary_id.now
  pub name : known.name.now ≡ binary.name.now
  pub kind : known.kind ≡ binary.kind.now
  pub platform : HasPlatform binary.platform known.platform

-- the test that C describes
pub record IsKnownTest (test : Test) (known : KnownTest) : Type 0 where
  pub name : known.name ≡ test.name.now
  pub group : known.group.name.now ≡ test.group.now
