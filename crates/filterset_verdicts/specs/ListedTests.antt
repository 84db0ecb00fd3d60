-- The tests that nextest lists.
use Rattle.std.specs.{Prelude.◌≡◌, Prelude.List, Prelude.[], Prelude.map, Prelude.string_bytes, List.flat_map}
use Rattle.filterset_display.specs.Columns.{Text}
use Rattle.filterset_expression.specs.declared.query.TestQuery.{TestQuery}
use Rattle.filterset_graph.specs.declared.package.BuildPlatform.{BuildPlatform}
use Rattle.filterset_sources.specs.declared.list.{Suite.Suite, SuiteStatus.SuiteStatus}
use Rattle.filterset_sources.specs.declared.list.SuiteStatus.TheVariants.{Listed, Skipped}

-- the package, id, name, kind and platform of the binary that contains a test, and the test's name
abbrev pub ListedTest : Type 0
ListedTest = Text × Text × Text × Text × BuildPlatform × Text

-- the test that a query is about
abbrev pub listed_test : TestQuery → ListedTest
listed_test query = let binary = query.binary_query in
    (binary.package_id.now, binary.binary_id.now, binary.binary_name.now, binary.kind.now, binary.platform, query.test_name.now)

-- the test of the suite with this name
abbrev pub test_in : Suite → Text → ListedTest
test_in suite name =
    (suite.package_id, suite.binary_id, string_bytes suite.binary_name, suite.kind, suite.platform, name)

-- these tests, unless nextest skipped the binary, whose tests are then unknown
abbrev pub tests_by : SuiteStatus → List ListedTest → List ListedTest
tests_by Listed tests = tests
tests_by Skipped tests = []

abbrev pub suite_tests : Suite → List ListedTest
suite_tests suite = tests_by suite.status (map (test_in suite) suite.tests.items)

-- the queries are about the tests of the suites, in their order
abbrev pub AreTestsOf : List Suite → List TestQuery → Type 0
AreTestsOf suites queries = map listed_test queries ≡ flat_map suite_tests suites
