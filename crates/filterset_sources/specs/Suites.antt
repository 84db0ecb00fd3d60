-- What nextest writes of test binaries.
use Rattle.std.specs.Prelude.{◌≡◌, ◌⊎◌, ℕ, Bool, true, false, not, Contains, List, [], ◌∷◌, codes, filter, map, string_bytes}
use Rattle.serde_json.specs.Data.{Data}
use Rattle.filterset_json.specs.Paths.{joined, key_text}
use Rattle.filterset_json.specs.Places.{First, IsFirstNot, Itself, Place, WrongIfGiven, WrongMember, keyed, keyed_text}
use Rattle.filterset_json.specs.Shape.{Text, IsBoolean, IsPlatform, IsText, Required, Optional}
use Rattle.filterset_sources.specs.{Shape.IsObjectOf, Shape.WrongObject, declared.list.RunIgnored.RunIgnored}
use Rattle.filterset_sources.specs.declared.list.RunIgnored.TheVariants.{All, Default, Only}
use Rattle.filterset_sources.specs.declared.list.{Suite.Suite, SuiteStatus.SuiteStatus}
use Rattle.filterset_sources.specs.declared.list.SuiteStatus.TheVariants.{Listed, Skipped}

-- the value is a name of the status
abbrev pub IsStatus : Data → SuiteStatus → Type 0
IsStatus d Listed = IsText d (codes "listed")
IsStatus d Skipped = IsText d (codes "skipped") ⊎ IsText d (codes "skipped-default-filter")

-- whether a test counts, by whether it is ignored
abbrev pub counts : RunIgnored → Bool → Bool
counts Default is_ignored = not is_ignored
counts Only is_ignored = is_ignored
counts All is_ignored = true

-- a test by its name, and whether it is ignored: not where nothing else is said
abbrev pub IsTest : Text → Data → Text × Bool → Type 0
IsTest key d test = (test.0 ≡ key) × Optional (codes "ignored") IsBoolean false d test.1

-- a test binary, which was listed where nothing else is said
abbrev pub IsBinary : Data → Suite → Type 0
IsBinary d suite = Required (codes "package-id") IsText d suite.package_id
    × Required (codes "binary-id") IsText d suite.binary_id
    × Required (codes "binary-name") IsText d (string_bytes suite.binary_name)
    × Required (codes "kind") IsText d suite.kind
    × Required (codes "build-platform") IsPlatform d suite.platform
    × Optional (codes "status") IsStatus Listed d suite.status

-- a test binary, and all of its tests
abbrev pub ListedRow : Type 0
ListedRow = Suite × List (Text × Bool)

abbrev pub IsListed : Data → ListedRow → Type 0
IsListed d listed = IsBinary d listed.0 × Required (codes "testcases") (IsObjectOf IsTest) d listed.1

-- the same under a key, which is the id of its binary
abbrev pub IsListedUnder : Text → Data → ListedRow → Type 0
IsListedUnder key d listed = IsListed d listed × (listed.0.binary_id ≡ key)

-- the names of the tests of which this holds, by whether they are ignored, in their order
abbrev pub names_if : (Bool → Bool) → List (Text × Bool) → List Text
names_if holds tests = map (λ t. t.0) (filter (λ t. holds t.1) tests)

-- the suite has those of the tests that count, and the others
abbrev pub HasTests : RunIgnored → List (Text × Bool) → Suite → Type 0
HasTests run tests suite = (suite.tests.items ≡ names_if (counts run) tests)
    × (suite.uncounted.items ≡ names_if (λ is_ignored. not (counts run is_ignored)) tests)

-- the suite under a key, which is the id of its binary
abbrev pub IsSuiteUnder : RunIgnored → Text → Data → Suite → Type 0
IsSuiteUnder run key d suite = (tests : List (Text × Bool)) × IsListedUnder key d (suite, tests) × HasTests run tests suite

-- the list has these suites
abbrev pub IsTestList : RunIgnored → Data → List Suite → Type 0
IsTestList run d suites = Required (codes "rust-suites") (IsObjectOf (IsSuiteUnder run)) d suites

-- the suite's package is one of those with these ids
abbrev pub IsOfPackage : List Text → Suite → Type 0
IsOfPackage known suite = Contains known suite.package_id

-- the first part of a suite that is wrong
abbrev pub WrongStatus : Data → Place → Type 0
WrongStatus = Itself IsStatus (codes "`listed`, `skipped` or `skipped-default-filter`")

-- a test that is wrong
abbrev pub WrongTest : Data → Place → Type 0
WrongTest = WrongIfGiven (codes "ignored") (Itself IsBoolean (codes "`true` or `false`"))

abbrev pub WrongSuite : Data → Place → Type 0
WrongSuite d = First (keyed_text (codes "package-id") d ∷ keyed_text (codes "binary-id") d ∷ keyed_text (codes "binary-name") d
    ∷ keyed_text (codes "kind") d ∷ keyed (codes "build-platform") IsPlatform (Itself IsPlatform (codes "`target` or `host`")) d
    ∷ ((s : SuiteStatus) × Optional (codes "status") IsStatus Listed d s, WrongIfGiven (codes "status") WrongStatus d)
    ∷ keyed (codes "testcases") (IsObjectOf IsTest) (WrongObject IsTest (λ key. WrongTest)) d ∷ [])

-- the first part of a suite under a key that is wrong, its own parts first
abbrev pub WrongSuiteUnder : Text → Data → Place → Type 0
WrongSuiteUnder key d place = WrongSuite d place ⊎ (((listed : ListedRow) × IsListed d listed × ¬ (listed.0.binary_id ≡ key))
    × (place ≡ (codes "binary-id", codes "the key of its suite")))

-- the first place of a list that is wrong
abbrev pub WrongTestList : Data → Place → Type 0
WrongTestList = WrongMember (codes "rust-suites") (WrongObject IsListedUnder WrongSuiteUnder)

-- the package of the first suite whose package is none of those with these ids
abbrev pub WrongPackages : List Text → List Suite → Place → Type 0
WrongPackages known suites place = (at : ℕ) × (suite : Suite) × IsFirstNot (IsOfPackage known) suites at suite
    × (place.0 ≡ joined (codes "rust-suites") (joined (key_text suite.binary_id) (codes "package-id")))
    × (place.1 ≡ codes "the id of a package of cargo's metadata")

-- ---- what only contracts of private functions cite

-- the suite is the binary, with those of its tests that count
abbrev pub IsCounted : RunIgnored → ListedRow → Suite → Type 0
IsCounted run listed suite = ((d : Data) → IsBinary d listed.0 → IsBinary d suite)
    × (suite.binary_id ≡ listed.0.binary_id) × HasTests run listed.1 suite
