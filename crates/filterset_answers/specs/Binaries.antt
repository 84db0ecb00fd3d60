-- What filtersets are asked about the test binaries of nextest's list.
use Rattle.std.specs.Prelude.{◌≡◌, Bool, true, false, string_bytes}
use Rattle.filterset_listing.specs.declared.binary.AskedBinary.{AskedBinary}
use Rattle.filterset_sources.specs.declared.list.{Suite.Suite, SuiteStatus.SuiteStatus}
use Rattle.filterset_sources.specs.declared.list.SuiteStatus.TheVariants.{Listed, Skipped}

abbrev pub is_skipped : SuiteStatus → Bool
is_skipped Listed = false
is_skipped Skipped = true

-- the binary is that of the suite
abbrev pub IsAsked : Suite → AskedBinary → Type 0
IsAsked suite binary = (binary.query.package_id.now ≡ suite.package_id) × (binary.query.binary_id.now ≡ suite.binary_id)
    × (binary.query.binary_name.now ≡ string_bytes suite.binary_name) × (binary.query.kind.now ≡ suite.kind)
    × (binary.query.platform ≡ suite.platform) × (binary.tests.now ≡ suite.tests.items)
    × (binary.uncounted.now ≡ suite.uncounted.items) × (binary.is_skipped ≡ is_skipped suite.status)
