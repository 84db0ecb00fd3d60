use Rattle.std.proofs.Common.{map}
use Rattle.filterset_sources.specs.Suites.{IsCounted}
use Rattle.filterset_sources.specs.declared.list.{Suite.Suite, suites.ListedSuite.ListedSuite}
use Rattle.filterset_sources.proofs.TestLemmas.{AllZip-push, test_row}
use Rattle.filterset_sources.proofs.list.suites.count_all_tests.Goals as goal

pub loop-listed-preserved : goal.loop-listed-preserved
loop-listed-preserved c =
    let Counted : ListedSuite → Suite → Type 0 = λ listed. IsCounted c.args.run_ignored (listed.suite, map test_row listed.tests.items) in
    rw c.in_ok-push.ensures.items
    (AllZip-push Counted c.loop-listed.yielded c.loop-listed.suites.items c.in-Some.listed c.in_ok-count_tests.field-0 c.loop-listed.invariant c.in_ok-count_tests.ensures)
