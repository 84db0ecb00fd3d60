use Rattle.serde_json.specs.View.{view}
use Rattle.filterset_sources.specs.Suites.{WrongTestList}
use Rattle.filterset_sources.proofs.{ShapeLemmas.entry_handed_on, TestLemmas.counted_list}
use Rattle.filterset_sources.proofs.list.read_test_list.Goals as goal

pub returns-clause-read : goal.returns-clause-read
returns-clause-read c =
    counted_list c.args.run_ignored (view c.args.value.now) c.in_ok-all.field-0.0.items c.in_ok-suites.suites.items c.in_ok-suites.ensures c.in_ok-all.ensures.read

pub returns-in_err-all-clause-refused : goal.returns-in_err-all-clause-refused
returns-in_err-all-clause-refused c =
    entry_handed_on (WrongTestList (view c.args.value.now)) (WrongTestList (view c.args.value.now)) c.from_residual.result c.in_err-all.field-0.0 c.from_residual.ensures.1 (λ place wrong. wrong) c.in_err-all.ensures.place
