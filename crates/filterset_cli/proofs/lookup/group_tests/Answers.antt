use Rattle.std.proofs.{Common.rules, Common.◌≡◌, Common.Some, lemmas.List.Elements.All-push}
use Rattle.filterset_record.specs.declared.groups.GroupedTest.{GroupedTest}
use Rattle.filterset_cli.specs.Index.{entry_at, group_with}
use Rattle.filterset_cli.proofs.lookup.group_tests.Goals as goal

pub loop-test-preserved : goal.loop-test-preserved
loop-test-preserved c =
    let test = c.test-item.result in
    let found : entry_at c.args.by_name.now test.name ≡ Some c.in-Some.first.now = search (rules, c.in-Some.ensures.value, c.as_str.ensures) in
    let group : group_with test.name c.args.tests.now ≡ Some c.as_str-in-Some.result.now = search (rules, c.args, found) in
    rw c.in_ok-push-in-Some.ensures.items (All-push (λ (grouped : GroupedTest). group_with grouped.name.now c.args.tests.now ≡ Some grouped.group.now) c.loop-test.grouped.items _ c.loop-test.invariant group)
