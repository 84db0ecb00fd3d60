use Rattle.std.proofs.Common.{rules, ◌≡◌, true, false, is_some, refl, sym}
use Rattle.std.proofs.lemmas.Map.Text.{btree_map_updates_str}
use Rattle.std.specs.Borrow.{Bor}
use Rattle.filterset_record.specs.declared.record.binaries.TestEntry.{TestEntry}
use Rattle.filterset_cli.specs.Index.{entry_at}
use Rattle.filterset_cli.proofs.IndexLemmas.{index_added, index_kept}
use Rattle.filterset_cli.proofs.lookup.tests_by_name.Goals.{then-not-contains_key+in_ok-insert, else-not-contains_key}
use Rattle.filterset_cli.proofs.lookup.tests_by_name.Goals as goal

pub loop-test-preserved : goal.loop-test-preserved
loop-test-preserved c =
    let tests = c.args.tests.now in
    let i = c.loop-test.test-index in
    let test = c.test-item.result in
    elim c.if-not-contains_key.branch [
      | then-not-contains_key+in_ok-insert w ↦
          (let absent : is_some (entry_at c.loop-test.index test.name) ≡ false = search (rules, c.contains_key.ensures, c.as_str-name.ensures, w.if-not-contains_key.true) in
          let updates = btree_map_updates_str c.as_str-name.result.now c.loop-test.index w.insert.new.self _ w.in_ok-insert.ensures.updates in
          rw w.index-is (index_added (λ (t : TestEntry). t.name) (λ (t : Bor TestEntry). t.now) tests i test _ c.loop-test.index w.insert.new.self c.loop-test-test.true (sym c.test-item.is) refl absent (rw c.as_str-name.ensures at updates) c.loop-test.invariant))
      | else-not-contains_key w ↦
          (let there : is_some (entry_at c.loop-test.index test.name) ≡ true = search (rules, c.contains_key.ensures, c.as_str-name.ensures) in
          rw w.index-is (index_kept (λ (t : TestEntry). t.name) (λ (t : Bor TestEntry). t.now) tests i test c.loop-test.index c.loop-test-test.true (sym c.test-item.is) there c.loop-test.invariant))
    ]
