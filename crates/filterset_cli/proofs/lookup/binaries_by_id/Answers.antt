use Rattle.std.proofs.Common.{rules, ◌≡◌, true, false, is_some, refl, sym}
use Rattle.std.proofs.lemmas.Map.Text.{btree_map_updates_str}
use Rattle.filterset_record.specs.declared.record.binaries.BinaryEntry.{BinaryEntry}
use Rattle.filterset_cli.specs.{declared.lookup.IndexedBinary.IndexedBinary, Index.entry_at}
use Rattle.filterset_cli.proofs.IndexLemmas.{index_added, index_kept}
use Rattle.filterset_cli.proofs.lookup.binaries_by_id.Goals.{then-not-contains_key+in_ok-by_name+in_ok-grouped+in_ok-insert+in-None-1, then-not-contains_key+in_ok-by_name+in_ok-grouped+in_ok-insert+in-Some-1, else-not-contains_key}
use Rattle.filterset_cli.proofs.lookup.binaries_by_id.Goals as goal

pub loop-binary-preserved : goal.loop-binary-preserved
loop-binary-preserved c =
    let binaries = c.args.binaries.now in
    let i = c.loop-binary.binary-index in
    let binary = c.binary-item.result in
    elim c.if-not-contains_key.branch [
      | then-not-contains_key+in_ok-by_name+in_ok-grouped+in_ok-insert+in-None-1 w ↦
          (let absent : is_some (entry_at c.loop-binary.index binary.id) ≡ false = search (rules, c.contains_key.ensures, c.as_str-id.ensures, w.if-not-contains_key.true) in
          let updates = btree_map_updates_str c.as_str-id.result.now c.loop-binary.index w.insert.new.self _ w.in_ok-insert.ensures.updates in
          rw w.index-is (index_added (λ (b : BinaryEntry). b.id) (λ (b : IndexedBinary). b.binary.now) binaries i binary _ c.loop-binary.index w.insert.new.self c.loop-binary-test.true (sym c.binary-item.is) refl absent (rw c.as_str-id.ensures at updates) c.loop-binary.invariant))
      | then-not-contains_key+in_ok-by_name+in_ok-grouped+in_ok-insert+in-Some-1 w ↦
          (let absent : is_some (entry_at c.loop-binary.index binary.id) ≡ false = search (rules, c.contains_key.ensures, c.as_str-id.ensures, w.if-not-contains_key.true) in
          let updates = btree_map_updates_str c.as_str-id.result.now c.loop-binary.index w.insert.new.self _ w.in_ok-insert.ensures.updates in
          rw w.index-is (index_added (λ (b : BinaryEntry). b.id) (λ (b : IndexedBinary). b.binary.now) binaries i binary _ c.loop-binary.index w.insert.new.self c.loop-binary-test.true (sym c.binary-item.is) refl absent (rw c.as_str-id.ensures at updates) c.loop-binary.invariant))
      | else-not-contains_key w ↦
          (let there : is_some (entry_at c.loop-binary.index binary.id) ≡ true = search (rules, c.contains_key.ensures, c.as_str-id.ensures) in
          rw w.index-is (index_kept (λ (b : BinaryEntry). b.id) (λ (b : IndexedBinary). b.binary.now) binaries i binary c.loop-binary.index c.loop-binary-test.true (sym c.binary-item.is) there c.loop-binary.invariant))
    ]
