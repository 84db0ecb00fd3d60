use Rattle.std.proofs.{Common.◌≡◌, Common.Some, Common.map, Common.sym, lemmas.List.Elements.All-weaker}
use Rattle.std.specs.{List.find, Str.bytes_eq}
use Rattle.filterset_record.specs.{Grouped.IsGrouped, declared.groups.GroupedTest.GroupedTest, Rows.binary_row}
use Rattle.filterset_record.specs.declared.record.binaries.BinaryEntry.{BinaryEntry}
use Rattle.filterset_cli.specs.{Index.group_with, Lookup.matches_recorded_group}
use Rattle.filterset_cli.proofs.LookupLemmas.{listed_group}
use Rattle.filterset_cli.proofs.lookup.RecordLookupPlacedLookup.grouped_tests.Goals as goal

pub returns : goal.returns
returns c =
    let asked = c.args.query.now in
    let binaries = c.args.self.now.binaries.now in
    let binary = c.in-Some.binary.now in
    let found : find (λ (b : BinaryEntry). bytes_eq b.id asked.binary_id.now) binaries ≡ Some binary.binary.now = sym c.in-Some.ensures in
    let grouped = All-weaker (λ (test : GroupedTest). group_with test.name.now binary.binary.now.tests.items ≡ Some test.group.now) (IsGrouped (matches_recorded_group (map binary_row binaries)) asked)
    (λ test is. listed_group binaries asked binary.binary.now test found is) binary.grouped.items binary.placed in
    rw c.deref.ensures.value grouped
