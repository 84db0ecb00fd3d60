-- The rows that the program's entries are.
use Rattle.std.specs.Prelude.{map, string_bytes}
use Rattle.filterset_record.specs.Record.{TestRow, BinaryRow, FiltersetRow, RecordRow}
use Rattle.filterset_record.specs.declared.record.binaries.{TestEntry.TestEntry, BinaryEntry.BinaryEntry}
use Rattle.filterset_record.specs.declared.record.{filtersets.FiltersetEntry.FiltersetEntry, Record.Record}

abbrev pub test_row : TestEntry → TestRow
test_row test = record { name = test.name; group = string_bytes test.group }

abbrev pub binary_row : BinaryEntry → BinaryRow
binary_row binary = record {
  package_id = binary.package_id;
  id = binary.id;
  name = string_bytes binary.name;
  kind = binary.kind;
  platform = binary.platform;
  tests = map test_row binary.tests.items;
}

abbrev pub filterset_row : FiltersetEntry → FiltersetRow
filterset_row filterset = record { text = string_bytes filterset.text; kind = filterset.kind }

abbrev pub record_row : Record → RecordRow
record_row r = record {
  filtersets = map filterset_row r.filtersets.items;
  packages = r.packages.items;
  groups = map (λ s. string_bytes s) r.groups.items;
  default_filter = string_bytes r.default_filter;
  binaries = map binary_row r.binaries.items;
  command = r.command;
}
