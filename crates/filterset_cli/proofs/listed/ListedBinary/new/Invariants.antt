use Rattle.std.proofs.Common.{◌≡◌, map, take}
use Rattle.filterset_record.specs.Columns.{names_of}
use Rattle.filterset_cli.proofs.listed.ListedBinary.new.Given as goal

abbrev pub invariant-loop-test : goal.invariant-loop-test
invariant-loop-test l = map (λ name. name.now) (names_of l.names) ≡ map (λ t. t.name) (take l.test-index l.binary.tests.items)
