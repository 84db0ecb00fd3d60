use Rattle.std.proofs.Common.{◌≡◌, ◌+◌, ◌-◌, ◌<◌, ◌≤◌, length}
use Rattle.filterset_record.specs.{Columns.names_of, Joined.offset}
use Rattle.filterset_record.proofs.hits.name_with_byte.Given as goal

abbrev pub decreases-loop-end : goal.decreases-loop-end
decreases-loop-end l = length (names_of l.names) - l.position

abbrev pub invariant-loop-end : goal.invariant-loop-end
invariant-loop-end l = record {
  later : l.fn.from.position ≤ l.position;
  within : l.position < length (names_of l.names);
  begins : offset (names_of l.names) l.position ≤ l.at;
  ends : l.end ≡ offset (names_of l.names) (l.position + 1);
}
