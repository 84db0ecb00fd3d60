use Rattle.std.proofs.Common.{take}
use Rattle.std.specs.List.{AllZip}
use Rattle.filterset_deciding.specs.AnyTest.{IsPickOf}
use Rattle.filterset_deciding.proofs.witness.pick_all.Given as goal

-- the answers so far are those of the filtersets so far
abbrev pub invariant-loop-flat : goal.invariant-loop-flat
invariant-loop-flat l = AllZip (IsPickOf l.query l.lookup.group.now) (take l.flat-index l.flats) l.all.items
