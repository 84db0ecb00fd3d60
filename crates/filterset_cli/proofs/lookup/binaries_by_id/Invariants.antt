use Rattle.std.proofs.Common.{take}
use Rattle.filterset_cli.specs.Index.{IsIndexOf}
use Rattle.filterset_cli.proofs.lookup.binaries_by_id.Given as goal

-- the index has the binaries so far
abbrev pub invariant-loop-binary : goal.invariant-loop-binary
invariant-loop-binary l = IsIndexOf (λ b. b.id) (λ b. b.binary.now) (take l.binary-index l.binaries) l.index
