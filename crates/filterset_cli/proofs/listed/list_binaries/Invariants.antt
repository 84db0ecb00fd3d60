use Rattle.std.proofs.Common.{◌≡◌, map, take}
use Rattle.filterset_cli.proofs.listed.list_binaries.Given as goal

abbrev pub invariant-loop-binary : goal.invariant-loop-binary
invariant-loop-binary l = map (λ b. b.binary.now) l.listed.items ≡ take l.binary-index l.binaries
