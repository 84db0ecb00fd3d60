use Rattle.std.proofs.Common.{◌≡◌, ◌++◌, replicate}
use Rattle.filterset_configuration.proofs.content.push_origins.Given as goal

-- the stretch was appended so many times
abbrev pub invariant-loop-byte : goal.invariant-loop-byte
invariant-loop-byte l = l.origins.items ≡ l.initial.origins.items ++ replicate l._byte l.stretch
