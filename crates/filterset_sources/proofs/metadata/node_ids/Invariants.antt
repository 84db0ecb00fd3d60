use Rattle.std.proofs.Common.{◌≡◌, take}
use Rattle.filterset_sources.specs.Metadata.{node_ids}
use Rattle.filterset_sources.proofs.metadata.node_ids.Given as goal

abbrev pub invariant-loop-node : goal.invariant-loop-node
invariant-loop-node l = l.all.items ≡ node_ids (take l.node-index l.nodes)
