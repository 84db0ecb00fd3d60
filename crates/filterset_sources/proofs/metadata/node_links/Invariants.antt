use Rattle.std.proofs.Common.{◌≡◌, map, take}
use Rattle.filterset_sources.proofs.metadata.node_links.Given as goal

abbrev pub invariant-loop-dependency : goal.invariant-loop-dependency
invariant-loop-dependency l = l.links.items ≡ map (λ d. d.package) (take l.dependency-index l.node.dependencies.items)
