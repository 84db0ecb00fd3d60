use Rattle.std.proofs.Common.{◌≡◌, map, take, Bor}
use Rattle.std.specs.List.{filter_map}
use Rattle.filterset_faults.specs.declared.span.SourceSpan.{SourceSpan}
use Rattle.filterset_language.specs.{Views.leaf_of, declared.tree.ParsedLeaf.ParsedLeaf}
use Rattle.nextest_filtering.specs.Bans.{ban}
use Rattle.nextest_filtering.proofs.compile.bans.list_bans.Given as goal

-- there is a fault for each predicate so far
abbrev pub invariant-loop-leaf : goal.invariant-loop-leaf
invariant-loop-leaf l = l.faults.items ≡ filter_map (ban l.kind) (map (λ (r : Bor (ParsedLeaf SourceSpan)). leaf_of r.now) (take l.leaf-index l.leaves))
