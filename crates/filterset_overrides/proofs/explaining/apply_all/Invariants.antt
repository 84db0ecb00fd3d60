use Rattle.std.proofs.Common.{◌≡◌, List, All, take}
use Rattle.filterset_graph.specs.declared.package.PackageMetadata.{PackageMetadata}
use Rattle.filterset_expression.specs.Contexts.{default_of}
use Rattle.filterset_overrides.specs.{Applying.IsCompiledOf, Giving.AreExplained, Giving.asked_of}
use Rattle.filterset_overrides.proofs.explaining.apply_all.Given as goal

-- the overrides so far were asked
abbrev pub invariant-loop-asked : goal.invariant-loop-asked
invariant-loop-asked l = record {
  asked : asked_of l.explained.items ≡ take l.asked-index l.overrides;
  applied : (packages : List PackageMetadata) → All (IsCompiledOf packages) l.overrides
      → AreExplained packages (default_of l.context) (l.query.binary_query, l.query.test_name.now) l.explained.items;
}
