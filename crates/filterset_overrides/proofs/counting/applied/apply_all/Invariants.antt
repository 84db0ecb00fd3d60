use Rattle.std.proofs.Common.{◌≡◌, List, All, take}
use Rattle.filterset_graph.specs.declared.package.PackageMetadata.{PackageMetadata}
use Rattle.filterset_expression.specs.Contexts.{default_of}
use Rattle.filterset_overrides.specs.Applied.{AreApplied, overrides_of}
use Rattle.filterset_overrides.specs.Applying.{IsCompiledOf, tests_of}
use Rattle.filterset_overrides.proofs.counting.applied.apply_all.Given as goal

-- the overrides so far were asked
abbrev pub invariant-loop-asked : goal.invariant-loop-asked
invariant-loop-asked l = record {
  asked : overrides_of l.all.items ≡ take l.asked-index l.overrides;
  applied : (packages : List PackageMetadata) → All (IsCompiledOf packages) l.overrides
      → AreApplied packages (default_of l.context) (tests_of l.binaries) l.all.items;
}
