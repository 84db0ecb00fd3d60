use Rattle.std.proofs.Common.{◌≡◌, List, [], length, take}
use Rattle.filterset_graph.specs.declared.package.PackageMetadata.{PackageMetadata}
use Rattle.filterset_expression.specs.declared.expression.CompiledExpr.{CompiledExpr}
use Rattle.filterset_overrides.specs.Applied.{AreApplied, AreTaken, overrides_of}
use Rattle.filterset_overrides.specs.{Applying.Test, Counting.EachAfter, Counting.IsGiven}
use Rattle.filterset_overrides.proofs.counting.columns.count_setting.Given as goal

-- the overrides so far have their counts, and it is known which tests get the setting from them
abbrev pub invariant-loop-one : goal.invariant-loop-one
invariant-loop-one l =
    (packages : List PackageMetadata) (default : CompiledExpr) (tests : List Test) → length tests ≡ l.test_count → AreApplied packages default tests l.applied
    → EachAfter (IsGiven packages default tests l.key) [] (overrides_of (take l.one-index l.applied)) l.given.items
    × AreTaken packages default tests l.key (overrides_of (take l.one-index l.applied)) l.taken.items
