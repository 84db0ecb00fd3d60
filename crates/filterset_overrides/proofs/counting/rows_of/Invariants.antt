use Rattle.std.proofs.Common.{List, [], take}
use Rattle.filterset_graph.specs.declared.package.PackageMetadata.{PackageMetadata}
use Rattle.filterset_expression.specs.declared.expression.CompiledExpr.{CompiledExpr}
use Rattle.filterset_overrides.specs.{Applied.AreApplied, Applied.overrides_of, Applying.Test}
use Rattle.filterset_overrides.specs.Counting.{EachAfter, IsRow}
use Rattle.filterset_overrides.proofs.counting.rows_of.Given as goal

-- the overrides so far have their rows
abbrev pub invariant-loop-at : goal.invariant-loop-at
invariant-loop-at l =
    (packages : List PackageMetadata) (default : CompiledExpr) (tests : List Test) → AreApplied packages default tests l.applied
    → EachAfter (IsRow packages default tests) [] (overrides_of (take l.at l.applied)) l.rows.items
