use Rattle.std.proofs.Common.{List, Some, false, take}
use Rattle.filterset_graph.specs.declared.package.PackageMetadata.{PackageMetadata}
use Rattle.filterset_expression.specs.declared.expression.CompiledExpr.{CompiledExpr}
use Rattle.filterset_overrides.specs.Applying.{DoesApply, Test}
use Rattle.filterset_overrides.specs.Giving.{AreExplained, Takes, asked_of}
use Rattle.filterset_overrides.proofs.explaining.giver_of.Given as goal

-- none of the overrides so far takes the setting
abbrev pub invariant-loop-one : goal.invariant-loop-one
invariant-loop-one l =
    (packages : List PackageMetadata) (default : CompiledExpr) (test : Test) → AreExplained packages default test l.explained
    → Takes (DoesApply packages default test) l.key (asked_of (take l.one-index l.explained)) (Some false)
