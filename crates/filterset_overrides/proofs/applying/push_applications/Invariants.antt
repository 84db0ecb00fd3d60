use Rattle.std.proofs.Common.{◌++◌, List, map, take}
use Rattle.std.specs.List.{AllZip}
use Rattle.filterset_graph.specs.declared.package.PackageMetadata.{PackageMetadata}
use Rattle.filterset_expression.specs.declared.expression.CompiledExpr.{CompiledExpr}
use Rattle.filterset_overrides.specs.{Applying.AppliesAs, Applying.IsCompiledOf, Applying.Test, Asking.IsLaidOut}
use Rattle.filterset_overrides.proofs.applying.push_applications.Given as goal

-- the tests of the binary so far were added
abbrev pub invariant-loop-test : goal.invariant-loop-test
invariant-loop-test l =
    (packages : List PackageMetadata) (default : CompiledExpr) (tests : List Test) → IsCompiledOf packages l.asked → IsLaidOut default l.asked l.flat
    → AllZip (λ test. AppliesAs packages default test l.asked) tests l.initial.applications.items
    → AllZip (λ test. AppliesAs packages default test l.asked) (tests ++ map (λ t. (l.binary.query, t.now)) (take l.test-index l.binary.tests.now)) l.applications.items
